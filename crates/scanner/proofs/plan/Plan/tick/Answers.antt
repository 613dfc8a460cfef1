use Rattle.std.proofs.Common.{vec_items, rules, arith}
use Rattle.scanner.specs.Plans.{draft}
use Rattle.scanner.proofs.Planning.{ticks_more}
use Rattle.scanner.proofs.plan.Plan.tick.Goals as goal

pub returns : goal.returns
returns c =
    ticks_more _ _ (draft c.args.self.now) (vec_items c.args.self.now.calls) (vec_items c.resize_with.new.self) _ c.args.times (λ p x q h. search rules) c.in_ok-resize_with.ensures.items
    (omega (arith, c.len-2.ensures, c.args.self.now.calls.ok.0))
    (omega (arith, c.in_ok-resize_with.ensures.len, c.resize_with.new.self.ok.0))
