use Rattle.std.proofs.Common.{ℕ, ◌≤◌, not, is_some, Option, sym, ap, arith}
use Rattle.admission.specs.Demand.{demand_by_deadline}
use Rattle.admission.proofs.Plateaus.{enough_down, overrun_none, overrun_some}
use Rattle.admission.proofs.task_set.TaskSet.is_enough.Goals as goal

pub loop-t-init : goal.loop-t-init
loop-t-init c = (omega arith, (λ u a b. absurd (omega arith)))

pub loop-t-preserved : goal.loop-t-preserved
loop-t-preserved c =
    let attempt = c.args.self.now.attempt in
    let tasks = c.args.self.now.tasks.now in
    let enough : demand_by_deadline attempt tasks c.loop-t.t ≤ c.loop-t.t = omega (arith, c.demand_by_deadline-needed.ensures, c.if-needed-t.false) in (
      omega (arith, c.saturating_sub-t.ensures, c.if-needed-t.false, c.loop-t.invariant.0),
      (λ u a b.
          enough_down attempt tasks c.loop-t.t c.args.end.ticks c.args.self.now.limits enough c.loop-t.invariant.1 u
          (omega (arith, a, c.saturating_sub-t.ensures, c.demand_by_deadline-needed.ensures)) b),
    )

pub returns-then-needed-t : goal.returns-then-needed-t
returns-then-needed-t c =
    sym (overrun_some c.args.self.now.attempt c.args.self.now.tasks.now c.args.end.ticks c.loop-t.t (omega arith) c.loop-t.invariant.0
    (omega (arith, c.demand_by_deadline-needed.ensures, c.if-needed-t.true)))

pub returns : goal.returns
returns c =
    sym (ap (λ (o : Option ℕ). not (is_some o)) (overrun_none c.args.self.now.attempt c.args.self.now.tasks.now c.args.end.ticks (λ u a b. c.loop-t.invariant.1 u (omega arith) b)))
