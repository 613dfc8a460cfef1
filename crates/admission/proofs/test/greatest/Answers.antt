use Rattle.std.proofs.Common.{get_or, length, rules, ◌∙◌}
use Rattle.admission.proofs.Greatest.{greatest_below}
use Rattle.admission.proofs.test.greatest.Goals as goal

pub returns : goal.returns
returns c =
    c.unwrap_or.ensures
    ∙ greatest_below (λ k. get_or c.args.numbers.now k 0) (length c.args.numbers.now) c.max.result (search rules) (search rules) (search rules)
