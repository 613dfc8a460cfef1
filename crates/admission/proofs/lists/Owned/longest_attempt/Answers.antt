use Rattle.std.proofs.Common.{refl, rules, ◌∙◌}
use Rattle.admission.specs.Lengths.{attempt_of, longest}
use Rattle.admission.specs.Tables.{no_segment}
use Rattle.admission.proofs.Greatest.{greatest_is}
use Rattle.admission.proofs.lists.Owned.longest_attempt.Goals as goal

pub returns-clause-is : goal.returns-clause-is
returns-clause-is c =
    c.unwrap_or.ensures
    ∙ greatest_is longest attempt_of no_segment refl (λ x xs. refl) c.args.self.now.segments.now c.max.result (search rules) (search rules) (search rules)
