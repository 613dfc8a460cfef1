-- The jobs that a rule counts for a task of a rank.
use Rattle.std.proofs.Common.{◌≡◌, ℕ, List, refl}
use Rattle.admission.specs.declared.demand.Among.{Among}
use Rattle.admission.specs.declared.plan.AdoptedTask.{AdoptedTask}
use Rattle.admission.specs.declared.plan.Rule.{Rule}
use Rattle.admission.specs.declared.plan.Rule.TheVariants.{RateMonotonic, DeadlineMonotonic, EarliestDeadlineFirst}
use Rattle.admission.specs.Demand.{work_within, charge_within, among_of, rule_among, rank_among}

pub counted_is : (rule : Rule) (attempt : ℕ) (tasks : List AdoptedTask) (rank t : ℕ) (among : Among) → among ≡ among_of rule rank
    → (work_within (rule_among among) tasks (rank_among among) t ≡ work_within rule tasks rank t)
    × (charge_within (rule_among among) attempt tasks (rank_among among) t ≡ charge_within rule attempt tasks rank t)
counted_is RateMonotonic attempt tasks rank t among e = rw e (refl, refl)
counted_is DeadlineMonotonic attempt tasks rank t among e = rw e (refl, refl)
counted_is EarliestDeadlineFirst attempt tasks rank t among e = rw e (refl, refl)
