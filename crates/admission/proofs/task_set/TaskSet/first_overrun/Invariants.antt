use Rattle.std.proofs.Common.{ℕ, ◌-◌, ◌<◌, ◌≤◌}
use Rattle.admission.specs.Demand.{demand_by_deadline}
use Rattle.admission.proofs.task_set.TaskSet.first_overrun.Given as goal

abbrev pub invariant-loop-t : goal.invariant-loop-t
invariant-loop-t l =
    (1 ≤ l.t) × (l.t ≤ l.hyperperiod.ticks) × ((u : ℕ) → 1 ≤ u → u < l.t → demand_by_deadline l.self.attempt l.self.tasks.now u ≤ u)

abbrev pub decreases-loop-t : goal.decreases-loop-t
decreases-loop-t l = l.hyperperiod.ticks - l.t
