use Rattle.std.proofs.Common.{ℕ, ◌<◌, ◌≤◌}
use Rattle.admission.specs.Demand.{demand_by_deadline}
use Rattle.admission.proofs.task_set.TaskSet.is_enough.Given as goal

abbrev pub invariant-loop-t : goal.invariant-loop-t
invariant-loop-t l = (l.t ≤ l.fn.end.ticks) × ((u : ℕ) → l.t < u → u ≤ l.fn.end.ticks → demand_by_deadline l.self.attempt l.self.tasks.now u ≤ u)

abbrev pub decreases-loop-t : goal.decreases-loop-t
decreases-loop-t l = l.t
