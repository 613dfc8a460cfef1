use Rattle.std.proofs.Common.{◌≡◌, ℕ, ◌-◌, ◌<◌, ◌≤◌, length, get_or, Some}
use Rattle.admission.specs.Tables.{no_adopted_task}
use Rattle.admission.specs.Tests.{least_witness}
use Rattle.admission.proofs.Witnesses.{Short}
use Rattle.admission.proofs.task_set.TaskSet.find_witnesses.Given as goal

-- the times before t are too short
abbrev pub invariant-times : goal.invariant-times
invariant-times l =
    (1 ≤ l.t) × (l.t ≤ l.task.deadline) × (l.task.deadline ≤ 1000000) × Short l.self.attempt l.self.tasks.now l.place l.t

abbrev pub decreases-times : goal.decreases-times
decreases-times l = l.task.deadline - l.t

-- the tasks ranked before have their least witnesses
abbrev pub invariant-loop-place : goal.invariant-loop-place
invariant-loop-place l =
    (length l.witnesses ≡ 32)
    × ((place : ℕ) → place < length l.self.tasks.now → (get_or l.self.tasks.now place no_adopted_task).rank < l.place-index
    → least_witness l.self.attempt l.self.tasks.now place ≡ Some (get_or l.witnesses place 0))
