use Rattle.std.proofs.Common.{ℕ, ◌+◌, ◌<◌, ◌≤◌, get_or}
use Rattle.admission.specs.Tables.{no_adopted_task}
use Rattle.admission.specs.Tests.{Steady}
use Rattle.admission.proofs.task_set.TaskSet.steady_until.Given as goal

abbrev pub invariant-loop-task : goal.invariant-loop-task
invariant-loop-task l =
    (l.at.ticks < l.until) × (l.until ≤ l.at.ticks + 1000000) × ((a : ℕ) → a < l.task-index → Steady (get_or l.self.tasks.now a no_adopted_task) l.at.ticks l.until)
