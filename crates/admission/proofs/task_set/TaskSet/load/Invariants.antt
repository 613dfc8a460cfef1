use Rattle.std.proofs.Common.{◌≡◌, ◌+◌, ◌*◌, ◌/◌, ◌≤◌, get_or}
use Rattle.admission.specs.Search.{sum_below}
use Rattle.admission.specs.Tables.{no_adopted_task}
use Rattle.admission.proofs.task_set.TaskSet.load.Given as goal

abbrev pub invariant-loop-task : goal.invariant-loop-task
invariant-loop-task l =
    (l.sum ≡ sum_below l.task-index (λ a. l.hyperperiod.ticks / (get_or l.self.tasks.now a no_adopted_task).period * ((get_or l.self.tasks.now a no_adopted_task).cost + l.self.attempt)))
    × (l.sum ≤ l.task-index * 2000000000000)
