use Rattle.std.proofs.Common.{◌≡◌, map, take}
use Rattle.admission.specs.declared.task.Task.{Task}
use Rattle.admission.specs.Lengths.{owned}
use Rattle.admission.specs.Tables.{step_of, steps_in}
use Rattle.admission.proofs.lists.Lists.plans.Given as goal

abbrev pub invariant-loop-task : goal.invariant-loop-task
invariant-loop-task l =
    map steps_in l.plans.items ≡ map (λ (task : Task). map step_of (owned l.self.segments.now task)) (take l.task-index l.self.tasks.now)
