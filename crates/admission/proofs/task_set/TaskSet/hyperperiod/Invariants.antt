use Rattle.std.proofs.Common.{◌≤◌}
use Rattle.admission.specs.Multiples.{IsHyperperiod}
use Rattle.admission.proofs.task_set.TaskSet.hyperperiod.Given as goal

abbrev pub invariant-loop-task : goal.invariant-loop-task
invariant-loop-task l = (l.multiple ≤ 1000000) × IsHyperperiod l.self.tasks.now l.task-index l.multiple
