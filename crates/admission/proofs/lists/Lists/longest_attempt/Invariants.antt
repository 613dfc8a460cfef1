use Rattle.std.proofs.Common.{◌≡◌, ◌≤◌, max, drop}
use Rattle.admission.specs.Lengths.{longest_attempt_of}
use Rattle.admission.proofs.lists.Lists.longest_attempt.Given as goal

abbrev pub invariant-loop-task : goal.invariant-loop-task
invariant-loop-task l =
    (max l.most (longest_attempt_of l.self.segments.now (drop l.task-index l.self.tasks.now)) ≡ longest_attempt_of l.self.segments.now l.self.tasks.now)
    × (l.most ≤ 65)
