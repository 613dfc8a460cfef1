use Rattle.std.proofs.Common.{◌≡◌, length}
use Rattle.admission.specs.Tables.{listed, adopted_task_of}
use Rattle.admission.proofs.lists.Lists.adopted_tasks.Given as goal

abbrev pub invariant-loop-place : goal.invariant-loop-place
invariant-loop-place l =
    (length l.all.items ≡ l.place) × (l.all.items ≡ listed l.place (adopted_task_of l.rule l.self.segments.now l.self.tasks.now))
