-- The part of the segment list that a task owns.
use Rattle.std.proofs.Common.{◌≡◌, ◌+◌, ◌≤◌, List, length, arith}
use Rattle.std.proofs.lemmas.List.{length-take, length-drop}
use Rattle.admission.specs.declared.task.Segment.{Segment}
use Rattle.admission.specs.declared.task.Task.{Task}
use Rattle.admission.specs.Lengths.{owned}

pub owned_length : (segments : List Segment) (task : Task) → task.first + task.count ≤ length segments → length (owned segments task) ≡ task.count
owned_length segments task h = simp (length-take, length-drop) (omega arith)
