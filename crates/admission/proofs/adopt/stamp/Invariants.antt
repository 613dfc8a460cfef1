use Rattle.std.proofs.Common.{◌≡◌, ℕ, ◌<◌, ◌≤◌, get_or}
use Rattle.admission.specs.Tables.{no_task, no_adopted_task}
use Rattle.admission.specs.Verdicts.{stamp_of}
use Rattle.admission.proofs.adopt.stamp.Given as goal

abbrev pub invariant-loop-place : goal.invariant-loop-place
invariant-loop-place l =
    ((k : ℕ) → k < l.place → get_or l.tasks k no_task ≡ stamp_of (get_or l.adopted k no_adopted_task).rank (get_or l.witnesses k 0) (get_or l.initial.tasks k no_task))
    × ((k : ℕ) → l.place ≤ k → get_or l.tasks k no_task ≡ get_or l.initial.tasks k no_task)
