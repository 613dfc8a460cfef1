use Rattle.std.proofs.Common.{◌≡◌, drop}
use Rattle.admission.specs.Verdicts.{tasks_no}
use Rattle.admission.proofs.limit.check_lists.Given as goal

abbrev pub invariant-loop-place : goal.invariant-loop-place
invariant-loop-place g l =
    tasks_no (g.S.Shelf.model l.shelf).rules l.segments l.place (drop l.place l.tasks)
    ≡ tasks_no (g.S.Shelf.model l.shelf).rules l.segments 0 l.tasks
