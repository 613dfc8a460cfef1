use Rattle.std.proofs.Common.{◌≡◌, drop}
use Rattle.admission.specs.Verdicts.{segments_no}
use Rattle.admission.proofs.limit.check_segments.Given as goal

abbrev pub invariant-loop-segment : goal.invariant-loop-segment
invariant-loop-segment g l =
    segments_no (g.S.Shelf.model l.shelf).rules l.place (drop l.segment-index l.segments)
    ≡ segments_no (g.S.Shelf.model l.shelf).rules l.place l.segments
