use Rattle.std.proofs.Common.{◌≡◌, ◌+◌, ◌*◌, ◌≤◌, drop}
use Rattle.admission.specs.Lengths.{cost}
use Rattle.admission.proofs.lists.Owned.job_cost.Given as goal

abbrev pub invariant-loop-segment : goal.invariant-loop-segment
invariant-loop-segment l =
    (l.sum + cost (drop l.segment-index l.self.segments.now) ≡ cost l.self.segments.now)
    × (l.sum ≤ l.segment-index * 100000)
