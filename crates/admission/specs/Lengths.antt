-- How long segments take.
use Rattle.std.specs.Prelude.{ℕ, ◌+◌, ◌/◌, max, cond, List, [], ◌∷◌, take, drop, ◌==◌}
use Rattle.admission.specs.declared.task.Segment.{Segment}
use Rattle.admission.specs.declared.task.Task.{Task}
use Rattle.admission.specs.declared.plan.Step.{Step}
use Rattle.admission.specs.declared.plan.Step.TheVariants.{Compute, Access}

-- An attempt copies n words, four to a tick, and takes one tick more: 1 + ⌈n/4⌉.
unfoldable pub attempt_ticks_of : ℕ → ℕ
attempt_ticks_of n = 1 + (n + 3) / 4

-- the ticks of a segment, with one attempt to an access
abbrev pub ticks_of : Segment → ℕ
ticks_of s = cond (s.kind == 0) s.size (attempt_ticks_of s.size)

-- the ticks of an attempt, 0 for a segment that computes
abbrev pub attempt_of : Segment → ℕ
attempt_of s = cond (s.kind == 0) 0 (attempt_ticks_of s.size)

-- the ticks of a step, with one attempt to an access
abbrev pub ticks_in : Step → ℕ
ticks_in (Compute ticks) = ticks
ticks_in (Access word ticks object amount) = ticks

-- the ticks of an attempt, 0 for computing
abbrev pub attempt_in : Step → ℕ
attempt_in (Compute ticks) = 0
attempt_in (Access word ticks object amount) = ticks

-- the cost of a job
abbrev pub cost : List Segment → ℕ
cost [] = 0
cost (s ∷ ss) = ticks_of s + cost ss

abbrev pub longest : List Segment → ℕ
longest [] = 0
longest (s ∷ ss) = max (attempt_of s) (longest ss)

-- the segments that a task owns
abbrev pub owned : List Segment → Task → List Segment
owned segments task = take task.count (drop task.first segments)

-- the longest attempt among the segments that tasks own, 0 without accesses
abbrev pub longest_attempt_of : List Segment → List Task → ℕ
longest_attempt_of segments [] = 0
longest_attempt_of segments (task ∷ tasks) = max (longest (owned segments task)) (longest_attempt_of segments tasks)
