-- What the definitions of the tests amount to.
use Rattle.std.specs.Prelude.{◌≡◌, ℕ, ◌<◌, ◌≤◌, Bool, true, false, ◌↔◌, List, length, is_some, Some, None}
use Rattle.admission.specs.declared.task.Segment.{Segment}
use Rattle.admission.specs.declared.task.Task.{Task}
use Rattle.admission.specs.declared.plan.Rule.{Rule}
use Rattle.admission.specs.declared.plan.AdoptedTask.{AdoptedTask}
use Rattle.admission.specs.Search.{least_up_to}
use Rattle.admission.specs.Tables.{goes_by_rank, adopted_tasks_of}
use Rattle.admission.specs.Limits.{AllLawful}
use Rattle.admission.specs.Demand.{demand_by_deadline}
use Rattle.admission.specs.Multiples.{Common, IsHyperperiod}
use Rattle.admission.specs.Tests.{Ranked, MeetsByRank, MeetsByDeadline, hyperperiod_of, load_of}
use Rattle.admission.specs.Verdicts.{ranks_no, deadlines_no, witnesses_of}

-- t is the least number from 1 to `most` that passes a test
pub record Least (most : ℕ) (test : ℕ → Bool) (t : ℕ) : Type 0 where
  pub positive : 1 ≤ t
  pub within : t ≤ most
  pub passes : test t ≡ true
  pub first : (u : ℕ) → 1 ≤ u → u < t → test u ≡ false

-- What a search finds is the least number that passes, and it finds nothing only if none passes. So a witness is
-- the least time that is enough, and a time that is named is the least that fails.
abbrev pub SearchFindsTheLeast : Type 0
SearchFindsTheLeast =
    (most : ℕ) (test : ℕ → Bool)
    → ((t : ℕ) → (least_up_to most test ≡ Some t) ↔ Least most test t)
    × ((least_up_to most test ≡ None) ↔ ((t : ℕ) → 1 ≤ t → t ≤ most → test t ≡ false))

-- The hyperperiod is the least common multiple of the periods: each divides it, and it divides each number that all divide.
abbrev pub HyperperiodIsLeastCommonMultiple : Type 0
HyperperiodIsLeastCommonMultiple =
    (tasks : List AdoptedTask)
    → ((p : ℕ) → hyperperiod_of tasks ≡ Some p → IsHyperperiod tasks (length tasks) p)
    × (hyperperiod_of tasks ≡ None → (n : ℕ) → 1 ≤ n → Common tasks (length tasks) n → 1000000 < n)

-- Ranks are below the number of tasks, and no two tasks share one.
abbrev pub RanksAreApart : Type 0
RanksAreApart =
    (rule : Rule) (segments : List Segment) (tasks : List Task) → goes_by_rank rule ≡ true → Ranked (adopted_tasks_of rule segments tasks)

-- There is enough within every time exactly when the load of a common multiple of the periods is at most that
-- multiple, and there is enough within each time up to it.
abbrev pub OneHyperperiodIsEnough : Type 0
OneHyperperiodIsEnough =
    (attempt : ℕ) (tasks : List AdoptedTask) (p : ℕ) → AllLawful tasks → 1 ≤ p → Common tasks (length tasks) p
    → MeetsByDeadline attempt tasks
    ↔ ((load_of attempt tasks p ≤ p) × ((t : ℕ) → 1 ≤ t → t ≤ p → demand_by_deadline attempt tasks t ≤ t))

-- A table passes the test by rank exactly when the witnesses that would be held are witnesses.
abbrev pub TestByRankIsExact : Type 0
TestByRankIsExact =
    (rule : Rule) (attempt : ℕ) (tasks : List AdoptedTask) → goes_by_rank rule ≡ true
    → (ranks_no attempt tasks ≡ None) ↔ MeetsByRank attempt tasks (witnesses_of rule attempt tasks)

-- A table with a hyperperiod passes the test by deadline exactly when there is enough within every time.
abbrev pub TestByDeadlineIsExact : Type 0
TestByDeadlineIsExact =
    (attempt : ℕ) (tasks : List AdoptedTask) → AllLawful tasks → is_some (hyperperiod_of tasks) ≡ true
    → (deadlines_no attempt tasks ≡ None) ↔ MeetsByDeadline attempt tasks
