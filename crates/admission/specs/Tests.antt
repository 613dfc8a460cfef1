-- When a table keeps its deadlines: the inequalities of the three rules, and what names a table that fails.
use Rattle.std.specs.Prelude.{◌≡◌, ℕ, ◌+◌, ◌-◌, ◌*◌, ◌/◌, ◌%◌, ◌<◌, ◌≤◌, Bool, not, ◌&&◌, ltb, List, length, is_some, Option, ◌==◌, nat_le, nat_lt, slice_index, slice_index_or}
use Rattle.admission.specs.declared.plan.AdoptedTask.{AdoptedTask}
use Rattle.admission.specs.Search.{sum_below, least_up_to, first_below, some_below}
use Rattle.admission.specs.Tables.{no_adopted_task}
use Rattle.admission.specs.Demand.{demand_by_rank, demand_by_deadline}

-- By rank: each task has a time, its witness, up to its deadline, within which all that it can wait for gets done.
abbrev pub Witnessed : ℕ → List AdoptedTask → ℕ → ℕ → Type 0
Witnessed attempt tasks place t =
    (1 ≤ t) × (t ≤ (slice_index_or tasks place no_adopted_task).deadline) × (demand_by_rank attempt tasks place t ≤ t)

abbrev pub MeetsByRank : ℕ → List AdoptedTask → List ℕ → Type 0
MeetsByRank attempt tasks witnesses =
    (place : ℕ) → place < length tasks → Witnessed attempt tasks place (slice_index witnesses place)

-- By deadline: within any time there is enough of it.
abbrev pub MeetsByDeadline : ℕ → List AdoptedTask → Type 0
MeetsByDeadline attempt tasks = (t : ℕ) → demand_by_deadline attempt tasks t ≤ t

-- ranks are below the number of tasks, and no two tasks share one
pub record Ranked (tasks : List AdoptedTask) : Type 0 where
  pub below : (place : ℕ) → place < length tasks → (slice_index_or tasks place no_adopted_task).rank < length tasks
  pub apart : (a b : ℕ) → a < length tasks → b < length tasks → (slice_index_or tasks a no_adopted_task).rank ≡ (slice_index_or tasks b no_adopted_task).rank → a ≡ b

-- The places in the order of their ranks: each rank below their number is that of the place that stands there, and each
-- place stands at its rank.
abbrev pub RanksBelow : List AdoptedTask → Type 0
RanksBelow tasks = (place : ℕ) → place < length tasks → (slice_index_or tasks place no_adopted_task).rank < length tasks

abbrev pub PlacesEntered : List AdoptedTask → List ℕ → Type 0
PlacesEntered tasks order = (place : ℕ) → place < length tasks → slice_index order (slice_index_or tasks place no_adopted_task).rank ≡ place

abbrev pub EntriesBelow : List AdoptedTask → List ℕ → Type 0
EntriesBelow tasks order = (rank : ℕ) → rank < length tasks → slice_index order rank < length tasks

abbrev pub EntriesRanked : List AdoptedTask → List ℕ → Type 0
EntriesRanked tasks order = (rank : ℕ) → rank < length tasks → (slice_index_or tasks (slice_index order rank) no_adopted_task).rank ≡ rank

pub record Ordered (tasks : List AdoptedTask) (order : List ℕ) : Type 0 where
  pub below : RanksBelow tasks
  pub places : PlacesEntered tasks order
  pub entries : EntriesBelow tasks order
  pub ranked : EntriesRanked tasks order

-- the least witness of a task
abbrev pub least_witness : ℕ → List AdoptedTask → ℕ → Option ℕ
least_witness attempt tasks place =
    least_up_to (slice_index_or tasks place no_adopted_task).deadline (λ t. nat_le (demand_by_rank attempt tasks place t) t)

-- a task without a witness
abbrev pub unmet : ℕ → List AdoptedTask → ℕ → Bool
unmet attempt tasks place = not (is_some (least_witness attempt tasks place))

-- the place of the lowest rank whose task has no witness
abbrev pub lowest_unmet : ℕ → List AdoptedTask → Option ℕ
lowest_unmet attempt tasks =
    first_below (length tasks) (λ place.
    unmet attempt tasks place
    && not (some_below (length tasks) (λ other.
    nat_lt (slice_index_or tasks other no_adopted_task).rank (slice_index_or tasks place no_adopted_task).rank && unmet attempt tasks other)))

-- whether each period divides a number
abbrev pub common_multiple : List AdoptedTask → ℕ → Bool
common_multiple tasks n = not (some_below (length tasks) (λ a. not (n % (slice_index_or tasks a no_adopted_task).period == 0)))

-- the hyperperiod is the least common multiple of the periods, if that is at most 1,000,000
unfoldable pub hyperperiod_of : List AdoptedTask → Option ℕ
hyperperiod_of tasks = least_up_to 1000000 (common_multiple tasks)

-- the load of a hyperperiod: each of its jobs at its cost and one attempt more
abbrev pub load_of : ℕ → List AdoptedTask → ℕ → ℕ
load_of attempt tasks hyperperiod =
    sum_below (length tasks) (λ a.
    hyperperiod / (slice_index_or tasks a no_adopted_task).period * ((slice_index_or tasks a no_adopted_task).cost + attempt))

-- the least time up to a hyperperiod within which more is asked for than there is
abbrev pub least_overrun : ℕ → List AdoptedTask → ℕ → Option ℕ
least_overrun attempt tasks hyperperiod = least_up_to hyperperiod (λ t. ltb t (demand_by_deadline attempt tasks t))

-- between two times the jobs of a task that are due do not change
abbrev pub Steady : AdoptedTask → ℕ → ℕ → Type 0
Steady task t until =
    (u : ℕ) → t ≤ u → u < until
    → ((u + task.period - task.deadline) / task.period ≡ (t + task.period - task.deadline) / task.period)
    × ((u + task.period - task.deadline - 1) / task.period ≡ (t + task.period - task.deadline - 1) / task.period)
