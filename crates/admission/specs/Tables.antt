-- A table of tasks as it is held once taken.
use Rattle.std.specs.Prelude.{ℕ, Bool, true, false, cond, ◌&&◌, ◌||◌, List, [], map, length, get_or, take, ◌==◌, nat_lt, slice_index_or}
use Rattle.std.specs.List.{range_with_len}
use Rattle.admission.specs.declared.task.Segment.{Segment}
use Rattle.admission.specs.declared.task.Task.{Task}
use Rattle.admission.specs.declared.plan.Rule.{Rule}
use Rattle.admission.specs.declared.plan.Rule.TheVariants.{RateMonotonic, DeadlineMonotonic, EarliestDeadlineFirst}
use Rattle.admission.specs.declared.plan.Word.TheVariants.{Put, Add}
use Rattle.admission.specs.declared.plan.Step.{Step}
use Rattle.admission.specs.declared.plan.Step.TheVariants.{Compute, Access}
use Rattle.admission.specs.declared.plan.AdoptedTask.{AdoptedTask}
use Rattle.admission.specs.declared.plan.Plan.{Plan}
use Rattle.admission.specs.Search.{count_below}
use Rattle.admission.specs.Lengths.{attempt_ticks_of, cost, owned}

-- the list of f 0, f 1, .., f (n - 1)
abbrev pub listed : {X : Type 0} → ℕ → (ℕ → X) → List X
listed n f = map f (range_with_len 0 n)

abbrev pub no_task : Task
no_task = record { period = 0; deadline = 0; first = 0; count = 0; rank = 0; witness = 0 }

abbrev pub no_segment : Segment
no_segment = record { kind = 0; size = 0; object = 0; amount = 0 }

abbrev pub no_adopted_task : AdoptedTask
no_adopted_task = record { period = 0; deadline = 0; cost = 0; rank = 0 }

-- whether the jobs are ordered by rank
abbrev pub goes_by_rank : Rule → Bool
goes_by_rank RateMonotonic = true
goes_by_rank DeadlineMonotonic = true
goes_by_rank EarliestDeadlineFirst = false

-- what ranks go by: the shorter is the more urgent
abbrev pub rank_key_of : Rule → Task → ℕ
rank_key_of RateMonotonic task = task.period
rank_key_of DeadlineMonotonic task = task.deadline
rank_key_of EarliestDeadlineFirst task = 0

-- whether the task at one place is ranked before the one at another: by the key, then by the place
abbrev pub is_ranked_before : Rule → List Task → ℕ → ℕ → Bool
is_ranked_before rule tasks a b =
    nat_lt (rank_key_of rule (slice_index_or tasks a no_task)) (rank_key_of rule (slice_index_or tasks b no_task))
    || (rank_key_of rule (slice_index_or tasks a no_task) == rank_key_of rule (slice_index_or tasks b no_task) && nat_lt a b)

-- the rank of a task is the number of tasks ranked before it; there are no ranks under earliest deadline first
abbrev pub rank_of : Rule → List Task → ℕ → ℕ
rank_of rule tasks place =
    cond (goes_by_rank rule) (count_below (length tasks) (λ other. is_ranked_before rule tasks other place)) 0

abbrev pub adopted_task_of : Rule → List Segment → List Task → ℕ → AdoptedTask
adopted_task_of rule segments tasks place =
    record {
      period = (get_or tasks place no_task).period;
      deadline = (get_or tasks place no_task).deadline;
      cost = cost (owned segments (slice_index_or tasks place no_task));
      rank = rank_of rule tasks place;
    }

-- what the tests count, task by task
abbrev pub adopted_tasks_of : Rule → List Segment → List Task → List AdoptedTask
adopted_tasks_of rule segments tasks = listed (length tasks) (adopted_task_of rule segments tasks)

-- a segment as the controller runs it
abbrev pub step_of : Segment → Step
step_of s =
    cond (s.kind == 0) (Compute s.size)
    (Access (cond (s.kind == 1) Put Add) (attempt_ticks_of s.size) s.object s.amount)

-- the steps of each task's jobs
abbrev pub plans_of_tasks : List Segment → List Task → List (List Step)
plans_of_tasks segments tasks = map (λ (task : Task). map step_of (owned segments task)) tasks

-- the steps of a plan
abbrev pub steps_in : Plan → List Step
steps_in plan = take plan.count plan.steps

-- the steps of the jobs of a place
abbrev pub plan_at : List (List Step) → ℕ → List Step
plan_at plans place = slice_index_or plans place []

-- a table, as it is held
pub record Table : Type 0 where
  pub rule : Rule
  -- the longest attempt
  pub attempt : ℕ
  pub tasks : List AdoptedTask
  -- by rank, the least time that shows that the deadline is kept; else 0
  pub witnesses : List ℕ
  pub plans : List (List Step)

abbrev pub empty_table : Table
empty_table = record { rule = RateMonotonic; attempt = 0; tasks = []; witnesses = []; plans = [] }
