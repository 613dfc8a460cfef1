-- Worked examples, computed from the definitions.
use Rattle.std.specs.Prelude.{◌≡◌, ℕ, zero, suc, ◌+◌, true, false, List, [], ◌∷◌, ◌++◌, map, Some, Ok, Err, Result, slice_index_or}
use Rattle.shelf.specs.Models.{Model, reading_at, accepts, committed}
use Rattle.shelf.specs.Cells.{cell_model}
use Rattle.shelf.specs.Queues.{queue_model}
use Rattle.admission.specs.declared.task.Segment.{Segment}
use Rattle.admission.specs.declared.task.Task.{Task}
use Rattle.admission.specs.declared.plan.AdoptedTask.{AdoptedTask}
use Rattle.admission.specs.declared.plan.Rule.TheVariants.{RateMonotonic, EarliestDeadlineFirst}
use Rattle.admission.specs.declared.refusal.Refusal.{Refusal}
use Rattle.admission.specs.declared.refusal.Refusal.TheVariants.{Overload, Unschedulable}
use Rattle.admission.specs.Lengths.{attempt_ticks_of, longest_attempt_of}
use Rattle.admission.specs.Tables.{adopted_tasks_of}
use Rattle.admission.specs.Tests.{hyperperiod_of, load_of}
use Rattle.controller.specs.declared.job.Event.{Event}
use Rattle.controller.specs.declared.job.Event.TheVariants.{Computed, Attempted, Committed, Retried}
use Rattle.controller.specs.declared.job.Ticked.{Ticked}
use Rattle.controller.specs.Machines.{Machine, new_machine, adopting, adopted, stamped_list, opened, releasing, released, ticking, ticked, closing, reading_of, demand_of}

-- a task with `count` segments from `first` on
abbrev pub task : ℕ → ℕ → ℕ → ℕ → Task
task period deadline first count =
    record { period = period; deadline = deadline; first = first; count = count; rank = 0; witness = 0 }

abbrev pub compute : ℕ → Segment
compute ticks = record { kind = 0; size = ticks; object = 0; amount = 0 }

abbrev pub add : ℕ → ℕ → ℕ → Segment
add size object amount = record { kind = 2; size = size; object = object; amount = amount }

-- Table A. The first task adds 1 to object 0 in attempts of one tick and computes for one. The second computes for
-- one tick and adds 10 to object 0 in attempts of two.
abbrev pub segments_of_a : List Segment
segments_of_a = add 0 0 1 ∷ compute 1 ∷ compute 1 ∷ add 3 0 10 ∷ []

-- with another period and deadline of the second task
abbrev pub table_of_a : ℕ → ℕ → List Task
table_of_a period deadline = task 5 5 0 2 ∷ task period deadline 2 2 ∷ []

-- two tasks of one segment that computes for two ticks, every ten ticks
abbrev pub pair_due : ℕ → ℕ → List Task
pair_due first second = task 10 first 0 1 ∷ task 10 second 0 1 ∷ []

-- a controller over a cell at 0
abbrev pub start : Machine
start = new_machine (cell_model 0)

abbrev pub holds_a : Machine
holds_a = adopted start 1 (table_of_a 20 15) segments_of_a

-- the tasks of A as the tests count them, under earliest deadline first
abbrev pub tasks_of_a : ℕ → List AdoptedTask
tasks_of_a period = adopted_tasks_of EarliestDeadlineFirst segments_of_a (table_of_a period period)

-- a queue after n words were put, each with the reading of its moment
abbrev pub after_puts : ℕ → Model
after_puts zero = queue_model 0 []
after_puts (suc n) = committed (after_puts n) 0 n (n + 1)

-- a machine after some ticks, and what those ticks answer
abbrev pub after : ℕ → Machine → Machine
after zero m = m
after (suc n) m = after n (ticked m)

abbrev pub answers : ℕ → Machine → List (Result Ticked Refusal)
answers zero m = []
answers (suc n) m = ticking m ∷ answers n (ticked m)

-- the job of a place worked, and has work left
abbrev pub works : ℕ → Event → Result Ticked Refusal
works place event = Ok (record { place = place; event = event; finished = false })

-- the job of a place worked and finished
abbrev pub ends : ℕ → Event → Result Ticked Refusal
ends place event = Ok (record { place = place; event = event; finished = true })

-- A run of table A: the second task is released first, two ticks later the first task, and five ticks follow.
abbrev pub run_start : Machine
run_start = released (opened holds_a) 1

abbrev pub run_before : Machine
run_before = after 2 run_start

abbrev pub run_middle : Machine
run_middle = released run_before 0

abbrev pub run_end : Machine
run_end = after 5 run_middle

pub record WorkedExamples : Type 0 where
  pub a_costs : map (λ (x : AdoptedTask). x.cost) (adopted_tasks_of RateMonotonic segments_of_a (table_of_a 20 15)) ≡ 2 ∷ 3 ∷ []
  pub a_attempt : longest_attempt_of segments_of_a (table_of_a 20 15) ≡ 2
  pub a_taken : adopting start 1 (table_of_a 20 15) segments_of_a ≡ Ok 15
  pub a_witnesses : map (λ (x : Task). x.witness) (stamped_list start 1 (table_of_a 20 15) segments_of_a) ≡ 2 ∷ 15 ∷ []
  pub a_ranks : map (λ (x : Task). x.rank) (stamped_list start 1 (table_of_a 20 15) segments_of_a) ≡ 0 ∷ 1 ∷ []
  -- a deadline one tick shorter fails at the second task
  pub a_shorter : adopting start 1 (table_of_a 20 14) segments_of_a ≡ Err (Unschedulable 1)
  -- earliest deadline first, the second task every 25 ticks: a load of 25 in 25 ticks
  pub a_by_deadline : adopting start 3 (table_of_a 25 25) segments_of_a ≡ Ok 25
  pub a_load : load_of 2 (tasks_of_a 25) 25 ≡ 25
  -- every 20 ticks: a load of 21 in 20 ticks
  pub a_overload : adopting start 3 (table_of_a 20 20) segments_of_a ≡ Err Overload
  pub a_overload_hyperperiod : hyperperiod_of (tasks_of_a 20) ≡ Some 20
  pub a_overload_load : load_of 2 (tasks_of_a 20) 20 ≡ 21
  -- four ticks of work do not fit into three, and fit into four
  pub pair_fails : adopting start 3 (pair_due 2 3) (compute 2 ∷ []) ≡ Err (Unschedulable 3)
  pub pair_taken : adopting start 3 (pair_due 2 4) (compute 2 ∷ []) ≡ Ok 10
  pub attempts : map attempt_ticks_of (0 ∷ 1 ∷ 4 ∷ 5 ∷ 255 ∷ []) ≡ 1 ∷ 2 ∷ 2 ∷ 3 ∷ 65 ∷ []
  pub a_demand : demand_of holds_a 1 15 ≡ Ok (9, 6)
  -- a full queue: an older reading is refused, the present one counts a miss
  pub queue_refuses : accepts (after_puts 64) 0 63 ≡ false
  pub queue_accepts : accepts (after_puts 64) 0 64 ≡ true
  pub queue_misses : slice_index_or ((committed (after_puts 64) 0 64 7).contents 0) 0 0 ≡ 1
  pub queue_waits : reading_at (committed (after_puts 64) 0 64 7) 0 ≡ 64
  -- the run of table A: the second task loses an attempt to the first, which preempts it
  pub run_deadlines : releasing (opened holds_a) 1 ∷ releasing run_before 0 ∷ [] ≡ Ok 15 ∷ Ok 7 ∷ []
  pub run_answers :
      answers 2 run_start ++ answers 5 run_middle
      ≡ works 1 Computed ∷ works 1 Attempted ∷ works 0 (Committed 0 1) ∷ ends 0 Computed ∷ works 1 (Retried 0) ∷ works 1 Attempted ∷ ends 1 (Committed 0 11) ∷ []
  pub run_sums : closing run_end true ≡ Ok (record { ticks = 7; releases = 2; finished = 2; pending = 0; retries = 1; preemptions = 1 })
  pub run_reading : reading_of run_end 0 ≡ Ok 11
