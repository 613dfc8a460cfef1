-- The worked examples, one computation each.
use Rattle.std.proofs.Common.{◌≡◌, ℕ, ◌≤◌, List, true, false, [], ◌∷◌, ◌++◌, map, get_or, Some, Ok, Err, Option, Result, refl, ap, arith}
use Rattle.std.specs.Option.{unwrap_or}
use Rattle.shelf.specs.Models.{reading_at, accepts, committed}
use Rattle.admission.specs.declared.task.Task.{Task}
use Rattle.admission.specs.declared.plan.AdoptedTask.{AdoptedTask}
use Rattle.admission.specs.declared.plan.Rule.TheVariants.{RateMonotonic, EarliestDeadlineFirst}
use Rattle.admission.specs.declared.refusal.Refusal.{Refusal}
use Rattle.admission.specs.declared.refusal.Refusal.TheVariants.{Overload, Unschedulable}
use Rattle.admission.specs.Lengths.{attempt_ticks_of, longest_attempt_of}
use Rattle.admission.specs.Tables.{adopted_tasks_of}
use Rattle.admission.specs.Search.{least_up_to}
use Rattle.admission.specs.Tests.{common_multiple, hyperperiod_of, load_of}
use Rattle.admission.proofs.Firsts.{first_some, first_found}
use Rattle.controller.specs.declared.job.Event.TheVariants.{Computed, Attempted, Committed, Retried}
use Rattle.controller.specs.Machines.{adopting, stamped_list, opened, releasing, closing, reading_of, demand_of}
use Rattle.examples.specs.Worked.{segments_of_a, table_of_a, pair_due, compute, start, holds_a, tasks_of_a, after_puts, answers, works, ends, run_start, run_before, run_middle, run_end}

-- A hyperperiod is looked for among the numbers up to 1,000,000, too many to be computed; so it is found among the first.
hyperperiod_at : (tasks : List AdoptedTask) (p : ℕ) → p ≤ 1000000 → least_up_to p (common_multiple tasks) ≡ Some p → hyperperiod_of tasks ≡ Some p
unfolding hyperperiod_of
hyperperiod_at tasks p b h =
    let f = first_found (common_multiple tasks) 1 p p h in
    first_some (common_multiple tasks) 1 1000000 p (record { from = f.from; below = omega arith; passes = f.passes; first = f.first })

-- by deadline, what adoption answers of a table that is taken
answer_at : (hyperperiod : Option ℕ) (p : ℕ) → hyperperiod ≡ Some p → ◌≡◌ {A = Result ℕ Refusal} (Ok (unwrap_or hyperperiod 0)) (Ok p)
answer_at hyperperiod p e = ap (λ (o : Option ℕ). Ok (unwrap_or o 0)) e

pub a_costs : map (λ (x : AdoptedTask). x.cost) (adopted_tasks_of RateMonotonic segments_of_a (table_of_a 20 15)) ≡ 2 ∷ 3 ∷ []
unfolding attempt_ticks_of
a_costs = refl

pub a_attempt : longest_attempt_of segments_of_a (table_of_a 20 15) ≡ 2
unfolding attempt_ticks_of
a_attempt = refl

pub a_taken : adopting start 1 (table_of_a 20 15) segments_of_a ≡ Ok 15
unfolding attempt_ticks_of
a_taken = refl

pub a_witnesses : map (λ (x : Task). x.witness) (stamped_list start 1 (table_of_a 20 15) segments_of_a) ≡ 2 ∷ 15 ∷ []
unfolding attempt_ticks_of
a_witnesses = refl

pub a_ranks : map (λ (x : Task). x.rank) (stamped_list start 1 (table_of_a 20 15) segments_of_a) ≡ 0 ∷ 1 ∷ []
unfolding attempt_ticks_of
a_ranks = refl

pub a_shorter : adopting start 1 (table_of_a 20 14) segments_of_a ≡ Err (Unschedulable 1)
unfolding attempt_ticks_of
a_shorter = refl

pub a_by_deadline : adopting start 3 (table_of_a 25 25) segments_of_a ≡ Ok 25
unfolding attempt_ticks_of
a_by_deadline =
    let e = hyperperiod_at (tasks_of_a 25) 25 (omega arith) refl in
    rw e (answer_at _ 25 e)

pub a_load : load_of 2 (tasks_of_a 25) 25 ≡ 25
unfolding attempt_ticks_of
a_load = refl

pub a_overload_hyperperiod : hyperperiod_of (tasks_of_a 20) ≡ Some 20
unfolding attempt_ticks_of
a_overload_hyperperiod = hyperperiod_at (tasks_of_a 20) 20 (omega arith) refl

pub a_overload : adopting start 3 (table_of_a 20 20) segments_of_a ≡ Err Overload
unfolding attempt_ticks_of
a_overload = rw a_overload_hyperperiod refl

pub a_overload_load : load_of 2 (tasks_of_a 20) 20 ≡ 21
unfolding attempt_ticks_of
a_overload_load = refl

-- the tasks of the pair as the tests count them
abbrev pair_of : ℕ → ℕ → List AdoptedTask
pair_of first second = adopted_tasks_of EarliestDeadlineFirst (compute 2 ∷ []) (pair_due first second)

pub pair_fails : adopting start 3 (pair_due 2 3) (compute 2 ∷ []) ≡ Err (Unschedulable 3)
unfolding attempt_ticks_of
pair_fails = rw (hyperperiod_at (pair_of 2 3) 10 (omega arith) refl) refl

pub pair_taken : adopting start 3 (pair_due 2 4) (compute 2 ∷ []) ≡ Ok 10
unfolding attempt_ticks_of
pair_taken =
    let e = hyperperiod_at (pair_of 2 4) 10 (omega arith) refl in
    rw e (answer_at _ 10 e)

pub attempts : map attempt_ticks_of (0 ∷ 1 ∷ 4 ∷ 5 ∷ 255 ∷ []) ≡ 1 ∷ 2 ∷ 2 ∷ 3 ∷ 65 ∷ []
unfolding attempt_ticks_of
attempts = refl

pub a_demand : demand_of holds_a 1 15 ≡ Ok (9, 6)
unfolding attempt_ticks_of
a_demand = refl

pub queue_refuses : accepts (after_puts 64) 0 63 ≡ false
unfolding attempt_ticks_of
queue_refuses = refl

pub queue_accepts : accepts (after_puts 64) 0 64 ≡ true
unfolding attempt_ticks_of
queue_accepts = refl

pub queue_misses : get_or ((committed (after_puts 64) 0 64 7).contents 0) 0 0 ≡ 1
unfolding attempt_ticks_of
queue_misses = refl

pub queue_waits : reading_at (committed (after_puts 64) 0 64 7) 0 ≡ 64
unfolding attempt_ticks_of
queue_waits = refl

pub run_deadlines : releasing (opened holds_a) 1 ∷ releasing run_before 0 ∷ [] ≡ Ok 15 ∷ Ok 7 ∷ []
unfolding attempt_ticks_of
run_deadlines = refl

pub run_answers :
    answers 2 run_start ++ answers 5 run_middle
    ≡ works 1 Computed ∷ works 1 Attempted ∷ works 0 (Committed 0 1) ∷ ends 0 Computed ∷ works 1 (Retried 0) ∷ works 1 Attempted ∷ ends 1 (Committed 0 11) ∷ []
unfolding attempt_ticks_of
run_answers = refl

pub run_sums : closing run_end true ≡ Ok (record { ticks = 7; releases = 2; finished = 2; pending = 0; retries = 1; preemptions = 1 })
unfolding attempt_ticks_of
run_sums = refl

pub run_reading : reading_of run_end 0 ≡ Ok 11
unfolding attempt_ticks_of
run_reading = refl
