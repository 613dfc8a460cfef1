-- What adoption answers and leaves: the questions in their order, and the table that is taken.
use Rattle.std.specs.Prelude.{◌≡◌, ℕ, ◌+◌, Bool, true, false, cond, ◌&&◌, ◌||◌, List, [], ◌∷◌, length, get_or, Some, None, Ok, Err, Option, Result, MatchResult, ◌==◌, nat_le, nat_lt, slice_index, slice_index_or}
use Rattle.std.specs.Option.{option_map, unwrap_or}
use Rattle.shelf.specs.Models.{Rules}
use Rattle.admission.specs.declared.task.Segment.{Segment}
use Rattle.admission.specs.declared.task.Task.{Task}
use Rattle.admission.specs.declared.plan.Rule.{Rule}
use Rattle.admission.specs.declared.plan.Rule.TheVariants.{RateMonotonic, DeadlineMonotonic, EarliestDeadlineFirst}
use Rattle.admission.specs.declared.plan.AdoptedTask.{AdoptedTask}
use Rattle.admission.specs.declared.refusal.Refusal.{Refusal}
use Rattle.admission.specs.declared.refusal.Refusal.TheVariants.{TaskCount, UnknownRule, PeriodOrDeadline, SegmentRange, KindOrSize, AccessObject, LongHyperperiod, Overload, Unschedulable, NoPlace, TimeRange}
use Rattle.admission.specs.Search.{max_below}
use Rattle.admission.specs.Lengths.{owned, longest_attempt_of}
use Rattle.admission.specs.Tables.{Table, listed, no_task, no_adopted_task, goes_by_rank, adopted_tasks_of, plans_of_tasks}
use Rattle.admission.specs.Demand.{work_within, charge_within}
use Rattle.admission.specs.Tests.{least_witness, lowest_unmet, hyperperiod_of, load_of, least_overrun}

-- a question: nothing if the answer is yes, else its refusal
abbrev pub asked : Bool → Refusal → Option Refusal
asked true refusal = None
asked false refusal = Some refusal

-- the first "no" of two questions
abbrev pub first_no : Option Refusal → Option Refusal → Option Refusal
first_no None later = later
first_no (Some refusal) later = Some refusal

-- the value, unless a question is answered no
abbrev pub unless : {X : Type 0} → Option Refusal → X → Result X Refusal
unless None x = Ok x
unless (Some refusal) x = Err refusal

abbrev pub rule_of_number : ℕ → Option Rule
rule_of_number n =
    cond (n == 1) (Some RateMonotonic)
    (cond (n == 2) (Some DeadlineMonotonic) (cond (n == 3) (Some EarliestDeadlineFirst) None))

-- the rule of a number, or the refusal of one that has none
abbrev pub HasNumber : ℕ → Result Rule Refusal → Type 0
HasNumber n result = MatchResult result (λ rule. rule_of_number n ≡ Some rule) (λ e. (rule_of_number n ≡ None) × (e ≡ UnknownRule))

-- the limits of a record
abbrev pub has_fit_times : Task → Bool
has_fit_times task = nat_le 1 task.period && nat_le task.period 1000000 && nat_le 1 task.deadline && nat_le task.deadline task.period

abbrev pub has_fit_range : List Segment → Task → Bool
has_fit_range segments task = nat_le 1 task.count && nat_le task.count 8 && nat_le (task.first + task.count) (length segments)

abbrev pub has_fit_size : Segment → Bool
has_fit_size s =
    cond (s.kind == 0) (nat_le 1 s.size && nat_le s.size 100000)
    (nat_le s.kind 2 && nat_le s.size 255)

abbrev pub has_object : Rules → Segment → Bool
has_object rules s = s.kind == 0 || rules.exists s.object

-- the first "no" about a task's segments, about a task, and about all tasks from a place on
abbrev pub segments_no : Rules → ℕ → List Segment → Option Refusal
segments_no rules place [] = None
segments_no rules place (s ∷ ss) =
    first_no (asked (has_fit_size s) (KindOrSize place))
    (first_no (asked (has_object rules s) (AccessObject place)) (segments_no rules place ss))

abbrev pub task_no : Rules → List Segment → ℕ → Task → Option Refusal
task_no rules segments place task =
    first_no (asked (has_fit_times task) (PeriodOrDeadline place))
    (first_no (asked (has_fit_range segments task) (SegmentRange place)) (segments_no rules place (owned segments task)))

abbrev pub tasks_no : Rules → List Segment → ℕ → List Task → Option Refusal
tasks_no rules segments place [] = None
tasks_no rules segments place (task ∷ tasks) =
    first_no (task_no rules segments place task) (tasks_no rules segments (place + 1) tasks)

-- the first "no" of the tests
abbrev pub ranks_no : ℕ → List AdoptedTask → Option Refusal
ranks_no attempt tasks = option_map Unschedulable (lowest_unmet attempt tasks)

abbrev pub hyperperiod_no : ℕ → List AdoptedTask → Option ℕ → Option Refusal
hyperperiod_no attempt tasks None = Some LongHyperperiod
hyperperiod_no attempt tasks (Some hyperperiod) =
    first_no (asked (nat_le (load_of attempt tasks hyperperiod) hyperperiod) Overload)
    (option_map Unschedulable (least_overrun attempt tasks hyperperiod))

abbrev pub deadlines_no : ℕ → List AdoptedTask → Option Refusal
deadlines_no attempt tasks = hyperperiod_no attempt tasks (hyperperiod_of tasks)

abbrev pub test_no : Rule → ℕ → List AdoptedTask → Option Refusal
test_no rule attempt tasks = cond (goes_by_rank rule) (ranks_no attempt tasks) (deadlines_no attempt tasks)

-- the least witness of each task, 0 under earliest deadline first
abbrev pub witnesses_of : Rule → ℕ → List AdoptedTask → List ℕ
witnesses_of rule attempt tasks =
    listed (length tasks) (λ place. cond (goes_by_rank rule) (unwrap_or (least_witness attempt tasks place) 0) 0)

abbrev pub table_of : Rule → List Task → List Segment → Table
table_of rule tasks segments =
    record {
      rule = rule;
      attempt = longest_attempt_of segments tasks;
      tasks = adopted_tasks_of rule segments tasks;
      witnesses = witnesses_of rule (longest_attempt_of segments tasks) (adopted_tasks_of rule segments tasks);
      plans = plans_of_tasks segments tasks;
    }

-- the answer of a table that is taken: the greatest witness, or the hyperperiod
abbrev pub answer_of : Table → ℕ
answer_of table =
    cond (goes_by_rank table.rule) (max_below (length table.tasks) (λ place. slice_index table.witnesses place))
    (unwrap_or (hyperperiod_of table.tasks) 0)

-- the first "no" of all the questions about a table
abbrev pub table_no : Rules → List Task → List Segment → Rule → Option Refusal
table_no rules tasks segments rule =
    first_no (tasks_no rules segments 0 tasks)
    (test_no rule (longest_attempt_of segments tasks) (adopted_tasks_of rule segments tasks))

abbrev pub verdict_under : Rules → List Task → List Segment → Option Rule → Result Table Refusal
verdict_under rules tasks segments None = Err UnknownRule
verdict_under rules tasks segments (Some rule) = unless (table_no rules tasks segments rule) (table_of rule tasks segments)

-- the table that is taken, or the first "no"
abbrev pub verdict : Rules → ℕ → List Task → List Segment → Result Table Refusal
verdict rules number tasks segments =
    cond (nat_le 1 (length tasks) && nat_le (length tasks) 32) (verdict_under rules tasks segments (rule_of_number number)) (Err TaskCount)

-- what the call answers
abbrev pub answered : Result Table Refusal → Result ℕ Refusal
answered (Ok table) = Ok (answer_of table)
answered (Err refusal) = Err refusal

-- the table that is held after the call
abbrev pub held_after : Result Table Refusal → Table → Table
held_after (Ok table) before = table
held_after (Err refusal) before = before

-- a record with its rank and witness
abbrev pub stamp_of : ℕ → ℕ → Task → Task
stamp_of rank witness task =
    record { period = task.period; deadline = task.deadline; first = task.first; count = task.count; rank = rank; witness = witness }

-- each record with the rank and the witness of its place
abbrev pub stamped_by : List AdoptedTask → List ℕ → List Task → List Task
stamped_by adopted witnesses tasks =
    listed (length tasks) (λ place. stamp_of (get_or adopted place no_adopted_task).rank (slice_index witnesses place) (slice_index_or tasks place no_task))

-- the caller's list after the call
abbrev pub list_after : Result Table Refusal → List Task → List Task
list_after (Ok table) tasks = stamped_by table.tasks table.witnesses tasks
list_after (Err refusal) tasks = tasks

-- the question demand: the work and the retry charge at a place within t ticks
abbrev pub demanded : Table → ℕ → ℕ → Result (ℕ × ℕ) Refusal
demanded table place t =
    let rank = (get_or table.tasks place no_adopted_task).rank in
    unless
    (first_no (asked (nat_lt place (length table.tasks)) NoPlace) (asked (nat_le 1 t && nat_le t 1000000) TimeRange))
    (work_within table.rule table.tasks rank t, charge_within table.rule table.attempt table.tasks rank t)
