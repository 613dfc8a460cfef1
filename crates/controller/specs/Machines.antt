-- A controller as plain lists and numbers, and what each call answers and leaves.
use Rattle.std.specs.Prelude.{ℕ, ◌+◌, min, Bool, true, false, cond, not, List, length, replicate, Some, None, Ok, Err, Option, Result, nat_le, nat_lt, slice_index_or, slice_set}
use Rattle.std.specs.List.{slice_get}
use Rattle.std.specs.Option.{option_map}
use Rattle.shelf.specs.Models.{Model, reading_at}
use Rattle.admission.specs.declared.plan.Step.{Step}
use Rattle.admission.specs.declared.task.Segment.{Segment}
use Rattle.admission.specs.declared.task.Task.{Task}
use Rattle.admission.specs.declared.refusal.Refusal.{Refusal}
use Rattle.admission.specs.declared.refusal.Refusal.TheVariants.{BatchOpen, AlreadyOpen, NoBatch, NoPlace, TooSoon, Unfinished, ClockEnd, VoidToken, NoObject}
use Rattle.admission.specs.Search.{count_below}
use Rattle.admission.specs.Tables.{Table, empty_table, plan_at, no_adopted_task}
use Rattle.admission.specs.Held.{held}
use Rattle.admission.specs.Verdicts.{asked, first_no, unless, verdict, answered, held_after, list_after, demanded}
use Rattle.schedule.specs.Batches.{preemption}
use Rattle.controller.specs.declared.batch.OpenBatch.{OpenBatch}
use Rattle.controller.specs.declared.controller.Core.{Core}
use Rattle.controller.specs.declared.job.Job.{Job}
use Rattle.controller.specs.declared.job.Event.{Event}
use Rattle.controller.specs.declared.job.Event.TheVariants.{Computed, Attempted, Committed, Retried, Idle}
use Rattle.controller.specs.declared.job.Ticked.{Ticked}
use Rattle.controller.specs.declared.job.Sums.{Sums}
use Rattle.controller.specs.Turns.{Turn, start_of, turn}
use Rattle.controller.specs.Choices.{no_job, pending_at, chosen}

-- an open batch
pub record Batch : Type 0 where
  pub clock : ℕ
  pub releases : ℕ
  pub finished : ℕ
  pub retries : ℕ
  pub preemptions : ℕ
  -- the record of each place
  pub jobs : List Job
  -- the place of the job that worked on the last tick, unless it finished
  pub last : Option ℕ

pub record Machine : Type 0 where
  -- the shelf: its rules, and the content of each object
  pub model : Model
  -- the table that is held
  pub table : Table
  pub batch : Option Batch

abbrev pub batch_in : OpenBatch → Batch
batch_in b =
    record {
      clock = b.tally.clock;
      releases = b.tally.releases;
      finished = b.tally.finished;
      retries = b.tally.retries;
      preemptions = b.tally.preemptions;
      jobs = b.jobs;
      last = b.last;
    }

abbrev pub machine : Model → Core → Machine
machine model core = record { model = model; table = held core.table; batch = option_map batch_in core.batch }

-- factory-new
abbrev pub new_machine : Model → Machine
new_machine model = record { model = model; table = empty_table; batch = None }

-- the machine with another batch
abbrev pub with_batch : Machine → Option Batch → Machine
with_batch m batch = record { model = m.model; table = m.table; batch = batch }

-- adopt: the verdict on a table
abbrev pub judged : Machine → ℕ → List Task → List Segment → Option Batch → Result Table Refusal
judged m rule tasks segments None = verdict m.model.rules rule tasks segments
judged m rule tasks segments (Some batch) = Err BatchOpen

abbrev pub adopting : Machine → ℕ → List Task → List Segment → Result ℕ Refusal
adopting m rule tasks segments = answered (judged m rule tasks segments m.batch)

abbrev pub adopted : Machine → ℕ → List Task → List Segment → Machine
adopted m rule tasks segments =
    record { model = m.model; table = held_after (judged m rule tasks segments m.batch) m.table; batch = m.batch }

abbrev pub stamped_list : Machine → ℕ → List Task → List Segment → List Task
stamped_list m rule tasks segments = list_after (judged m rule tasks segments m.batch) tasks

-- open
abbrev pub fresh_batch : Batch
fresh_batch =
    record { clock = 0; releases = 0; finished = 0; retries = 0; preemptions = 0; jobs = replicate 32 no_job; last = None }

abbrev pub openable : Option Batch → Bool
openable None = true
openable (Some batch) = false

abbrev pub opening : Machine → Result (Unit {0}) Refusal
opening m = unless (asked (openable m.batch) AlreadyOpen) tt

abbrev pub opened_batch : Option Batch → Batch
opened_batch None = fresh_batch
opened_batch (Some batch) = batch

abbrev pub opened : Machine → Machine
opened m = with_batch m (Some (opened_batch m.batch))

-- release: the first of the batch, or at least a period after the last
abbrev pub spaced : Option ℕ → ℕ → ℕ → Bool
spaced None period clock = true
spaced (Some released) period clock = nat_le (released + period) clock

abbrev pub release_no : Table → Batch → ℕ → Option Refusal
release_no table batch place =
    first_no (asked (nat_lt place (length table.tasks)) NoPlace)
    (first_no (asked (spaced (slice_index_or batch.jobs place no_job).released (slice_index_or table.tasks place no_adopted_task).period batch.clock) TooSoon)
    (asked (not (pending_at batch.jobs place)) Unfinished))

abbrev pub releasing_in : Table → ℕ → Option Batch → Result ℕ Refusal
releasing_in table place None = Err NoBatch
releasing_in table place (Some batch) =
    unless (release_no table batch place) (batch.clock + (slice_index_or table.tasks place no_adopted_task).deadline)

abbrev pub releasing : Machine → ℕ → Result ℕ Refusal
releasing m place = releasing_in m.table place m.batch

-- a job at the start of its steps
abbrev pub started_job : List Step → ℕ → Job
started_job steps clock = record { state = start_of (slice_get steps 0); step = 0; released = Some clock }

abbrev pub with_release : Table → Batch → ℕ → Batch
with_release table batch place =
    record {
      clock = batch.clock;
      releases = min (batch.releases + 1) 18446744073709551615;
      finished = batch.finished;
      retries = batch.retries;
      preemptions = batch.preemptions;
      jobs = slice_set batch.jobs place (started_job (plan_at table.plans place) batch.clock);
      last = batch.last;
    }

abbrev pub released_in : Table → ℕ → Option Refusal → Batch → Batch
released_in table place None batch = with_release table batch place
released_in table place (Some refusal) batch = batch

abbrev pub released_batch : Table → ℕ → Option Batch → Option Batch
released_batch table place None = None
released_batch table place (Some batch) = Some (released_in table place (release_no table batch place) batch)

abbrev pub released : Machine → ℕ → Machine
released m place = with_batch m (released_batch m.table place m.batch)

-- tick
abbrev pub one : Bool → ℕ
one b = cond b 1 0

abbrev pub is_retry_event : Event → Bool
is_retry_event Computed = false
is_retry_event Attempted = false
is_retry_event (Committed object word) = false
is_retry_event (Retried object) = true
is_retry_event Idle = false

-- the batch once a tick on which the job of a place has worked is counted
abbrev pub counted : Batch → ℕ → Event → Batch
counted batch place event =
    record {
      clock = batch.clock + 1;
      releases = batch.releases;
      finished = batch.finished + one (not (pending_at batch.jobs place));
      retries = batch.retries + one (is_retry_event event);
      preemptions = batch.preemptions + preemption batch.last place;
      jobs = batch.jobs;
      last = cond (not (pending_at batch.jobs place)) None (Some place);
    }

abbrev pub with_job : Batch → ℕ → Job → Batch
with_job batch place job =
    record {
      clock = batch.clock;
      releases = batch.releases;
      finished = batch.finished;
      retries = batch.retries;
      preemptions = batch.preemptions;
      jobs = slice_set batch.jobs place job;
      last = batch.last;
    }

-- the batch after a tick on which the job of a place made a turn
abbrev pub with_turn : Batch → ℕ → Turn → Batch
with_turn batch place t = counted (with_job batch place t.job) place t.event

abbrev pub with_idle : Batch → Batch
with_idle batch =
    record {
      clock = batch.clock + 1;
      releases = batch.releases;
      finished = batch.finished;
      retries = batch.retries;
      preemptions = batch.preemptions;
      jobs = batch.jobs;
      last = None;
    }

-- what comes of a tick
pub record Tick : Type 0 where
  pub answer : Ticked
  pub batch : Batch
  pub model : Model

abbrev pub idle_tick : Model → Batch → Tick
idle_tick model batch =
    record { answer = record { place = 0; event = Idle; finished = false }; batch = with_idle batch; model = model }

abbrev pub turn_tick : Batch → ℕ → Turn → Tick
turn_tick batch place t =
    record {
      answer = record { place = place; event = t.event; finished = not (pending_at (slice_set batch.jobs place t.job) place) };
      batch = with_turn batch place t;
      model = t.model;
    }

-- the tick of the chosen job, by its present step; a job without one does not work
abbrev pub step_tick : Model → Table → Batch → ℕ → Option Step → Tick
step_tick model table batch place None = idle_tick model batch
step_tick model table batch place (Some step) =
    let job = slice_index_or batch.jobs place no_job in
    turn_tick batch place (turn model job step (slice_get (plan_at table.plans place) (job.step + 1)))

abbrev pub choice_tick : Model → Table → Batch → Option ℕ → Tick
choice_tick model table batch None = idle_tick model batch
choice_tick model table batch (Some place) =
    step_tick model table batch place (slice_get (plan_at table.plans place) (slice_index_or batch.jobs place no_job).step)

abbrev pub tick_of : Model → Table → Batch → Tick
tick_of model table batch = choice_tick model table batch (chosen table.rule table.tasks batch.jobs)

abbrev pub ticking_in : Model → Table → Option Batch → Result Ticked Refusal
ticking_in model table None = Err NoBatch
ticking_in model table (Some batch) = unless (asked (nat_lt batch.clock 1000000000) ClockEnd) (tick_of model table batch).answer

abbrev pub ticking : Machine → Result Ticked Refusal
ticking m = ticking_in m.model m.table m.batch

abbrev pub ticked_in : Machine → Option Batch → Machine
ticked_in m None = m
ticked_in m (Some batch) =
    cond (nat_lt batch.clock 1000000000)
    (record { model = (tick_of m.model m.table batch).model; table = m.table; batch = Some (tick_of m.model m.table batch).batch })
    m

abbrev pub ticked : Machine → Machine
ticked m = ticked_in m m.batch

-- close
abbrev pub sums_of : Table → Batch → Sums
sums_of table batch =
    record {
      ticks = batch.clock;
      releases = batch.releases;
      finished = batch.finished;
      pending = count_below (length table.tasks) (pending_at batch.jobs);
      retries = batch.retries;
      preemptions = batch.preemptions;
    }

abbrev pub closing_in : Table → Option Batch → Result Sums Refusal
closing_in table None = Err NoBatch
closing_in table (Some batch) = Ok (sums_of table batch)

abbrev pub closing : Machine → Bool → Result Sums Refusal
closing m good = cond good (closing_in m.table m.batch) (Err VoidToken)

abbrev pub closed : Machine → Bool → Machine
closed m good = cond good (with_batch m None) m

-- the two questions, which alter nothing
abbrev pub reading_of : Machine → ℕ → Result ℕ Refusal
reading_of m object = unless (asked (m.model.rules.exists object) NoObject) (reading_at m.model object)

abbrev pub demand_of : Machine → ℕ → ℕ → Result (ℕ × ℕ) Refusal
demand_of m place t = demanded m.table place t
