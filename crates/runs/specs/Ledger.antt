-- The ledger that is kept beside a list of calls. It is fed each call, whether it was granted, and of a tick the place and
-- the event, and knows nothing of how a controller works.
use Rattle.std.specs.Prelude.{ℕ, ◌+◌, ◌-◌, Bool, true, false, cond, not, ◌&&◌, List, [], ◌∷◌, ◌++◌, length, Some, None, Option, ◌==◌, nat_lt}
use Rattle.shelf.specs.Models.{Model, reading_at, changed}
use Rattle.admission.specs.declared.plan.Step.{Step}
use Rattle.admission.specs.declared.plan.Step.TheVariants.{Compute, Access}
use Rattle.admission.specs.declared.plan.Rule.{Rule}
use Rattle.admission.specs.declared.task.Segment.{Segment}
use Rattle.admission.specs.declared.task.Task.{Task}
use Rattle.admission.specs.Tables.{Table, empty_table, plan_at}
use Rattle.admission.specs.Verdicts.{rule_of_number, table_of}
use Rattle.controller.specs.declared.job.Event.{Event}
use Rattle.controller.specs.declared.job.Event.TheVariants.{Computed, Attempted, Committed, Retried, Idle}
use Rattle.controller.specs.declared.job.Ticked.{Ticked}
use Rattle.controller.specs.Turns.{word_of}
use Rattle.runs.specs.declared.calls.Answer.{Answer}
use Rattle.runs.specs.declared.calls.Answer.TheVariants.{Taken, Opened, Released, Worked, Closed, Reading, Demanded, NoToken, Refused}
use Rattle.runs.specs.Entries.{Entry, adopts, opens, releases, ticks, closes, reads, demands, granted, without}

-- A job of the batch: its place, when it was released, and the segments that are left of it. With none left it has finished.
pub record Booked : Type 0 where
  pub place : ℕ
  pub release : ℕ
  pub left : List Step

-- An open batch.
pub record Book : Type 0 where
  pub clock : ℕ
  -- all its jobs, newest first
  pub jobs : List Booked
  -- the job that worked on the tick before, by its place and release
  pub before : Option (ℕ × ℕ)
  pub retries : ℕ
  pub preemptions : ℕ

pub record Ledger : Type 0 where
  -- the rules of the objects, and the content of each
  pub model : Model
  pub table : Table
  pub book : Option Book
  -- the tokens that were given out and not yet handed in: which are good
  pub held : List Bool

-- beside a factory-new controller
abbrev pub start : Model → Ledger
start model = record { model = model; table = empty_table; book = None; held = [] }

abbrev pub is_done : List Step → Bool
is_done [] = true
is_done (step ∷ later) = false

-- what is left of the latest job of a place; nothing if there is none
abbrev pub left_of : ℕ → List Booked → List Step
left_of place [] = []
left_of place (job ∷ jobs) = cond (job.place == place) job.left (left_of place jobs)

-- when it was released
abbrev pub release_of : ℕ → List Booked → Option ℕ
release_of place [] = None
release_of place (job ∷ jobs) = cond (job.place == place) (Some job.release) (release_of place jobs)

-- the jobs once the latest of a place has so much left
abbrev pub with_left : ℕ → List Step → List Booked → List Booked
with_left place left [] = []
with_left place left (job ∷ jobs) =
    cond (job.place == place) (record { place = job.place; release = job.release; left = left } ∷ jobs) (job ∷ with_left place left jobs)

-- how many jobs have finished, and how many are pending
abbrev pub finished_in : List Booked → ℕ
finished_in [] = 0
finished_in (job ∷ jobs) = cond (is_done job.left) 1 0 + finished_in jobs

abbrev pub pending_in : List Booked → ℕ
pending_in [] = 0
pending_in (job ∷ jobs) = cond (is_done job.left) 0 1 + pending_in jobs

-- whether the job of that place and release is unfinished
abbrev pub unfinished : ℕ → ℕ → List Booked → Bool
unfinished place release [] = false
unfinished place release (job ∷ jobs) =
    cond (job.place == place && job.release == release) (not (is_done job.left)) (unfinished place release jobs)

-- A tick on which the job of a place works is a preemption if another job, which worked on the tick before, is unfinished.
abbrev pub preempts : Option (ℕ × ℕ) → ℕ → List Booked → Bool
preempts None place jobs = false
preempts (Some worker) place jobs = not (worker.0 == place) && unfinished worker.0 worker.1 jobs

-- what is left after an event: computing takes a tick off the first segment left; a commit finishes the access
abbrev pub left_after : Event → List Step → List Step
left_after Computed [] = []
left_after Computed (Compute n ∷ later) = cond (nat_lt 1 n) (Compute (n - 1) ∷ later) later
left_after Computed (Access word n object amount ∷ later) = Access word n object amount ∷ later
left_after Attempted left = left
left_after (Committed object word) [] = []
left_after (Committed object word) (step ∷ later) = later
left_after (Retried object) left = left
left_after Idle left = left

-- the contents once the access that is the first segment left has finished: its word, by the reading of this moment,
-- is applied once
abbrev pub applied : Model → List Step → Model
applied model [] = model
applied model (Compute n ∷ later) = model
applied model (Access word n object amount ∷ later) =
    record { rules = model.rules; contents = changed model object (word_of word (reading_at model object) amount) }

abbrev pub contents_after : Event → Model → List Step → Model
contents_after Computed model left = model
contents_after Attempted model left = model
contents_after (Committed object word) model left = applied model left
contents_after (Retried object) model left = model
contents_after Idle model left = model

abbrev pub retries_by : Event → ℕ
retries_by Computed = 0
retries_by Attempted = 0
retries_by (Committed object word) = 0
retries_by (Retried object) = 1
retries_by Idle = 0

-- who worked: the latest job of a place
abbrev pub worker_at : ℕ → Option ℕ → Option (ℕ × ℕ)
worker_at place None = None
worker_at place (Some release) = Some (place, release)

-- the job of a place has worked
abbrev pub working : Book → ℕ → Event → Book
working book place event =
    record {
      clock = book.clock + 1;
      jobs = with_left place (left_after event (left_of place book.jobs)) book.jobs;
      before = worker_at place (release_of place book.jobs);
      retries = book.retries + retries_by event;
      preemptions = book.preemptions + cond (preempts book.before place book.jobs) 1 0;
    }

-- nobody has worked
abbrev pub idling : Book → Book
idling book =
    record { clock = book.clock + 1; jobs = book.jobs; before = None; retries = book.retries; preemptions = book.preemptions }

abbrev pub after_event : Book → ℕ → Event → Book
after_event book place Computed = working book place Computed
after_event book place Attempted = working book place Attempted
after_event book place (Committed object word) = working book place (Committed object word)
after_event book place (Retried object) = working book place (Retried object)
after_event book place Idle = idling book

abbrev pub ledger_ticked : Ledger → Option Book → Ticked → Ledger
ledger_ticked L None tick = L
ledger_ticked L (Some book) tick =
    record {
      model = contents_after tick.event L.model (left_of tick.place book.jobs);
      table = L.table;
      book = Some (after_event book tick.place tick.event);
      held = L.held;
    }

abbrev pub feed_tick : Ledger → Answer → Ledger
feed_tick L (Taken answer) = L
feed_tick L Opened = L
feed_tick L (Released deadline) = L
feed_tick L (Worked tick) = ledger_ticked L L.book tick
feed_tick L (Closed sums) = L
feed_tick L (Reading reading) = L
feed_tick L (Demanded work charge) = L
feed_tick L NoToken = L
feed_tick L (Refused refusal) = L

abbrev pub with_table : Ledger → Option Rule → List Task → List Segment → Ledger
with_table L None tasks segments = L
with_table L (Some rule) tasks segments =
    record { model = L.model; table = table_of rule tasks segments; book = L.book; held = L.held }

abbrev pub with_book : Ledger → Option Book → List Bool → Ledger
with_book L book held = record { model = L.model; table = L.table; book = book; held = held }

abbrev pub fresh_book : Book
fresh_book = record { clock = 0; jobs = []; before = None; retries = 0; preemptions = 0 }

abbrev pub releasing : Table → ℕ → Option Book → Option Book
releasing table place None = None
releasing table place (Some book) =
    Some (record {
      clock = book.clock;
      jobs = record { place = place; release = book.clock; left = plan_at table.plans place } ∷ book.jobs;
      before = book.before;
      retries = book.retries;
      preemptions = book.preemptions;
    })

-- the ledger after a call and its answer; a call that is turned down changes nothing but the tokens held
abbrev pub feed : Ledger → Entry → Answer → Ledger
feed L (adopts rule tasks segments) a = cond (granted a) (with_table L (rule_of_number rule) tasks segments) L
feed L opens a = cond (granted a) (with_book L (Some fresh_book) (L.held ++ true ∷ [])) (with_book L L.book (L.held ++ false ∷ []))
feed L (releases place) a = cond (granted a) (with_book L (releasing L.table place L.book) L.held) L
feed L ticks a = feed_tick L a
feed L (closes i) a =
    cond (granted a) (with_book L None (without L.held i))
    (cond (nat_lt i (length L.held)) (with_book L L.book (without L.held i)) L)
feed L (reads object) a = L
feed L (demands place t) a = L
