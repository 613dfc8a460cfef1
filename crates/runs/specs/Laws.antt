-- The law that a run keeps at every point of its list of calls.
use Rattle.std.specs.Prelude.{◌≡◌, ℕ, ◌+◌, ◌<◌, ◌≤◌, Bool, true, false, cond, List, [], ◌∷◌, length, get_or, take, Some, None, Err, Option, nat_lt, slice_index_or}
use Rattle.shelf.specs.Models.{Model, reading_at}
use Rattle.admission.specs.declared.plan.Step.{Step}
use Rattle.admission.specs.declared.plan.Step.TheVariants.{Compute, Access}
use Rattle.admission.specs.declared.refusal.Refusal.TheVariants.{BatchOpen, AlreadyOpen, NoBatch, NoPlace, TooSoon, Unfinished, ClockEnd, VoidToken, NoObject}
use Rattle.admission.specs.Tables.{Table, no_adopted_task}
use Rattle.admission.specs.Verdicts.{asked, first_no, unless, verdict, answered, list_after, demanded}
use Rattle.schedule.specs.Theorems.{Admitted}
use Rattle.controller.specs.declared.job.Event.{Event}
use Rattle.controller.specs.declared.job.Event.TheVariants.{Computed, Attempted, Committed, Retried, Idle}
use Rattle.controller.specs.declared.job.Sums.{Sums}
use Rattle.controller.specs.Machines.{Machine, new_machine, spaced}
use Rattle.controller.specs.Turns.{word_of}
use Rattle.runs.specs.declared.calls.Answer.{Answer}
use Rattle.runs.specs.declared.calls.Answer.TheVariants.{Taken, Opened, Released, Worked, Closed, Reading, Demanded, NoToken, Refused}
use Rattle.runs.specs.Entries.{Entry, adopts, opens, releases, ticks, closes, reads, demands, adopt_answer_of, release_answer_of, read_answer_of, demand_answer_of, good_in, answered_all, stepped_all}
use Rattle.runs.specs.Ledger.{Booked, Book, Ledger, is_done, left_of, release_of, finished_in, pending_in, left_after, feed, start}

-- whether a batch is open
abbrev pub is_open : Option Book → Bool
is_open None = false
is_open (Some book) = true

-- a release, by the ledger
abbrev pub release_fits : Table → ℕ → Option Book → Answer
release_fits table place None = Refused NoBatch
release_fits table place (Some book) =
    release_answer_of
    (unless
    (first_no (asked (nat_lt place (length table.tasks)) NoPlace)
    (first_no (asked (spaced (release_of place book.jobs) (get_or table.tasks place no_adopted_task).period book.clock) TooSoon)
    (asked (is_done (left_of place book.jobs)) Unfinished)))
    (book.clock + (get_or table.tasks place no_adopted_task).deadline))

-- the sums of a batch, by the ledger
abbrev pub sums_of : Book → Sums
sums_of book =
    record {
      ticks = book.clock;
      releases = length book.jobs;
      finished = finished_in book.jobs;
      pending = pending_in book.jobs;
      retries = book.retries;
      preemptions = book.preemptions;
    }

abbrev pub close_fits : Option Book → Answer
close_fits None = Refused NoBatch
close_fits (Some book) = Closed (sums_of book)

-- An event fits what is left of the job that is named: computing a segment that computes, the others an access.
-- A commit tells the object, and the word by the reading of this moment; a retry tells the object.
abbrev pub EventFits : Model → Event → List Step → Type 0
EventFits model Computed [] = ⊥
EventFits model Computed (Compute n ∷ later) = Unit {0}
EventFits model Computed (Access word n object amount ∷ later) = ⊥
EventFits model Attempted [] = ⊥
EventFits model Attempted (Compute n ∷ later) = ⊥
EventFits model Attempted (Access word n object amount ∷ later) = Unit {0}
EventFits model (Committed o w) [] = ⊥
EventFits model (Committed o w) (Compute n ∷ later) = ⊥
EventFits model (Committed o w) (Access word n object amount ∷ later) =
    (o ≡ object) × (w ≡ word_of word (reading_at model object) amount)
EventFits model (Retried o) [] = ⊥
EventFits model (Retried o) (Compute n ∷ later) = ⊥
EventFits model (Retried o) (Access word n object amount ∷ later) = o ≡ object
EventFits model Idle left = ⊥

-- a fact of each job of a batch
abbrev pub EachJob : (Booked → Type 0) → List Booked → Type 0
EachJob Fact [] = Unit {0}
EachJob Fact (job ∷ jobs) = Fact job × EachJob Fact jobs

-- A tick fits: the job that is named is there, unfinished, and its first segment left is of the right kind; the answer
-- tells whether it finished. A tick without work names nobody, and every job has finished.
pub record WorkFits (model : Model) (table : Table) (book : Book) (place : ℕ) (event : Event) (finished : Bool) : Type 0 where
  pub there : place < length table.tasks
  pub fits : EventFits model event (left_of place book.jobs)
  pub tells : finished ≡ is_done (left_after event (left_of place book.jobs))

pub record IdleFits (book : Book) (place : ℕ) (finished : Bool) : Type 0 where
  pub nobody : place ≡ 0
  pub none : EachJob (λ job. is_done job.left ≡ true) book.jobs
  pub tells : finished ≡ false

abbrev pub TickFits : Model → Table → Book → ℕ → Event → Bool → Type 0
TickFits model table book place Computed finished = WorkFits model table book place Computed finished
TickFits model table book place Attempted finished = WorkFits model table book place Attempted finished
TickFits model table book place (Committed object word) finished = WorkFits model table book place (Committed object word) finished
TickFits model table book place (Retried object) finished = WorkFits model table book place (Retried object) finished
TickFits model table book place Idle finished = IdleFits book place finished

-- a tick's answer: a refusal exactly when it is due, else what fits
abbrev pub AnswerFits : Model → Table → Book → Answer → Type 0
AnswerFits model table book (Taken answer) = ⊥
AnswerFits model table book Opened = ⊥
AnswerFits model table book (Released deadline) = ⊥
AnswerFits model table book (Worked tick) =
    (book.clock < 1000000000) × TickFits model table book tick.place tick.event tick.finished
AnswerFits model table book (Closed sums) = ⊥
AnswerFits model table book (Reading reading) = ⊥
AnswerFits model table book (Demanded work charge) = ⊥
AnswerFits model table book NoToken = ⊥
AnswerFits model table book (Refused refusal) = (1000000000 ≤ book.clock) × (refusal ≡ ClockEnd)

abbrev pub TickAnswerFits : Model → Table → Option Book → Answer → Type 0
TickAnswerFits model table None a = a ≡ Refused NoBatch
TickAnswerFits model table (Some book) a = AnswerFits model table book a

-- the answer fits the ledger as it stands at the call
abbrev pub Fits : Ledger → Entry → Answer → Type 0
Fits L (adopts rule tasks segments) a =
    a ≡ cond (is_open L.book) (Refused BatchOpen) (adopt_answer_of (answered (verdict L.model.rules rule tasks segments)))
Fits L opens a = a ≡ cond (is_open L.book) (Refused AlreadyOpen) Opened
Fits L (releases place) a = a ≡ release_fits L.table place L.book
Fits L ticks a = TickAnswerFits L.model L.table L.book a
Fits L (closes i) a = a ≡ cond (nat_lt i (length L.held)) (cond (slice_index_or L.held i false) (close_fits L.book) (Refused VoidToken)) NoToken
Fits L (reads object) a =
    a ≡ read_answer_of (unless (asked (L.model.rules.exists object) NoObject) (reading_at L.model object))
Fits L (demands place t) a = a ≡ demand_answer_of (demanded L.table place t)

-- a job whose deadline has come has finished
abbrev pub OnTime : Table → ℕ → Booked → Type 0
OnTime table clock job =
    job.release + (get_or table.tasks job.place no_adopted_task).deadline ≤ clock → is_done job.left ≡ true

pub record BatchKept (table : Table) (book : Book) : Type 0 where
  -- once tick r + d is made, every job released at r with relative deadline d has finished
  pub on_time : EachJob (OnTime table book.clock) book.jobs
  pub retries : book.retries ≤ book.preemptions
  pub preemptions : book.preemptions ≤ length book.jobs

abbrev pub BookKept : Table → Option Book → Type 0
BookKept table None = Unit {0}
BookKept table (Some book) = BatchKept table book

-- what holds at every point of a run
pub record Kept (L : Ledger) : Type 0 where
  -- the table meets its inequality
  pub meets : Admitted L.table.rule L.table.attempt L.table.tasks
  pub batch : BookKept L.table L.book

abbrev pub Law : Ledger → List Entry → List Answer → Type 0
Law L [] [] = Kept L
Law L [] (a ∷ rs) = ⊥
Law L (e ∷ es) [] = ⊥
Law L (e ∷ es) (a ∷ rs) = Kept L × Fits L e a × Law (feed L e a) es rs

-- the ledger at the end
abbrev pub after : Ledger → List Entry → List Answer → Ledger
after L [] rs = L
after L (e ∷ es) [] = L
after L (e ∷ es) (a ∷ rs) = after (feed L e a) es rs

-- the lists of a call afterwards: a task list that was taken has ranks and witnesses, every other is as it was
abbrev pub written_by : Ledger → Entry → Entry
written_by L (adopts rule tasks segments) =
    adopts rule (list_after (cond (is_open L.book) (Err BatchOpen) (verdict L.model.rules rule tasks segments)) tasks) segments
written_by L opens = opens
written_by L (releases place) = releases place
written_by L ticks = ticks
written_by L (closes i) = closes i
written_by L (reads object) = reads object
written_by L (demands place t) = demands place t

abbrev pub written_all : Ledger → List Entry → List Answer → List Entry
written_all L [] rs = []
written_all L (e ∷ es) [] = e ∷ es
written_all L (e ∷ es) (a ∷ rs) = written_by L e ∷ written_all (feed L e a) es rs

-- one good token is held while a batch is open, and none else
abbrev pub TokensKept : Ledger → Type 0
TokensKept L = good_in L.held ≡ cond (is_open L.book) 1 0

-- The whole promise on a list of calls, made on a factory-new controller over a shelf with that model: they answered so,
-- made these of their lists, and left that controller and such tokens.
pub record RunLaw (model : Model) (calls written : List Entry) (answers : List Answer) (left : Machine) (held : List Bool) : Type 0 where
  -- every call was made and answered, in order, and at every point the law holds
  pub law : Law (start model) calls answers
  -- the contents that are left are the ledger's, and so are those at every point, after so many calls
  pub contents : left.model ≡ (after (start model) calls answers).model
  pub throughout : (k : ℕ) → (stepped_all (new_machine model) [] (take k calls)).model ≡ (after (start model) (take k calls) (take k answers)).model
  pub lists : written ≡ written_all (start model) calls answers
  pub tokens : held ≡ (after (start model) calls answers).held
  pub tokens_throughout : (k : ℕ) → TokensKept (after (start model) (take k calls) (take k answers))
  -- nothing was done but these calls: answers and controller are those of the calls, one after another
  pub answered_by : answers ≡ answered_all (new_machine model) [] calls
  pub left_by : left ≡ stepped_all (new_machine model) [] calls
  -- whatever calls come next, they keep the law as well
  pub onward : (more : List Entry) → Law (after (start model) calls answers) more (answered_all left held more)
  pub tokens_onward : (more : List Entry) → TokensKept (after (after (start model) calls answers) more (answered_all left held more))
