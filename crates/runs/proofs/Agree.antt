-- Ledger and controller agree, place by place, and the batch is a run of the theory.
use Rattle.std.proofs.Common.{◌≡◌, ℕ, ◌+◌, ◌<◌, ◌≤◌, Bool, not, List, length, get_or, Some, None, Option}
use Rattle.shelf.specs.Models.{Model, reading_at}
use Rattle.admission.specs.Tables.{Table, plan_at}
use Rattle.schedule.specs.Batches.{order_of}
use Rattle.schedule.specs.Jobs as theory
use Rattle.schedule.specs.Jobs.{MachineRun, is_at_rest}
use Rattle.controller.specs.Choices.{no_job, pending_at}
use Rattle.controller.specs.Machines.{Batch, Machine}
use Rattle.runs.specs.Entries.{good_in}
use Rattle.runs.specs.Ledger.{Book, Ledger, left_of, release_of, finished_in}
use Rattle.runs.specs.Laws.{EachJob}
use Rattle.runs.proofs.Views.{view_of, left_in'}
use Rattle.runs.proofs.Books.{releases_at, Latest, last_of}
use Rattle.runs.proofs.Tables.{TableSound}

-- the record of a place, as the theory has it
abbrev pub view_at : Table → Batch → ℕ → theory.Job
view_at table batch a = view_of (plan_at table.plans a) (get_or batch.jobs a no_job)

-- the batch as the theory has it; the releases are the ledger's
abbrev pub seen_by : Model → Table → Book → Batch → theory.Machine
seen_by model table book batch =
    record {
      clock = batch.clock;
      releases = λ a. releases_at a book.jobs;
      jobs = view_at table batch;
      last = batch.last;
      readings = reading_at model;
      retries = batch.retries;
      preemptions = batch.preemptions;
    }

-- how many releases of a place there can be, by its latest
abbrev pub most : Option ℕ → ℕ
most None = 0
most (Some r) = r + 1

pub record BatchAgrees (model : Model) (table : Table) (book : Book) (batch : Batch) : Type 0 where
  pub run : MachineRun table.tasks (plan_at table.plans) (order_of table.rule table.tasks) (seen_by model table book batch)
  pub long : length batch.jobs ≡ 32
  pub early : batch.clock ≤ 1000000000
  pub clock_is : book.clock ≡ batch.clock
  -- what is left of the latest job of each place
  pub left_is : (a : ℕ) → a < length table.tasks → left_of a book.jobs ≡ left_in' (view_at table batch a)
  pub pending_is : (a : ℕ) → a < length table.tasks → pending_at batch.jobs a ≡ not (is_at_rest (view_at table batch a))
  pub released_is : (a : ℕ) → a < length table.tasks → (get_or batch.jobs a no_job).released ≡ release_of a book.jobs
  pub latest : Latest book.jobs
  pub placed : EachJob (λ job. job.place < length table.tasks) book.jobs
  pub past : EachJob (λ job. job.release ≤ book.clock) book.jobs
  pub counted : (a : ℕ) → a < length table.tasks → length (releases_at a book.jobs) ≤ most (release_of a book.jobs)
  -- who worked on the tick before
  pub last_is : batch.last ≡ last_of book.before book.jobs
  pub worker : (w : ℕ × ℕ) → book.before ≡ Some w → w.1 < book.clock
  -- the sums
  pub retries_is : book.retries ≡ batch.retries
  pub preemptions_is : book.preemptions ≡ batch.preemptions
  pub finished_is : finished_in book.jobs ≡ batch.finished
  pub releases_is : length book.jobs ≡ batch.releases

-- both have a batch, with one good token, or neither has one
abbrev pub BookAgrees : Model → Table → List Bool → Option Book → Option Batch → Type 0
BookAgrees model table hs None None = good_in hs ≡ 0
BookAgrees model table hs None (Some batch) = ⊥
BookAgrees model table hs (Some book) None = ⊥
BookAgrees model table hs (Some book) (Some batch) = (good_in hs ≡ 1) × BatchAgrees model table book batch

-- the ledger beside a machine with such a book and such tokens
abbrev pub ledger_of : Machine → Option Book → List Bool → Ledger
ledger_of m book hs = record { model = m.model; table = m.table; book = book; held = hs }

pub record Agrees (L : Ledger) (m : Machine) (hs : List Bool) : Type 0 where
  pub book : Option Book
  pub is : L ≡ ledger_of m book hs
  pub model_is : L.model ≡ m.model
  pub held_is : L.held ≡ hs
  pub sound : TableSound m.model.rules m.table
  pub agrees : BookAgrees m.model m.table hs book m.batch
