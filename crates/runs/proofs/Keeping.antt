-- What holds of a batch wherever ledger and controller agree: deadlines are kept, retries and preemptions bounded.
use Rattle.std.proofs.Common.{◌≡◌, ℕ, zero, suc, ◌+◌, ◌*◌, ◌<◌, ◌≤◌, Bool, true, false, cond, not, eqb, List, [], ◌∷◌, length, Some, None, Option, unwrap_or, sym, refl, ap, ◌∙◌, inl, inr, arith}
use Rattle.std.proofs.lemmas.Bool.{cases_Bool, eq-eqb, eqb-true}
use Rattle.shelf.specs.Models.{Model}
use Rattle.admission.specs.Search.{sum_below, count_below}
use Rattle.admission.specs.Tables.{Table, plan_at}
use Rattle.admission.proofs.Ranges.{sum_same, sum_le}
use Rattle.schedule.specs.Batches.{Run, order_of, released_at, releases_of, task_at}
use Rattle.schedule.specs.Jobs.{batch_of, is_at_rest}
use Rattle.schedule.specs.Theorems.{InTime, AllFit}
use Rattle.schedule.proofs.Proved.{deadlines_kept, runs_of_records, order_asymmetric}
use Rattle.schedule.proofs.Tallies.{retries_bounded_lem}
use Rattle.schedule.proofs.Records.{needs_some}
use Rattle.controller.specs.Choices.{pending_at}
use Rattle.controller.specs.Machines.{Batch, Machine}
use Rattle.controller.specs.Machines as machines
use Rattle.runs.specs.Ledger.{Booked, Book, Ledger, is_done, left_of, release_of, pending_in}
use Rattle.runs.specs.Entries.{good_in}
use Rattle.runs.specs.Laws.{EachJob, OnTime, BatchKept, BookKept, Kept, TokensKept, is_open, sums_of}
use Rattle.runs.proofs.Views.{done_rest}
use Rattle.runs.proofs.Books.{releases_at, newest_release, Latest, total_by, total_at, total_places, each_release}
use Rattle.runs.proofs.Tables.{TableSound}
use Rattle.runs.proofs.Agree.{view_at, seen_by, most, BatchAgrees, BookAgrees, Agrees}

-- one for each job, and one for each that is pending
abbrev each : Booked → ℕ
each job = 1

abbrev waits : Booked → ℕ
waits job = cond (is_done job.left) 0 1

length_total : (jobs : List Booked) → length jobs ≡ total_by each jobs
length_total [] = refl
length_total (job ∷ jobs) = omega (arith, length_total jobs)

pending_total : (jobs : List Booked) → pending_in jobs ≡ total_by waits jobs
pending_total [] = refl
pending_total (job ∷ jobs) = rw (pending_total jobs) refl

releases_total : (place : ℕ) (jobs : List Booked) → length (releases_at place jobs) ≡ total_at each place jobs
releases_total place [] = refl
releases_total place (job ∷ jobs) =
    elim (cases_Bool (eqb job.place place)) [ inl e ↦ rw e (omega (arith, releases_total place jobs)) | inr e ↦ rw e (omega (arith, releases_total place jobs)) ]

-- of a place whose latest job has finished none is pending
none_waits : (place : ℕ) (jobs : List Booked) → Latest jobs → is_done (left_of place jobs) ≡ true → total_at waits place jobs ≡ 0
none_waits place [] h d = refl
none_waits place (job ∷ jobs) h d =
    elim (cases_Bool (eqb job.place place)) [
      | inl e ↦
          let f : is_done job.left ≡ true = rw e at d in
          let g : is_done (left_of place jobs) ≡ true = rw (eqb-true job.place place e) at h.0 in
          rw (e, f) (omega (arith, none_waits place jobs h.1 g))
      | inr e ↦ rw e (omega (arith, none_waits place jobs h.1 (rw e at d)))
    ]

-- of any other one is, the latest
one_waits : (place : ℕ) (jobs : List Booked) → Latest jobs → is_done (left_of place jobs) ≡ false → total_at waits place jobs ≡ 1
one_waits place [] h d = cc
one_waits place (job ∷ jobs) h d =
    elim (cases_Bool (eqb job.place place)) [
      | inl e ↦
          let f : is_done job.left ≡ false = rw e at d in
          let g : is_done (left_of place jobs) ≡ true = rw (eqb-true job.place place e) at h.0 in
          rw (e, f) (omega (arith, none_waits place jobs h.1 g))
      | inr e ↦ rw e (omega (arith, one_waits place jobs h.1 (rw e at d)))
    ]

sum_const : (n v : ℕ) → sum_below n (λ _. v) ≡ n * v
sum_const zero v = omega arith
sum_const (suc n) v = omega (arith, sum_const n v)

module _ (model : Model) (table : Table) (book : Book) (batch : Batch) (sound : TableSound model.rules table) (B : BatchAgrees model table book batch) where
  abbrev n : ℕ
  n = length table.tasks

  pub runs : Run table.attempt table.tasks (order_of table.rule table.tasks) (batch_of (seen_by model table book batch)) × AllFit table.attempt table.tasks (seen_by model table book batch)
  runs = runs_of_records table.rule table.attempt table.tasks (plan_at table.plans) sound.plans (seen_by model table book batch) B.run

  in_time : InTime table.tasks (batch_of (seen_by model table book batch))
  in_time = deadlines_kept table.rule table.attempt table.tasks sound.admitted _ runs.0

  pub done_is : (a : ℕ) → a < n → is_done (left_of a book.jobs) ≡ is_at_rest (view_at table batch a)
  done_is a l = ap is_done (B.left_is a l) ∙ done_rest (view_at table batch a)

  -- the latest job of a place
  latest_in_time : (a r : ℕ) → a < n → release_of a book.jobs ≡ Some r → r + (task_at table.tasks a).deadline ≤ book.clock → is_done (left_of a book.jobs) ≡ true
  latest_in_time a r l e h =
      elim (cases_Bool (is_done (left_of a book.jobs))) [
        | inl d ↦ d
        | inr d ↦
            let w = needs_some table.attempt (view_at table batch a) (runs.1 a l) (sym (done_is a l) ∙ d) in
            let t = in_time a l w in
            let s : released_at (batch_of (seen_by model table book batch)) a ≡ r = newest_release a book.jobs ∙ ap (λ (o : Option ℕ). unwrap_or o 0) e in
            absurd (omega (arith, t, s, B.clock_is))
      ]

  -- every job of a part of the list that ends it, where each latest of its place there is in time
  all_in_time : (jobs : List Booked) → Latest jobs → EachJob (λ job. job.place < n) jobs
      → ((a r : ℕ) → a < n → release_of a jobs ≡ Some r → r + (task_at table.tasks a).deadline ≤ book.clock → is_done (left_of a jobs) ≡ true)
      → EachJob (OnTime table book.clock) jobs
  all_in_time [] h p f = tt
  all_in_time (job ∷ jobs) h p f =
      let yes : eqb job.place job.place ≡ true = eq-eqb job.place job.place refl in (
        (λ b. rw yes at (f job.place job.release p.0 (rw yes refl) b)),
        all_in_time jobs h.1 p.1 (λ a r l e b.
            elim (cases_Bool (eqb job.place a)) [
              | inl i ↦ rw (eqb-true job.place a i) at h.0
              | inr i ↦ rw i at (f a r l (rw i e) b)
            ]),
      )

  length_places : length book.jobs ≡ releases_of table.tasks (batch_of (seen_by model table book batch))
  length_places =
      length_total book.jobs
      ∙ total_places each n book.jobs B.placed
      ∙ sum_same n (λ a. total_at each a book.jobs) (λ a. length (releases_at a book.jobs)) (λ a l. sym (releases_total a book.jobs))

  pub batch_kept : BatchKept table book
  batch_kept =
      let b = retries_bounded_lem (order_asymmetric table.rule table.tasks) runs.0 in
      record {
        on_time = all_in_time book.jobs B.latest B.placed latest_in_time;
        retries = omega (arith, b.0, B.retries_is, B.preemptions_is);
        preemptions = omega (arith, b.1, B.preemptions_is, length_places);
      }

  -- there are at most as many releases of a place as clocks so far
  pub few_releases : length book.jobs ≤ 32 * 1000000001
  few_releases =
      let s = sum_le n (λ a. length (releases_at a book.jobs)) (λ _. 1000000001) (λ a l. bounded a l) in
      omega (arith, length_places, s, sum_const n 1000000001, sound.few)
    where
      bounded : (a : ℕ) → a < n → length (releases_at a book.jobs) ≤ 1000000001
      bounded a l = below (release_of a book.jobs) refl (B.counted a l)
        where
          below : (o : Option ℕ) → release_of a book.jobs ≡ o → length (releases_at a book.jobs) ≤ most o → length (releases_at a book.jobs) ≤ 1000000001
          below None e h = omega arith
          below (Some r) e h = omega (arith, each_release book.clock a book.jobs B.past r e, B.clock_is, B.early)

  pending_places : pending_in book.jobs ≡ count_below n (pending_at batch.jobs)
  pending_places =
      pending_total book.jobs
      ∙ total_places waits n book.jobs B.placed
      ∙ sum_same n (λ a. total_at waits a book.jobs) (λ a. cond (pending_at batch.jobs a) 1 0) (λ a l.
      elim (cases_Bool (is_done (left_of a book.jobs))) [
        | inl d ↦
            let q : pending_at batch.jobs a ≡ false = B.pending_is a l ∙ ap not (sym (done_is a l) ∙ d) in
            rw q (none_waits a book.jobs B.latest d)
        | inr d ↦
            let q : pending_at batch.jobs a ≡ true = B.pending_is a l ∙ ap not (sym (done_is a l) ∙ d) in
            rw q (one_waits a book.jobs B.latest d)
      ])

  -- the sums that close answers are the ledger's
  pub sums_are : machines.sums_of table batch ≡ sums_of book
  sums_are =
      let a = sym B.clock_is in
      let b = sym B.releases_is in
      let c = sym B.finished_is in
      let d = sym pending_places in
      let e = sym B.retries_is in
      let f = sym B.preemptions_is in
      cc

book_kept : (model : Model) (table : Table) (hs : List Bool) (book : Option Book) (batch : Option Batch) → TableSound model.rules table → BookAgrees model table hs book batch → BookKept table book × (good_in hs ≡ cond (is_open book) 1 0)
book_kept model table hs None None sound B = (tt, B)
book_kept model table hs None (Some batch) sound B = absurd B
book_kept model table hs (Some book) None sound B = absurd B
book_kept model table hs (Some book) (Some batch) sound B = (batch_kept model table book batch sound B.1, B.0)

pub kept : (L : Ledger) (m : Machine) (hs : List Bool) → Agrees L m hs → Kept L
kept L m hs A =
    let b = book_kept m.model m.table hs A.book m.batch A.sound A.agrees in
    rw A.is (record { meets = A.sound.admitted; batch = b.0 })

pub tokens_kept : (L : Ledger) (m : Machine) (hs : List Bool) → Agrees L m hs → TokensKept L
tokens_kept L m hs A =
    let b = book_kept m.model m.table hs A.book m.batch A.sound A.agrees in
    rw A.is b.1
