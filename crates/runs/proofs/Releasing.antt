-- A release that is granted: ledger and controller agree again.
use Rattle.std.proofs.Common.{◌≡◌, ℕ, ◌+◌, ◌<◌, ◌≤◌, Bool, true, false, cond, not, eqb, List, ◌∷◌, length, get_or, Some, None, Option, unwrap_or, sym, refl, ap, ◌∙◌, inl, inr, arith}
use Rattle.std.proofs.lemmas.List.{length-set, get_or-set_same, get_or-set_other}
use Rattle.std.proofs.lemmas.Bool.{eq-eqb, ne_eqb, leb-true, not-false}
use Rattle.shelf.specs.Models.{Model}
use Rattle.admission.specs.declared.plan.Step.{Step}
use Rattle.admission.specs.Tables.{Table, plan_at}
use Rattle.schedule.specs.Batches.{MayRelease, task_at}
use Rattle.schedule.specs.Jobs.{MachineReleased, released, begun, is_at_rest}
use Rattle.controller.specs.declared.job.Job.{Job}
use Rattle.controller.specs.Choices.{no_job, pending_at}
use Rattle.controller.specs.Machines.{Batch, spaced, started_job, with_release}
use Rattle.runs.specs.Ledger.{Booked, Book, left_of, release_of}
use Rattle.runs.proofs.Views.{view_of, left_in', left_begun, rest_is, started, started_shown}
use Rattle.runs.proofs.Books.{each_place, releases_at, newest_release, no_release, last_of, unfinished_new}
use Rattle.runs.proofs.Tables.{TableSound}
use Rattle.runs.proofs.Agree.{view_at, seen_by, most, BatchAgrees}
use Rattle.runs.proofs.Keeping.{done_is, few_releases}

abbrev pub with_job : Table → Book → ℕ → Book
with_job table book place =
    record {
      clock = book.clock;
      jobs = record { place = place; release = book.clock; left = plan_at table.plans place } ∷ book.jobs;
      before = book.before;
      retries = book.retries;
      preemptions = book.preemptions;
    }

spaced_may : (p clock place : ℕ) (jobs : List Booked) (o : Option ℕ) → release_of place jobs ≡ o → spaced o p clock ≡ true → MayRelease p clock (releases_at place jobs)
spaced_may p clock place jobs None e h = inl (no_release place jobs e)
spaced_may p clock place jobs (Some r) e h =
    let n = newest_release place jobs ∙ ap (λ (o : Option ℕ). unwrap_or o 0) e in
    inr (omega (arith, n, leb-true (r + p) clock h))

-- the releases of a place so far are at most the clock
room_for : (p clock k : ℕ) (o : Option ℕ) → 1 ≤ p → spaced o p clock ≡ true → k ≤ most o → k ≤ clock
room_for p clock k None o h l = omega arith
room_for p clock k (Some r) o h l = omega (arith, leb-true (r + p) clock h)

last_new : (before : Option (ℕ × ℕ)) (clock : ℕ) (job : Booked) (jobs : List Booked) → job.release ≡ clock → ((w : ℕ × ℕ) → before ≡ Some w → w.1 < clock) → last_of before jobs ≡ last_of before (job ∷ jobs)
last_new None clock job jobs e h = refl
last_new (Some w) clock job jobs e h =
    ap (λ (b : Bool). cond b (Some w.0) None) (sym (unfinished_new w.0 w.1 job jobs (λ i. (let c : ⊥ = omega (arith, h w refl) in c))))

module _ (model : Model) (table : Table) (book : Book) (batch : Batch) (sound : TableSound model.rules table) (B : BatchAgrees model table book batch)
    (place : ℕ) (there : place < length table.tasks)
    (apart : spaced (get_or batch.jobs place no_job).released (task_at table.tasks place).period batch.clock ≡ true)
    (idle : pending_at batch.jobs place ≡ false) where
  abbrev plan : List Step
  plan = plan_at table.plans place

  abbrev job : Job
  job = started_job plan batch.clock

  abbrev next : Batch
  next = with_release table batch place

  abbrev booked : Book
  booked = with_job table book place

  inside : place < length batch.jobs
  inside = omega (arith, B.long, sound.few)

  self : eqb place place ≡ true
  self = eq-eqb place place refl

  job_here : get_or next.jobs place no_job ≡ job
  job_here = get_or-set_same batch.jobs place job no_job inside

  job_other : (b : ℕ) → (b ≡ place → ⊥) → get_or next.jobs b no_job ≡ get_or batch.jobs b no_job
  job_other b d = get_or-set_other batch.jobs place b job no_job d

  view_here : view_at table next place ≡ begun plan
  view_here = ap (view_of plan) job_here ∙ started plan

  view_other : (b : ℕ) → (b ≡ place → ⊥) → view_at table next b ≡ view_at table batch b
  view_other b d = ap (view_of (plan_at table.plans b)) (job_other b d)

  resting_here : is_at_rest (view_at table batch place) ≡ true
  resting_here = not-false (is_at_rest (view_at table batch place)) (sym (B.pending_is place there) ∙ idle)

  apart_booked : spaced (release_of place book.jobs) (task_at table.tasks place).period batch.clock ≡ true
  apart_booked = ap (λ (o : Option ℕ). spaced o (task_at table.tasks place).period batch.clock) (sym (B.released_is place there)) ∙ apart

  left_new : (b : ℕ) → (b ≡ place → ⊥) → left_of b booked.jobs ≡ left_of b book.jobs
  left_new b d = rw (ne_eqb place b (λ e. d (sym e))) refl

  release_new : (b : ℕ) → (b ≡ place → ⊥) → release_of b booked.jobs ≡ release_of b book.jobs
  release_new b d = rw (ne_eqb place b (λ e. d (sym e))) refl

  releases_new : (b : ℕ) → (b ≡ place → ⊥) → releases_at b booked.jobs ≡ releases_at b book.jobs
  releases_new b d = rw (ne_eqb place b (λ e. d (sym e))) refl

  step : MachineReleased table.tasks plan place (seen_by model table book batch) (seen_by model table booked next)
  step =
      record {
        there = there;
        at_rest = rest_is (view_at table batch place) resting_here;
        spaced = spaced_may (task_at table.tasks place).period batch.clock place book.jobs (release_of place book.jobs) refl apart_booked;
        clock_is = refl;
        releases_are = rw (self, B.clock_is) refl;
        job_is = view_here;
        last_is = refl;
        readings_same = λ o. refl;
        releases_same = λ b l d. releases_new b d;
        jobs_same = λ b l d. view_other b d;
        retries_is = refl;
        preemptions_is = refl;
      }

  pub release_agrees : BatchAgrees model table booked next
  release_agrees =
      record {
        run = released B.run step;
        long = length-set batch.jobs place job ∙ B.long;
        early = B.early;
        clock_is = B.clock_is;
        left_is = λ a l.
            each_place place (λ b. b < length table.tasks → left_of b booked.jobs ≡ left_in' (view_at table next b))
            (λ _. rw self (sym (left_begun plan)) ∙ ap left_in' (sym view_here))
            (λ b d i. rw (left_new b d, job_other b d) (B.left_is b i)) a l;
        pending_is = λ a l.
            each_place place (λ b. b < length table.tasks → pending_at next.jobs b ≡ not (is_at_rest (view_at table next b)))
            (λ _. rw (job_here, started plan) (started_shown plan))
            (λ b d i. rw (job_other b d) (B.pending_is b i)) a l;
        released_is = λ a l.
            each_place place (λ b. b < length table.tasks → (get_or next.jobs b no_job).released ≡ release_of b booked.jobs)
            (λ _. rw (job_here, self, B.clock_is) refl)
            (λ b d i. rw (job_other b d, release_new b d) (B.released_is b i)) a l;
        latest = (done_is model table book batch sound B place there ∙ resting_here, B.latest);
        placed = (there, B.placed);
        past = (omega arith, B.past);
        counted = λ a l.
            each_place place (λ b. b < length table.tasks → length (releases_at b booked.jobs) ≤ most (release_of b booked.jobs))
            (λ _. rw self (let k = room_for (task_at table.tasks place).period batch.clock (length (releases_at place book.jobs)) (release_of place book.jobs) (sound.periods place there) apart_booked (B.counted place there) in omega (arith, k, B.clock_is)))
            (λ b d i. rw (releases_new b d, release_new b d) (B.counted b i)) a l;
        last_is = B.last_is ∙ last_new book.before book.clock (record { place = place; release = book.clock; left = plan }) book.jobs refl B.worker;
        worker = B.worker;
        retries_is = B.retries_is;
        preemptions_is = B.preemptions_is;
        finished_is = rw (sound.some place there) (omega (arith, B.finished_is));
        releases_is = omega (arith, B.releases_is, few_releases model table book batch sound B);
      }
