-- A tick: ledger and controller agree again, and what the tick tells fits the ledger.
use Rattle.std.proofs.Common.{◌≡◌, ℕ, zero, suc, ◌+◌, ◌<◌, ◌≤◌, Bool, true, false, cond, not, eqb, List, [], ◌∷◌, length, get_or, drop, Some, None, Option, unwrap_or, sym, refl, ap, ◌∙◌, inl, inr, arith}
use Rattle.std.specs.List.{slice_get}
use Rattle.std.proofs.lemmas.List.{length-set, get_or-set_same, get_or-set_other, drop-drop}
use Rattle.std.proofs.lemmas.Bool.{cases_Bool, cases_eq, eq-eqb, ne_eqb, not-false, not-true}
use Rattle.shelf.specs.Models.{Model, reading_at}
use Rattle.admission.specs.declared.plan.Rule.{Rule}
use Rattle.admission.specs.declared.plan.Rule.TheVariants.{RateMonotonic, DeadlineMonotonic, EarliestDeadlineFirst}
use Rattle.admission.specs.declared.plan.Step.{Step}
use Rattle.admission.specs.Tables.{Table, goes_by_rank, plan_at}
use Rattle.schedule.specs.Batches.{order_of, released_at, MostUrgent, preemption}
use Rattle.schedule.specs.Jobs.{MachineTicked, ticked, idled, is_at_rest, needs, batch_of, in_attempt}
use Rattle.schedule.proofs.Records.{needs_some, needs_none}
use Rattle.controller.specs.declared.job.Job.{Job}
use Rattle.controller.specs.declared.job.JobState.{JobState}
use Rattle.controller.specs.declared.job.JobState.TheVariants.{Resting, Computing, Attempting}
use Rattle.controller.specs.declared.job.Event.{Event}
use Rattle.controller.specs.declared.job.Event.TheVariants.{Computed, Attempted, Committed, Retried, Idle}
use Rattle.controller.specs.Turns.{Turn, pending_in}
use Rattle.controller.specs.Choices.{no_job, pending_at, urgency_of, chosen}
use Rattle.controller.specs.Choices as choices
use Rattle.controller.specs.Machines.{Batch, one, is_retry_event, with_idle, with_turn}
use Rattle.controller.proofs.Choosing.{Best}
use Rattle.admission.specs.Tables.{no_adopted_task}
use Rattle.runs.specs.Ledger.{Booked, Book, is_done, left_of, release_of, left_after, retries_by, worker_at, working, idling}
use Rattle.runs.specs.Laws.{EachJob, WorkFits, IdleFits, TickFits}
use Rattle.runs.proofs.Views.{twice, in_state, view_of, left_in', done_rest, rest_is, Turned}
use Rattle.runs.proofs.Books.{each_place, newest_release, left_released, left_here, left_other, releases_kept, release_kept, length_kept, finished_more, unfinished_here, Latest, latest_kept, each_kept, each_more, each_release, last_of, preempts_is}
use Rattle.runs.proofs.Urgent.{by_rank, by_deadline}
use Rattle.runs.proofs.Tables.{TableSound}
use Rattle.runs.proofs.Agree.{view_at, seen_by, BatchAgrees}
use Rattle.runs.proofs.Keeping.{runs, done_is}

-- where the latest job of every place has finished, all jobs have
all_done : (n : ℕ) (jobs : List Booked) → Latest jobs → EachJob (λ job. job.place < n) jobs → ((a : ℕ) → a < n → is_done (left_of a jobs) ≡ true) → EachJob (λ job. is_done job.left ≡ true) jobs
all_done n [] h p f = tt
all_done n (job ∷ jobs) h p f =
    let yes : eqb job.place job.place ≡ true = eq-eqb job.place job.place refl in (
      (rw yes at (f job.place p.0)),
      all_done n jobs h.1 p.1 (λ a l.
          elim (cases_eq job.place a) [
            | inl e ↦ rw e at h.0
            | inr d ↦ rw (ne_eqb job.place a d) at (f a l)
          ]),
    )

retries_one : (event : Event) → retries_by event ≡ one (is_retry_event event)
retries_one Computed = refl
retries_one Attempted = refl
retries_one (Committed object word) = refl
retries_one (Retried object) = refl
retries_one Idle = refl

-- a pending job is in the first of the steps that are left
pub in_steps : (state : JobState) (steps : List Step) → pending_in state ≡ true → pending_in state ≡ not (is_at_rest (in_state state steps)) → (step : Step) × ((later : List Step) × (steps ≡ step ∷ later))
in_steps Resting steps p h = cc
in_steps (Computing left) [] p h = cc
in_steps (Computing left) (step ∷ later) p h = (step, (later, refl))
in_steps (Attempting left seen) [] p h = cc
in_steps (Attempting left seen) (step ∷ later) p h = (step, (later, refl))

pub nth_drop : (k : ℕ) (steps : List Step) → slice_get steps k ≡ slice_get (drop k steps) 0
nth_drop zero steps = refl
nth_drop (suc k) [] = refl
nth_drop (suc k) (step ∷ later) = nth_drop k later

pub drop_next : (k : ℕ) (steps later : List Step) (step : Step) → drop k steps ≡ step ∷ later → drop (k + 1) steps ≡ later
drop_next k steps later step e = sym (drop-drop 1 k steps) ∙ ap (λ (xs : List Step). drop 1 xs) e

module _ (model : Model) (table : Table) (book : Book) (batch : Batch) (sound : TableSound model.rules table) (B : BatchAgrees model table book batch) (early : batch.clock < 1000000000) where
  abbrev n : ℕ
  n = length table.tasks

  -- nobody works
  module _ (none : (a : ℕ) → a < n → pending_at batch.jobs a ≡ false) where
    rests : (a : ℕ) → a < n → is_at_rest (view_at table batch a) ≡ true
    rests a l = not-false (is_at_rest (view_at table batch a)) (sym (B.pending_is a l) ∙ none a l)

    pub idle_agrees : BatchAgrees model table (idling book) (with_idle batch)
    idle_agrees =
        record {
          run = idled B.run (record {
            at_rest = λ a l. rest_is (view_at table batch a) (rests a l);
            clock_is = refl;
            last_is = refl;
            releases_same = λ b l. refl;
            jobs_same = λ b l. refl;
            retries_is = refl;
            preemptions_is = refl;
          });
          long = B.long;
          early = omega arith;
          clock_is = ap (λ (c : ℕ). c + 1) B.clock_is;
          left_is = B.left_is;
          pending_is = B.pending_is;
          released_is = B.released_is;
          latest = B.latest;
          placed = B.placed;
          past = each_more (λ job. job.release ≤ book.clock) (λ job. job.release ≤ book.clock + 1) book.jobs (λ job h. omega arith) B.past;
          counted = B.counted;
          last_is = refl;
          worker = λ w e. cc;
          retries_is = B.retries_is;
          preemptions_is = B.preemptions_is;
          finished_is = B.finished_is;
          releases_is = B.releases_is;
        }

    pub idle_fits : IdleFits book 0 false
    idle_fits =
        record {
          nobody = refl;
          none = all_done n book.jobs B.latest B.placed (λ a l. done_is model table book batch sound B a l ∙ rests a l);
          tells = refl;
        }

  -- the job of place k works
  module _ (k : ℕ) (best : Best (pending_at batch.jobs) (λ place. urgency_of table.rule (get_or table.tasks place no_adopted_task) (get_or batch.jobs place no_job)) n (Some k)) where
    abbrev plan : List Step
    plan = plan_at table.plans k

    abbrev job : Job
    job = get_or batch.jobs k no_job

    there : k < n
    there = best.0

    pub steps_of : (step : Step) × ((later : List Step) × (drop job.step plan ≡ step ∷ later))
    steps_of = in_steps job.state (drop job.step plan) best.1 (B.pending_is k there)

    not_done : is_done (left_of k book.jobs) ≡ false
    not_done = done_is model table book batch sound B k there ∙ not-true (is_at_rest (view_at table batch k)) (sym (B.pending_is k there) ∙ best.1)

    release : (r : ℕ) × (release_of k book.jobs ≡ Some r)
    release = left_released k book.jobs not_done

    pending_from : (b : ℕ) → b < n → 0 < needs (view_at table batch b) → pending_at batch.jobs b ≡ true
    pending_from b l h =
        elim (cases_Bool (is_at_rest (view_at table batch b))) [
          | inl e ↦ absurd (omega (arith, needs_none (view_at table batch b) e))
          | inr e ↦ B.pending_is b l ∙ ap not e
        ]

    known : (a : ℕ) → a < n → released_at (batch_of (seen_by model table book batch)) a ≡ choices.release_of (get_or batch.jobs a no_job)
    known a l = newest_release a book.jobs ∙ ap (λ (o : Option ℕ). unwrap_or o 0) (sym (B.released_is a l))

    goes_first : (rule : Rule) → rule ≡ table.rule → (b : ℕ) → b < n → (b ≡ k → ⊥) → 0 < needs (view_at table batch b)
        → order_of rule table.tasks k (released_at (batch_of (seen_by model table book batch)) k) b (released_at (batch_of (seen_by model table book batch)) b)
    goes_first RateMonotonic e b l d h = by_rank table.rule table.tasks batch.jobs k best sound.apart (released_at (batch_of (seen_by model table book batch))) known (ap goes_by_rank (sym e)) b l d (pending_from b l h)
    goes_first DeadlineMonotonic e b l d h = by_rank table.rule table.tasks batch.jobs k best sound.apart (released_at (batch_of (seen_by model table book batch))) known (ap goes_by_rank (sym e)) b l d (pending_from b l h)
    goes_first EarliestDeadlineFirst e b l d h = by_deadline table.rule table.tasks batch.jobs k best sound.apart (released_at (batch_of (seen_by model table book batch))) known (ap goes_by_rank (sym e)) b l d (pending_from b l h)

    urgent : MostUrgent table.tasks (order_of table.rule table.tasks) k (batch_of (seen_by model table book batch))
    urgent =
        record {
          there = there;
          pending = needs_some table.attempt (view_at table batch k) ((runs model table book batch sound B).1 k there) (sym (done_is model table book batch sound B k there) ∙ not_done);
          first = λ b l d h. goes_first table.rule refl b l d h;
        }

    -- the turn that it makes
    module _ (t : Turn) (T : Turned model plan job t) where
      abbrev next : Batch
      next = with_turn batch k t

      abbrev worked : Book
      worked = working book k t.event

      inside : k < length batch.jobs
      inside = omega (arith, there, B.long, sound.few)

      job_here : get_or next.jobs k no_job ≡ t.job
      job_here = get_or-set_same batch.jobs k t.job no_job inside

      job_other : (b : ℕ) → (b ≡ k → ⊥) → get_or next.jobs b no_job ≡ get_or batch.jobs b no_job
      job_other b d = get_or-set_other batch.jobs k b t.job no_job d

      view_here : view_at table next k ≡ view_of plan t.job
      view_here = ap (view_of plan) job_here

      view_other : (b : ℕ) → (b ≡ k → ⊥) → view_at table next b ≡ view_at table batch b
      view_other b d = ap (view_of (plan_at table.plans b)) (job_other b d)

      pending_here : pending_at next.jobs k ≡ not (is_at_rest (view_at table next k))
      pending_here = rw job_here T.shown

      abbrev left : List Step
      left = left_after t.event (left_of k book.jobs)

      left_is : left ≡ left_in' (view_at table next k)
      left_is = rw (B.left_is k there, job_here) T.left

      done_left : is_done left ≡ is_at_rest (view_at table next k)
      done_left = ap is_done left_is ∙ done_rest (view_at table next k)

      finished_here : not (pending_at next.jobs k) ≡ is_at_rest (view_at table next k)
      finished_here = ap not pending_here ∙ twice (is_at_rest (view_at table next k))

      turned_over : (b : Bool) → cond b None (Some k) ≡ cond (not b) (Some k) None
      turned_over true = refl
      turned_over false = refl

      step : MachineTicked table.tasks k (seen_by model table book batch) (seen_by t.model table worked next)
      step =
          record {
            clock_is = refl;
            job_is = view_here ∙ T.view;
            last_is = ap (λ (b : Bool). cond b None (Some k)) finished_here;
            readings_same = λ h o. ap (λ (m : Model). reading_at m o) (T.quiet (ap in_attempt (sym view_here) ∙ h));
            releases_same = λ b l. releases_kept k left b book.jobs;
            jobs_same = λ b l d. view_other b d;
            retries_is = ap (λ (x : ℕ). batch.retries + x) T.retry;
            preemptions_is = refl;
          }

      last_worked : next.last ≡ last_of worked.before worked.jobs
      last_worked =
          ap (λ (b : Bool). cond b None (Some k)) finished_here
          ∙ turned_over (is_at_rest (view_at table next k))
          ∙ ap (λ (b : Bool). cond (not b) (Some k) None) (sym done_left)
          ∙ ap (λ (b : Bool). cond b (Some k) None) (sym (unfinished_here k left book.jobs release.0 release.1))
          ∙ ap (λ (o : Option ℕ). last_of (worker_at k o) worked.jobs) (sym release.1)

      pub work_agrees : BatchAgrees t.model table worked next
      work_agrees =
          record {
            run = ticked B.run urgent step;
            long = length-set batch.jobs k t.job ∙ B.long;
            early = omega arith;
            clock_is = ap (λ (c : ℕ). c + 1) B.clock_is;
            left_is = λ a l.
                each_place k (λ b. b < n → left_of b worked.jobs ≡ left_in' (view_at table next b))
                (λ _. left_here k left book.jobs release.0 release.1 ∙ left_is)
                (λ b d i. rw (left_other k left b book.jobs d, job_other b d) (B.left_is b i)) a l;
            pending_is = λ a l.
                each_place k (λ b. b < n → pending_at next.jobs b ≡ not (is_at_rest (view_at table next b)))
                (λ _. pending_here)
                (λ b d i. rw (job_other b d) (B.pending_is b i)) a l;
            released_is = λ a l.
                each_place k (λ b. b < n → (get_or next.jobs b no_job).released ≡ release_of b worked.jobs)
                (λ i. rw (job_here, T.released, release_kept k left k book.jobs) (B.released_is k i))
                (λ b d i. rw (job_other b d, release_kept k left b book.jobs) (B.released_is b i)) a l;
            latest = latest_kept k left book.jobs B.latest;
            placed = each_kept (λ a r. a < n) k left book.jobs B.placed;
            past = each_kept (λ a r. r ≤ book.clock + 1) k left book.jobs (each_more (λ job. job.release ≤ book.clock) (λ job. job.release ≤ book.clock + 1) book.jobs (λ job h. omega arith) B.past);
            counted = λ a l. rw (releases_kept k left a book.jobs, release_kept k left a book.jobs) (B.counted a l);
            last_is = last_worked;
            worker = λ w e.
                let s : Some (k, release.0) ≡ Some w = ap (worker_at k) (sym release.1) ∙ e in
                let p : (k, release.0) ≡ w = cc in
                let r : release.0 ≡ w.1 = ap (λ (x : ℕ × ℕ). x.1) p in
                omega (arith, each_release book.clock k book.jobs B.past release.0 release.1);
            retries_is = omega (arith, B.retries_is, retries_one t.event);
            preemptions_is = omega (arith, B.preemptions_is, preempts_is book.before k book.jobs, ap (λ (o : Option ℕ). preemption o k) B.last_is);
            finished_is = omega (arith, finished_more k left book.jobs not_done, B.finished_is, ap one (finished_here ∙ sym done_left));
            releases_is = length_kept k left book.jobs ∙ B.releases_is;
          }

      -- what the tick tells
      pub work_fits : WorkFits model table book k t.event (not (pending_at next.jobs k))
      work_fits =
          record {
            there = there;
            fits = rw (B.left_is k there) T.fits;
            tells = finished_here ∙ sym done_left;
          }

pub worked_fits : (model : Model) (table : Table) (book : Book) (place : ℕ) (event : Event) (finished : Bool) → WorkFits model table book place event finished → TickFits model table book place event finished
worked_fits model table book place Computed finished h = h
worked_fits model table book place Attempted finished h = h
worked_fits model table book place (Committed object word) finished h = h
worked_fits model table book place (Retried object) finished h = h
worked_fits model table book place Idle finished h = absurd h.fits
