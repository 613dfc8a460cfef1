-- A step of the job records is a step of the batch.
use Rattle.std.proofs.Common.{◌≡◌, ℕ, ◌+◌, ◌-◌, ◌*◌, ◌<◌, ◌≤◌, Bool, true, false, not, ◌&&◌, ◌||◌, eqb, List, [], ◌∷◌, Some, None, Option, sym, refl, ap, ◌∙◌, inl, inr, arith}
use lib.Arith.{lt_of_le-ne}
use Rattle.std.proofs.lemmas.Bool.{cases_eq, cases_lt, cases_Bool, lt-ltb, le-ltb, eq-eqb, ne_eqb, or_right, both_ways}
use Rattle.admission.specs.declared.plan.AdoptedTask.{AdoptedTask}
use Rattle.admission.specs.declared.plan.Word.{Word}
use Rattle.admission.specs.declared.plan.Step.{Step}
use Rattle.admission.specs.declared.plan.Step.TheVariants.{Compute, Access}
use Rattle.schedule.specs.Batches.{Order, Released, Worked, Run, task_at}
use Rattle.schedule.specs.Batches as batch
use Rattle.schedule.specs.Jobs.{Job, resting, computing, attempting, begun, total, needs, is_at_rest, in_attempt, stale, goes_by, refused, after_tick, StepsFit, JobFits, Machine, MachineReleased, MachineTicked, MachineRun, opened, released, idled, ticked, is_last, bit, batch_of}
use Rattle.schedule.specs.Theorems.{PlansFit, AllFit, RecordTicks, RecordStarts, RecordsIdle}
use Rattle.schedule.proofs.Sums.{at_place}

-- a flag is 0 or 1
bit_small : (b : Bool) → bit b ≤ 1
bit_small true = omega arith
bit_small false = omega arith

-- a job that starts needs the ticks of its steps
needs_begun : (steps : List Step) → needs (begun steps) ≡ total steps
needs_begun [] = refl
needs_begun (Compute ticks ∷ later) = refl
needs_begun (Access word ticks object amount ∷ later) = refl

-- is outside any attempt
pub outside_begun : (steps : List Step) → in_attempt (begun steps) ≡ false
outside_begun [] = refl
outside_begun (Compute ticks ∷ later) = refl
outside_begun (Access word ticks object amount ∷ later) = le-ltb ticks ticks (omega arith)

-- and fits if its steps do
pub fits_begun : (attempt : ℕ) (steps : List Step) → StepsFit attempt steps → JobFits attempt (begun steps)
fits_begun attempt [] g = tt
fits_begun attempt (Compute ticks ∷ later) g = g
fits_begun attempt (Access word ticks object amount ∷ later) g = (g.0, omega arith, g.1, g.2)

-- a record that fits and is not at rest has ticks left
pub needs_some : (attempt : ℕ) (j : Job) → JobFits attempt j → is_at_rest j ≡ false → 0 < needs j
needs_some attempt resting g e = let z : ◌≡◌ {A = ℕ} 0 1 = cc in absurd (omega arith)
needs_some attempt (computing left later) g e = omega (arith, g.0)
needs_some attempt (attempting left word ticks object amount seen later) g e = omega (arith, g.0)

-- one at rest has none
pub needs_none : (j : Job) → is_at_rest j ≡ true → needs j ≡ 0
needs_none resting e = refl
needs_none (computing left later) e = let z : ◌≡◌ {A = ℕ} 0 1 = cc in absurd (omega arith)
needs_none (attempting left word ticks object amount seen later) e = let z : ◌≡◌ {A = ℕ} 0 1 = cc in absurd (omega arith)

-- and is outside any attempt
outside_rest : (j : Job) → is_at_rest j ≡ true → in_attempt j ≡ false
outside_rest resting e = refl
outside_rest (computing left later) e = refl
outside_rest (attempting left word ticks object amount seen later) e = let z : ◌≡◌ {A = ℕ} 0 1 = cc in absurd (omega arith)

-- What one tick makes of a record, where the readings are `before` and then `after` it, and `other` says that another job
-- worked on the last tick. The job itself now worked last, so it is flagged only if its reading has become old.
pub record Moved (attempt : ℕ) (other : Bool) (before after : ℕ → ℕ) (j j' : Job) (retry : ℕ) : Type 0 where
  pub fits : JobFits attempt j'
  pub work : needs j' + 1 ≤ needs j + retry * attempt
  pub spent : bit (in_attempt j' && stale after j') + retry ≤ bit (in_attempt j && (other || stale before j))
  pub flag_fits : bit (in_attempt j' && stale after j') ≤ needs j'

module _ (attempt : ℕ) (other : Bool) (before after : ℕ → ℕ) where
  -- the last tick of a step
  done : (j : Job) (later : List Step) → StepsFit attempt later → needs j ≡ 1 + total later
      → Moved attempt other before after j (begun later) 0
  done j later g e = record {
    fits = fits_begun attempt later g;
    work = rw (needs_begun later) (omega arith);
    spent = rw (outside_begun later) (omega arith);
    flag_fits = rw (outside_begun later) (omega arith);
  }

  module _ (left : ℕ) (word : Word) (ticks object amount seen : ℕ) (later : List Step)
      (g : JobFits attempt (attempting left word ticks object amount seen later)) where
    -- an attempt that goes on: no reading has changed, so its own is old only if it was
    goes_on : 1 < left → ((o : ℕ) → after o ≡ before o)
        → Moved attempt other before after (attempting left word ticks object amount seen later)
        (attempting (left - 1) word ticks object amount (goes_by before left ticks object seen) later) 0
    goes_on h same = record {
      fits = (omega arith, omega (arith, g.1), g.2, g.3);
      work = omega arith;
      spent =
          rw (lt-ltb (left - 1) ticks (omega (arith, g.1)), same object)
          (elim (cases_eq left ticks) [
            | inl e ↦ rw (eq-eqb left ticks e, eq-eqb (before object) (before object) refl) (omega arith)
            | inr d ↦
                rw (ne_eqb left ticks d, lt-ltb left ticks (lt_of_le-ne g.1 d))
                (omega (arith, or_bit (not (eqb seen (before object)))))
          ]);
      flag_fits = omega (arith, bit_small (in_attempt after_one && stale after after_one));
    }
      where
        -- the record after the tick
        after_one : Job
        after_one = attempting (left - 1) word ticks object amount (goes_by before left ticks object seen) later

        -- another reason to be flagged does not lower the flag
        or_bit : (b : Bool) → bit b ≤ bit (other || b)
        or_bit b = elim other as (λ o. bit b ≤ bit (o || b)) [ true ↦ bit_small b | false ↦ omega arith ]

    -- an attempt that ends in vain: it was begun on an earlier tick, and its reading is old, so it was flagged
    retried : left ≡ 1 → eqb (goes_by before left ticks object seen) (before object) ≡ false
        → Moved attempt other before after (attempting left word ticks object amount seen later)
        (attempting ticks word ticks object amount 0 later) 1
    retried e f = record {
      fits = (omega (arith, g.1), omega arith, g.2, g.3);
      work = omega (arith, g.2);
      spent = rw (le-ltb ticks ticks (omega arith), lt-ltb left ticks begun_before, or_right other _ (ap not old)) (omega arith);
      flag_fits = rw (le-ltb ticks ticks (omega arith)) (omega arith);
    }
      where
        -- its first tick would have seen the present reading
        not_first : left ≡ ticks → ⊥
        not_first z = both_ways _ f (rw (eq-eqb left ticks z) (eq-eqb (before object) (before object) refl))

        -- so the attempt was under way
        begun_before : left < ticks
        begun_before = lt_of_le-ne g.1 not_first

        -- and what it saw then is old
        old : eqb seen (before object) ≡ false
        old = rw (ne_eqb left ticks not_first) at f

  -- every tick of a pending record
  pub moved : (j : Job) → JobFits attempt j → 0 < needs j → (in_attempt (after_tick before j) ≡ true → (o : ℕ) → after o ≡ before o)
      → Moved attempt other before after j (after_tick before j) (bit (refused before j))
  moved resting g l same = absurd (omega arith)
  moved (computing left later) g l same =
      elim (cases_lt 1 left) [
        | inl h ↦
            rw (lt-ltb 1 left h)
            (record { fits = (omega arith, g.1); work = omega arith; spent = omega arith; flag_fits = omega arith })
        | inr h ↦ rw (le-ltb 1 left h) (done (computing left later) later g.1 (omega (arith, g.0)))
      ]
  moved (attempting left word ticks object amount seen later) g l same =
      elim (cases_lt 1 left) [
        | inl h ↦
            rw (lt-ltb 1 left h)
            (goes_on left word ticks object amount seen later g h
            (same (rw (lt-ltb 1 left h) (lt-ltb (left - 1) ticks (omega (arith, g.1))))))
        | inr h ↦
            rw (le-ltb 1 left h)
            (elim (cases_Bool (eqb (goes_by before left ticks object seen) (before object))) [
              | inl e ↦ rw e (done (attempting left word ticks object amount seen later) later g.3 (omega (arith, g.0)))
              | inr e ↦ rw e (retried left word ticks object amount seen later g (omega (arith, g.0)) e)
            ])
      ]

-- the tick of a pending job is a working tick of the batch
module _ (attempt : ℕ) (tasks : List AdoptedTask) (k : ℕ) (m n : Machine) (fit : JobFits attempt (m.jobs k))
    (pending : 0 < needs (m.jobs k)) (st : MachineTicked tasks k m n) where
  -- what becomes of the record that works
  mo : Moved attempt (not (is_last m.last k)) m.readings n.readings (m.jobs k) (after_tick m.readings (m.jobs k))
      (bit (refused m.readings (m.jobs k)))
  mo = moved attempt _ m.readings n.readings (m.jobs k) fit pending (λ e. st.readings_same (rw st.job_is e))

  -- it fits
  tick_fits : JobFits attempt (n.jobs k)
  tick_fits = rw st.job_is mo.fits

  -- the job that worked is flagged only if its reading is old
  my_flag : (batch_of n).flag k
      ≡ bit (in_attempt (after_tick m.readings (m.jobs k)) && stale n.readings (after_tick m.readings (m.jobs k)))
  my_flag =
      elim (cases_Bool (is_at_rest (n.jobs k))) [
        | inl e ↦ let z = outside_rest (n.jobs k) e in rw (z, ← st.job_is, z)
        | inr e ↦ rw (st.last_is, e, eq-eqb k k refl, st.job_is)
      ]

  -- a job that does not work now is not the last one now
  not_now : (b : ℕ) → (b ≡ k → ⊥) → is_last n.last b ≡ false
  not_now b d =
      rw st.last_is (elim (cases_Bool (is_at_rest (n.jobs k))) [ inl e ↦ rw e | inr e ↦ rw (e, ne_eqb b k d) ])

  -- a job that did not work on the last tick is not the last
  not_last : (o : Option ℕ) (b : ℕ) → (o ≡ Some b → ⊥) → is_last o b ≡ false
  not_last None b d = refl
  not_last (Some l) b d = ne_eqb b l (λ e. d (ap Some (sym e)))

  -- so the tick works
  tick_works : Worked attempt tasks k (bit (refused m.readings (m.jobs k))) (batch_of m) (batch_of n)
  tick_works = record {
    clock_is = st.clock_is;
    last_is =
        st.last_is
        ∙ elim (cases_Bool (is_at_rest (n.jobs k))) [
          | inl e ↦ rw (e, needs_none (n.jobs k) e)
          | inr e ↦ rw (e, lt-ltb 0 (needs (n.jobs k)) (needs_some attempt (n.jobs k) tick_fits e))
        ];
    releases_same = st.releases_same;
    left_same = λ b l d. ap needs (st.jobs_same b l d);
    flag_same = λ b l d e. rw (st.jobs_same b l d, not_now b d, not_last m.last b e);
    flag_last = λ l e. bit_small _;
    flag_fits = rw (my_flag, st.job_is) mo.flag_fits;
    work = rw st.job_is mo.work;
    spent = rw my_flag mo.spent;
    retries_is = st.retries_is;
    preemptions_is = st.preemptions_is;
  }

-- a record that starts is a release of the batch
module _ (tasks : List AdoptedTask) (steps : List Step) (a : ℕ) (m n : Machine) (cost : total steps ≤ (task_at tasks a).cost)
    (st : MachineReleased tasks steps a m n) where
  -- a release changes no reading
  stale_same : (j : Job) → stale n.readings j ≡ stale m.readings j
  stale_same resting = refl
  stale_same (computing left later) = refl
  stale_same (attempting left word ticks object amount seen later) = rw (st.readings_same object)

  -- so the start is a release
  start_releases : Released tasks a (batch_of m) (batch_of n)
  start_releases = record {
    there = st.there;
    finished = ap needs st.at_rest;
    spaced = st.spaced;
    clock_is = st.clock_is;
    releases_are = st.releases_are;
    left_fits = rw (st.job_is, needs_begun steps) cost;
    flag_is = rw (st.job_is, outside_begun steps);
    last_is = st.last_is;
    releases_same = st.releases_same;
    left_same = λ b l d. ap needs (st.jobs_same b l d);
    flag_same = λ b l d. rw (st.jobs_same b l d, st.last_is, stale_same (m.jobs b));
    retries_is = st.retries_is;
    preemptions_is = st.preemptions_is;
  }

-- the three steps as they are promised
pub record_ticks : RecordTicks
record_ticks attempt tasks k m n fit pending st =
    (tick_works attempt tasks k m n fit pending st, tick_fits attempt tasks k m n fit pending st)

pub record_starts : RecordStarts
record_starts attempt tasks steps a m n fit cost st =
    (start_releases tasks steps a m n cost st, rw st.job_is (fits_begun attempt steps fit))

pub records_idle : RecordsIdle
records_idle tasks m n st = record {
  none_pending = λ a l. ap needs (st.at_rest a l);
  clock_is = st.clock_is;
  last_is = st.last_is;
  releases_same = st.releases_same;
  left_same = λ b l. ap needs (st.jobs_same b l);
  flag_same = λ b l. rw (st.jobs_same b l, st.at_rest b l);
  retries_is = st.retries_is;
  preemptions_is = st.preemptions_is;
}

-- where one record was replaced by one that fits, and the others stay, every record fits
fits_but : (attempt n k : ℕ) (before after : ℕ → Job) → ((b : ℕ) → b < n → JobFits attempt (before b)) → JobFits attempt (after k)
    → ((b : ℕ) → b < n → (b ≡ k → ⊥) → after b ≡ before b) → (b : ℕ) → b < n → JobFits attempt (after b)
fits_but attempt n k before after all here same b l =
    elim (cases_eq b k) [
      | inl e ↦ at_place (λ x. JobFits attempt (after x)) e here
      | inr d ↦ rw (same b l d) (all b l)
    ]

-- a run of records is a run of the batch, and every record fits
module _ {attempt : ℕ} {tasks : List AdoptedTask} {plans : ℕ → List Step} {Before : Order} (ok : PlansFit attempt tasks plans) where
  -- step by step
  pub records_run_lem : {m : Machine} → MachineRun tasks plans Before m
      → Run attempt tasks Before (batch_of m) × AllFit attempt tasks m
  records_run_lem (opened o) = (
    batch.opened (record {
      clock_is = o.clock_is;
      releases_are = o.releases_are;
      left_is = λ a l. ap needs (o.jobs_are a l);
      flag_is = λ a l. rw (o.jobs_are a l);
      last_is = o.last_is;
      retries_is = o.retries_is;
      preemptions_is = o.preemptions_is;
    }),
    (λ b l. rw (o.jobs_are b l) tt),
  )
  records_run_lem (released {m = m} {n = n} {a = a} r st) =
      let h = records_run_lem r in
      let s = record_starts attempt tasks (plans a) a m n (ok.lengths a st.there) (ok.costs a st.there) st in
      (batch.released h.0 s.0, fits_but _ _ a m.jobs n.jobs h.1 s.1 st.jobs_same)
  records_run_lem (idled {m = m} {n = n} r st) =
      let h = records_run_lem r in
      (batch.idled h.0 (records_idle tasks m n st), (λ b l. rw (st.jobs_same b l) (h.1 b l)))
  records_run_lem (ticked {m = m} {n = n} {k = k} r mu st) =
      let h = records_run_lem r in
      let s = record_ticks attempt tasks k m n (h.1 k mu.there) mu.pending st in
      (batch.worked h.0 mu s.0, fits_but _ _ k m.jobs n.jobs h.1 s.1 st.jobs_same)
