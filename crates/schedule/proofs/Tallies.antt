-- Retries are at most preemptions, and preemptions at most releases, whatever the table.
use Rattle.std.proofs.Common.{◌≡◌, ℕ, ◌+◌, ◌<◌, ◌≤◌, true, ltb, List, length, ap, inl, inr, arith}
use Rattle.std.proofs.lemmas.Bool.{cases_eq, cases_lt, ltb-true, lt-ltb, le-ltb}
use Rattle.admission.specs.declared.plan.AdoptedTask.{AdoptedTask}
use Rattle.admission.specs.Search.{sum_below}
use Rattle.schedule.specs.Batches.{Batch, Order, Opened, Released, Idled, MostUrgent, Worked, Run, opened, released, idled, worked}
use Rattle.schedule.specs.Batches.{released_at, releases_of}
use Rattle.schedule.proofs.Sums.{at, at_same, at_other, at_place, sum_le, sum_same, sum_add, sum_at, sum_zero, sum_step}
use Rattle.schedule.proofs.Releases.{count, count_more, count_gains, count_length}
use Rattle.schedule.proofs.Moments.{Asymmetric, Sound, choice_of, released_by, run_sound}
use Rattle.schedule.proofs.Moments.{Preempts, preempts, preempts_new}

-- the releases of a place that were there at the last choice
abbrev seen : Batch → ℕ → ℕ
seen v a = count (λ r. ltb r (choice_of v)) (v.releases a)

-- what was there at a choice is there at a later one
seen_later : (v w : Batch) → choice_of v ≤ choice_of w → (r : ℕ) → ltb r (choice_of v) ≡ true → ltb r (choice_of w) ≡ true
seen_later v w h r e = lt-ltb r (choice_of w) (omega (arith, ltb-true r (choice_of v) e))

-- so the count does not shrink
seen_more : (v w : Batch) (a : ℕ) → choice_of v ≤ choice_of w → w.releases a ≡ v.releases a → seen v a ≤ seen w a
seen_more v w a h e = rw e (count_more _ _ (seen_later v w h) (v.releases a))

-- A retry spends a flag, a preemption sets one, and a job preempts only when it is first chosen.
record Tallied (tasks : List AdoptedTask) (v : Batch) : Type 0 where
  retried : v.retries + sum_below (length tasks) v.flag ≤ v.preemptions
  preempted : v.preemptions ≤ sum_below (length tasks) (seen v)

module _ {tasks : List AdoptedTask} where
  -- an opened batch has nothing to count
  opened_tallied : {v : Batch} → Opened tasks v → Tallied tasks v
  opened_tallied {v} o = record {
    retried = omega (arith, o.retries_is, sum_zero (length tasks) v.flag o.flag_is);
    preempted = omega (arith, o.preemptions_is);
  }

  -- an idle tick changes no count
  idled_tallied : {v w : Batch} → Tallied tasks v → Idled tasks v w → Tallied tasks w
  idled_tallied {v} {w} ta st = record {
    retried =
        omega (
          arith,
          sum_le (length tasks) w.flag v.flag (λ b l. omega (arith, st.flag_same b l)),
          ta.retried,
          st.retries_is,
          st.preemptions_is,
        );
    preempted =
        omega (
          arith,
          sum_le (length tasks) (seen v) (seen w) (λ b l. seen_more v w b (omega (arith, st.clock_is)) (st.releases_same b l)),
          ta.preempted,
          st.preemptions_is,
        );
  }

  module _ {a : ℕ} {v w : Batch} (ta : Tallied tasks v) (st : Released tasks a v w) where
    -- a release sets no flag
    fewer_flags : (b : ℕ) → b < length tasks → w.flag b ≤ v.flag b
    fewer_flags b l =
        elim (cases_eq b a) [
          | inl e ↦ at_place (λ x. w.flag x ≤ v.flag x) e (omega (arith, st.flag_is))
          | inr d ↦ omega (arith, st.flag_same b l d)
        ]

    -- and takes no release away
    still_seen : (b : ℕ) → b < length tasks → seen v b ≤ seen w b
    still_seen b l =
        elim (cases_eq b a) [
          | inl e ↦ at_place (λ x. seen v x ≤ seen w x) e (rw (st.clock_is, st.releases_are) (omega arith))
          | inr d ↦ seen_more v w b (omega (arith, st.clock_is)) (st.releases_same b l d)
        ]

    -- a release keeps the tallies
    released_tallied : Tallied tasks w
    released_tallied = record {
      retried = omega (arith, sum_le (length tasks) w.flag v.flag fewer_flags, ta.retried, st.retries_is, st.preemptions_is);
      preempted = omega (arith, sum_le (length tasks) (seen v) (seen w) still_seen, ta.preempted, st.preemptions_is);
    }

  module _ {attempt k retry : ℕ} {v w : Batch} {Before : Order} (asym : Asymmetric Before) (so : Sound tasks Before v)
      (mu : MostUrgent tasks Before k v) (st : Worked attempt tasks k retry v w) (ta : Tallied tasks v) where
    -- whom the tick preempts
    p : Preempts tasks k v w
    p = preempts st

    -- a retry takes a flag off k, a preemption puts one on its victim
    flags : (b : ℕ) → b < length tasks → w.flag b + at k retry b ≤ v.flag b + at p.victim p.number b
    flags b l =
        elim (cases_eq b k) [
          | inl e ↦
              at_place (λ x. w.flag x + at k retry x ≤ v.flag x + at p.victim p.number x) e
              (omega (arith, at_same k retry, st.spent))
          | inr d ↦ omega (arith, at_other k retry b d, p.flags_grow b l d)
        ]

    -- no release goes away
    more_seen : (b : ℕ) → b < length tasks → seen v b ≤ seen w b
    more_seen b l = seen_more v w b (omega (arith, st.clock_is)) (st.releases_same b l)

    -- the job that preempts is there from now on, and was not before
    newly_seen : 0 < p.number → seen v k + 1 ≤ seen w k
    newly_seen m =
        let new = preempts_new so mu (p.was_last m) (p.is_other m) asym in
        rw (st.releases_same k mu.there)
        (count_gains _ _ (seen_later v w (omega (arith, st.clock_is))) (v.releases k)
        (omega (arith, new, so.last_early p.victim (p.was_last m)))
        (le-ltb (released_at v k) (choice_of v) new)
        (lt-ltb (released_at v k) (choice_of w) (omega (arith, released_by so k mu.there, st.clock_is))))

    -- a preemption is paid for by a release that is seen for the first time
    all_seen : (b : ℕ) → b < length tasks → seen v b + at k p.number b ≤ seen w b + at k 0 b
    all_seen b l =
        elim (cases_eq b k) [
          | inl e ↦
              at_place (λ x. seen v x + at k p.number x ≤ seen w x + at k 0 x) e
              (elim (cases_lt 0 p.number) [
                | inl m ↦ omega (arith, at_same k p.number, newly_seen m, p.number_small)
                | inr m ↦ omega (arith, at_same k p.number, more_seen k mu.there)
              ])
          | inr d ↦ omega (arith, at_other k p.number b d, more_seen b l)
        ]

    -- a working tick keeps the tallies
    worked_tallied : Tallied tasks w
    worked_tallied = record {
      retried =
          omega (
            arith,
            sum_step (length tasks) k retry p.victim p.number w.flag v.flag mu.there flags,
            ta.retried,
            st.retries_is,
            st.preemptions_is,
            p.number_is,
          );
      preempted =
          omega (
            arith,
            sum_step (length tasks) k p.number k 0 (seen v) (seen w) mu.there all_seen,
            ta.preempted,
            st.preemptions_is,
            p.number_is,
          );
    }

  -- every run is tallied
  tallied : {attempt : ℕ} {Before : Order} {v : Batch} → Asymmetric Before → Run attempt tasks Before v → Tallied tasks v
  tallied asym (opened o) = opened_tallied o
  tallied asym (released r st) = released_tallied (tallied asym r) st
  tallied asym (idled r st) = idled_tallied (tallied asym r) st
  tallied asym (worked r mu st) = worked_tallied asym (run_sound r) mu st (tallied asym r)

  -- so retries are at most preemptions, and those at most all releases
  pub retries_bounded_lem : {attempt : ℕ} {Before : Order} {v : Batch} → Asymmetric Before → Run attempt tasks Before v
      → (v.retries ≤ v.preemptions) × (v.preemptions ≤ releases_of tasks v)
  retries_bounded_lem {v = v} asym r =
      let h = tallied asym r in
      let all = sum_le (length tasks) (seen v) (λ a. length (v.releases a)) (λ a _. count_length _ (v.releases a)) in
      (omega (arith, h.retried), omega (arith, h.preempted))

  -- for who keeps the number of releases as a sum: a release adds one to it ..
  pub releases_more : {a : ℕ} {v w : Batch} → Released tasks a v w → releases_of tasks w ≡ releases_of tasks v + 1
  releases_more {a} {v} {w} st =
      omega (
        arith,
        sum_same (length tasks) (λ b. length (w.releases b)) (λ b. length (v.releases b) + at a 1 b) each,
        sum_add (length tasks) (λ b. length (v.releases b)) (at a 1),
        sum_at (length tasks) a 1 st.there,
      )
    where
      each : (b : ℕ) → b < length tasks → length (w.releases b) ≡ length (v.releases b) + at a 1 b
      each b l =
          elim (cases_eq b a) [
            | inl e ↦
                at_place (λ x. length (w.releases x) ≡ length (v.releases x) + at a 1 x) e
                (rw st.releases_are (omega (arith, at_same a 1)))
            | inr d ↦ rw (st.releases_same b l d) (omega (arith, at_other a 1 b d))
          ]

-- .. and a tick none
pub releases_kept : (tasks : List AdoptedTask) (v w : Batch) → ((b : ℕ) → b < length tasks → w.releases b ≡ v.releases b)
    → releases_of tasks w ≡ releases_of tasks v
releases_kept tasks v w same =
    sum_same (length tasks) (λ b. length (w.releases b)) (λ b. length (v.releases b)) (λ b l. ap length (same b l))
