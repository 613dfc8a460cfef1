-- The worked runs are runs.
use Rattle.std.proofs.Common.{◌≡◌, ℕ, zero, suc, ◌+◌, ◌-◌, ◌*◌, ◌<◌, ◌≤◌, true, false, eqb, ltb, List, [], ◌∷◌, length, get_or, refl, inl, inr, div-mul-le_self, arith, lit<, lit≤}
use Rattle.std.proofs.lemmas.Bool.{cases_Bool, eq-eqb, ne_eqb, both_ways, cond-false}
use Rattle.admission.specs.declared.plan.AdoptedTask.{AdoptedTask}
use Rattle.admission.specs.declared.plan.Step.{Step}
use Rattle.admission.specs.Tests.{Witnessed}
use Rattle.schedule.specs.Batches.{Order, MayRelease, MostUrgent, ByRank, ByDeadline, task_at, released_at}
use Rattle.schedule.specs.Jobs.{Job, resting, computing, attempting, needs, in_attempt, goes_by, commits, after_tick, StepsFit, Machine, MachineRun, opened, released, ticked, batch_of, total}
use Rattle.schedule.specs.Theorems.{AdmittedByRank, AdmittedByDeadline, PlansFit}
use Rattle.schedule.specs.Examples.{release, tick, performed, opening, RunOf, ranked_tasks, ranked_plans, ranked_calls, due_tasks, due_plans, due_calls}
use Rattle.schedule.proofs.Records.{outside_begun}

-- a job that is still inside its attempt has not committed
not_committed : (readings : ℕ → ℕ) (j : Job) → in_attempt (after_tick readings j) ≡ true → commits readings j ≡ false
not_committed readings resting e = refl
not_committed readings (computing left later) e = refl
not_committed readings (attempting left word ticks object amount seen later) e =
    elim (cases_Bool (ltb 1 left)) [
      | inl h ↦ rw h
      | inr h ↦
          elim (cases_Bool (eqb (goes_by readings left ticks object seen) (readings object))) [
            | inl y ↦ absurd (both_ways _ (outside_begun later) (rw (h, y) at e))
            | inr y ↦ rw (h, y)
          ]
    ]

module _ {tasks : List AdoptedTask} {plans : ℕ → List Step} {Before : Order} where
  -- a release that may come
  starts : (a : ℕ) {m : Machine} → MachineRun tasks plans Before m → a < length tasks → m.jobs a ≡ resting
      → MayRelease (task_at tasks a).period m.clock (m.releases a) → MachineRun tasks plans Before (performed plans (release a) m)
  starts a {m} r there rest may =
      released r
      (record {
        there = there;
        at_rest = rest;
        spaced = may;
        clock_is = refl;
        releases_are = rw (eq-eqb a a refl);
        job_is = rw (eq-eqb a a refl);
        last_is = refl;
        readings_same = λ o. refl;
        releases_same = λ b l d. rw (ne_eqb b a d);
        jobs_same = λ b l d. rw (ne_eqb b a d);
        retries_is = refl;
        preemptions_is = refl;
      })

  -- a tick of the most urgent job
  works : (k : ℕ) {m : Machine} → MachineRun tasks plans Before m → MostUrgent tasks Before k (batch_of m)
      → MachineRun tasks plans Before (performed plans (tick k) m)
  works k {m} r mu =
      ticked r mu
      (record {
        clock_is = refl;
        job_is = now;
        last_is = rw now;
        readings_same = λ e o.
            cond-false (commits m.readings (m.jobs k)) _ _ (not_committed m.readings (m.jobs k) (rw now at e));
        releases_same = λ b l. refl;
        jobs_same = λ b l d. rw (ne_eqb b k d);
        retries_is = refl;
        preemptions_is = refl;
      })
    where
      -- the record that worked
      now : (performed plans (tick k) m).jobs k ≡ after_tick m.readings (m.jobs k)
      now = rw (eq-eqb k k refl)

-- an example begins with an opened batch
begins : (tasks : List AdoptedTask) (plans : ℕ → List Step) (Before : Order) → MachineRun tasks plans Before opening
begins tasks plans Before =
    opened (record {
      clock_is = refl;
      releases_are = λ a l. refl;
      jobs_are = λ a l. refl;
      last_is = refl;
      retries_is = refl;
      preemptions_is = refl;
    })

-- what holds of both of two places
both : (P : ℕ → Type 0) → P 0 → P 1 → (a : ℕ) → a < 2 → P a
both P p q zero l = p
both P p q (suc zero) l = q
both P p q (suc (suc a)) l = absurd (omega arith)

-- a place with nothing to do is not in the way
idle : {X : Type 0} → 0 < 0 → X
idle h = absurd (omega arith)

-- of two places, one works if it goes before the other or the other has nothing to do
module _ {one two : AdoptedTask} {plans : ℕ → List Step} {Before : Order} where
  -- place 0
  first_works : {m : Machine} → MachineRun (one ∷ two ∷ []) plans Before m → 0 < needs (m.jobs 0)
      → (0 < needs (m.jobs 1) → Before 0 (released_at (batch_of m) 0) 1 (released_at (batch_of m) 1))
      → MachineRun (one ∷ two ∷ []) plans Before (performed plans (tick 0) m)
  first_works {m} r pending before =
      works 0 r
      (record {
        there = lit< tt;
        pending = pending;
        first = both (λ b. (b ≡ 0 → ⊥) → 0 < needs (m.jobs b) → Before 0 (released_at (batch_of m) 0) b (released_at (batch_of m) b))
            (λ d. absurd (d refl)) (λ d. before);
      })

  -- place 1
  second_works : {m : Machine} → MachineRun (one ∷ two ∷ []) plans Before m → 0 < needs (m.jobs 1)
      → (0 < needs (m.jobs 0) → Before 1 (released_at (batch_of m) 1) 0 (released_at (batch_of m) 0))
      → MachineRun (one ∷ two ∷ []) plans Before (performed plans (tick 1) m)
  second_works {m} r pending before =
      works 1 r
      (record {
        there = lit< tt;
        pending = pending;
        first = both (λ b. (b ≡ 1 → ⊥) → 0 < needs (m.jobs b) → Before 1 (released_at (batch_of m) 1) b (released_at (batch_of m) b))
            (λ d. before) (λ d. absurd (d refl));
      })

-- the first table passes, with witnesses 2 and 15
ranked_passes : AdmittedByRank 2 ranked_tasks
ranked_passes = record {
  periods = both (λ a. 0 < (task_at ranked_tasks a).period) (lit< tt) (lit< tt);
  witnesses = 2 ∷ 15 ∷ [];
  meets = both (λ a. Witnessed 2 ranked_tasks a (get_or (2 ∷ 15 ∷ []) a 0))
      (lit≤ tt, lit≤ tt, lit≤ tt)
      (lit≤ tt, lit≤ tt, lit≤ tt);
}

-- and its plans fit
ranked_fit : PlansFit 2 ranked_tasks ranked_plans
ranked_fit = record {
  lengths = both (λ a. StepsFit 2 (ranked_plans a)) (lit< tt, lit≤ tt, (lit< tt, tt)) (lit< tt, (lit< tt, lit≤ tt, tt));
  costs = both (λ a. total (ranked_plans a) ≤ (task_at ranked_tasks a).cost) (lit≤ tt) (lit≤ tt);
}

-- task 1 looks, task 0 spoils its attempt, task 1 retries and finishes
pub ranked_run : RunOf AdmittedByRank ByRank 2 ranked_tasks ranked_plans ranked_calls
ranked_run =
    let r1 = starts 1 (begins ranked_tasks ranked_plans (ByRank ranked_tasks)) (lit< tt) refl (inl refl) in
    let r2 = second_works r1 (lit< tt) idle in
    let r3 = second_works r2 (lit< tt) idle in
    let r4 = starts 0 r3 (lit< tt) refl (inl refl) in
    let r5 = first_works r4 (lit< tt) (λ _. lit< tt) in
    let r6 = first_works r5 (lit< tt) (λ _. lit< tt) in
    let r7 = second_works r6 (lit< tt) idle in
    let r8 = second_works r7 (lit< tt) idle in
    let r9 = second_works r8 (lit< tt) idle in
    record { passes = ranked_passes; fit = ranked_fit; run = r9 }

-- the demand of the second table, with its four quotients bounded
due_demand : (t a b c d : ℕ) → a * 20 ≤ t + 20 - 20 → b * 10 ≤ t + 10 - 6 → c * 20 ≤ t + 20 - 20 - 1 → d * 10 ≤ t + 10 - 6 - 1
    → 0 + a * 3 + b * 1 + (0 + c * 2 + d * 2) ≤ t
due_demand t a b c d h i j k = omega arith

-- so the second table passes
due_passes : AdmittedByDeadline 2 due_tasks
due_passes = record {
  periods = both (λ a. 0 < (task_at due_tasks a).period) (lit< tt) (lit< tt);
  deadlines = both (λ a. 0 < (task_at due_tasks a).deadline) (lit< tt) (lit< tt);
  meets = λ t.
      due_demand t _ _ _ _ (div-mul-le_self (t + 20 - 20) 20) (div-mul-le_self (t + 10 - 6) 10)
      (div-mul-le_self (t + 20 - 20 - 1) 20) (div-mul-le_self (t + 10 - 6 - 1) 10);
}

-- and its plans fit
due_fit : PlansFit 2 due_tasks due_plans
due_fit = record {
  lengths = both (λ a. StepsFit 2 (due_plans a)) (lit< tt, (lit< tt, lit≤ tt, tt)) (lit< tt, lit≤ tt, tt);
  costs = both (λ a. total (due_plans a) ≤ (task_at due_tasks a).cost) (lit≤ tt) (lit≤ tt);
}

-- task 0 looks, task 1, which is due first, spoils its attempt, task 0 retries and finishes
pub due_run : RunOf AdmittedByDeadline ByDeadline 2 due_tasks due_plans due_calls
due_run =
    let r1 = starts 0 (begins due_tasks due_plans (ByDeadline due_tasks)) (lit< tt) refl (inl refl) in
    let r2 = first_works r1 (lit< tt) idle in
    let r3 = first_works r2 (lit< tt) idle in
    let r4 = starts 1 r3 (lit< tt) refl (inl refl) in
    let r5 = second_works r4 (lit< tt) (λ _. inl (lit< tt)) in
    let r6 = first_works r5 (lit< tt) idle in
    let r7 = first_works r6 (lit< tt) idle in
    let r8 = first_works r7 (lit< tt) idle in
    record { passes = due_passes; fit = due_fit; run = r8 }
