-- By deadline: the level of the jobs due by a moment, and the window that ends there.
use Rattle.std.proofs.Common.{◌≡◌, ℕ, ◌+◌, ◌-◌, ◌<◌, ◌≤◌, Bool, leb, List, length, inl, inr, mul-le-mul_right, arith}
use Rattle.std.proofs.lemmas.Bool.{leb-true, le-leb}
use Rattle.std.proofs.lemmas.Nat.{le-div}
use Rattle.admission.specs.declared.plan.AdoptedTask.{AdoptedTask}
use Rattle.admission.specs.Search.{sum_below}
use Rattle.admission.specs.Demand.{work_by_deadline, charge_by_deadline}
use Rattle.schedule.specs.Batches.{Batch, ByDeadline, task_at, released_at}
use Rattle.schedule.specs.Theorems.{AdmittedByDeadline, KeepsDeadlines}
use Rattle.schedule.proofs.Releases.{count_due}
use Rattle.schedule.proofs.Moments.{Asymmetric, choice_of}
use Rattle.schedule.proofs.Levels.{Level, Horizon, ReleasedBy, since, since_parts, between, between_parts, run_early}
use Rattle.schedule.proofs.Levels.{brought, spoils, granted, granted_at_most}

-- of two jobs not both go before the other
pub deadline_asymmetric : (tasks : List AdoptedTask) → Asymmetric (ByDeadline tasks)
deadline_asymmetric tasks a ra b rb f g = omega arith

-- the jobs due by a moment
abbrev pub due_by : List AdoptedTask → ℕ → ℕ → ℕ → Bool
due_by tasks moment a r = leb (r + (task_at tasks a).deadline) moment

-- a more urgent job is due no later
pub due_before : (tasks : List AdoptedTask) (moment a ra b rb : ℕ) → ByDeadline tasks a ra b rb
    → rb + (task_at tasks b).deadline ≤ moment → ra + (task_at tasks a).deadline ≤ moment
due_before tasks moment a ra b rb (inl f) h = omega arith
due_before tasks moment a ra b rb (inr f) h = omega (arith, f.0)

-- each of the jobs due by a moment may preempt another
abbrev pub due_level : (attempt : ℕ) (tasks : List AdoptedTask) → ℕ → Level attempt (ByDeadline tasks)
due_level attempt tasks moment = record {
  member = due_by tasks moment;
  spoiler = due_by tasks moment;
  weight = λ _. attempt;
  charge = λ _. attempt;
  lost = 0;
  within = λ a r e. e;
  above = λ a ra b rb f e. le-leb _ _ (due_before tasks moment a ra b rb f (leb-true _ _ e));
  pays = λ a ra b rb f e. omega arith;
  weighs = λ a. omega arith;
}

-- What is released from q on and due by q + t is what the test counts within t.
module _ (attempt : ℕ) (tasks : List AdoptedTask) (periods : (a : ℕ) → a < length tasks → 0 < (task_at tasks a).period)
    (q t c : ℕ) (v : Batch) (by : ReleasedBy tasks c v) where
  -- the level of the jobs due by then
  abbrev level : Level attempt (ByDeadline tasks)
  level = due_level attempt tasks (q + t)

  -- as work ..
  work_at_most : (a : ℕ) → a < length tasks → brought tasks level q v a ≤ work_by_deadline t (task_at tasks a)
  work_at_most a l =
      mul-le-mul_right (task_at tasks a).cost
      (le-div _ _ (task_at tasks a).period (periods a l)
      (omega (
        arith,
        count_due (task_at tasks a).period q (task_at tasks a).deadline (q + t) (since (due_by tasks (q + t)) q a)
            (λ r y. let z = since_parts (due_by tasks (q + t)) q a r y in (z.1, leb-true _ _ z.0))
            (c + (task_at tasks a).period) (v.releases a) (by a l),
      )))

  -- .. and as the charge
  charge_at_most : (a : ℕ) → a < length tasks → spoils tasks level q v a ≤ charge_by_deadline attempt t (task_at tasks a)
  charge_at_most a l =
      mul-le-mul_right attempt
      (le-div _ _ (task_at tasks a).period (periods a l)
      (omega (
        arith,
        count_due (task_at tasks a).period (q + 1) (task_at tasks a).deadline (q + t)
            (between (due_by tasks (q + t)) q (choice_of v) a)
            (λ r y. let z = between_parts (due_by tasks (q + t)) q (choice_of v) a r y in (omega (arith, z.1), leb-true _ _ z.0))
            (c + (task_at tasks a).period) (v.releases a) (by a l),
      )))

  -- so what is granted is at most the demand
  window : sum_below (length tasks) (granted tasks level q v)
      ≤ sum_below (length tasks) (λ a. work_by_deadline t (task_at tasks a))
      + sum_below (length tasks) (λ a. charge_by_deadline attempt t (task_at tasks a))
  window = granted_at_most tasks level q v _ _ work_at_most charge_at_most

-- the window of the jobs due by a moment is cut at that moment
due_horizon : (attempt : ℕ) (tasks : List AdoptedTask) → AdmittedByDeadline attempt tasks → (moment : ℕ)
    → Horizon tasks (due_level attempt tasks moment) (λ _. moment)
due_horizon attempt tasks ok moment = record {
  ahead = λ a r l e. omega (arith, ok.deadlines a l, leb-true (r + (task_at tasks a).deadline) moment e);
  enough = λ q c v by tick behind here.
      let end : q + (moment - q) ≡ moment = omega arith in
      omega (arith, ok.meets (moment - q), rw end at (window attempt tasks ok.periods q (moment - q) c v by));
}

-- so a pending job, which is of the level of its own deadline, has not come to it
pub deadlines_earliest_first_lem : KeepsDeadlines AdmittedByDeadline ByDeadline
deadlines_earliest_first_lem attempt tasks ok v r a l m =
    let moment = released_at v a + (task_at tasks a).deadline in
    (run_early tasks (due_level attempt tasks moment) (deadline_asymmetric tasks) (due_horizon attempt tasks ok moment)
    r a l (le-leb _ _ (omega arith)) m).2
