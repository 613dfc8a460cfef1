-- Between the times at which jobs come due, the demand stays the same.
use Rattle.std.proofs.Common.{◌≡◌, ℕ, ◌+◌, ◌-◌, ◌*◌, ◌/◌, ◌%◌, ◌<◌, ◌≤◌, false, not, ltb, List, length, get_or, is_some, Some, None, Option, sym, refl, ap, ◌∙◌, subst, inl, inr, mod-lt, arith}
use Rattle.std.proofs.lemmas.Bool.{cases_lt, both_ways, lt-ltb, le-ltb}
use Rattle.std.proofs.lemmas.Nat.{div-add-mod'}
use Rattle.admission.specs.declared.plan.AdoptedTask.{AdoptedTask}
use Rattle.admission.specs.Tables.{no_adopted_task}
use Rattle.admission.specs.Limits.{NumberLimits, AdoptedLimits}
use Rattle.admission.specs.Demand.{work_by_deadline, charge_by_deadline, demand_by_deadline}
use Rattle.admission.specs.Tests.{Steady, least_overrun}
use Rattle.admission.proofs.Firsts.{first_none, first_some, first_missing}
use Rattle.admission.proofs.Monotone.{demand_later_by_deadline}
use Rattle.admission.proofs.Quotients.{quotient}
use Rattle.admission.proofs.Ranges.{sum_same}

module _ (task : AdoptedTask) (limits : NumberLimits task) (t : ℕ) (some : 1 ≤ t) where
  abbrev reach : ℕ → ℕ
  reach u = u + task.period - task.deadline

  -- up to the next job that comes due
  pub steady_between : 0 < reach t % task.period → Steady task t (t + (task.period - reach t % task.period))
  steady_between h u a b =
      let q = reach t / task.period in
      let r = reach t % task.period in
      let e : reach t ≡ q * task.period + r = sym (div-add-mod' (reach t) task.period) in
      let l : r < task.period = mod-lt (reach t) limits.0.0 in
      let p = limits.1.1 in
      let now : reach t - 1 ≡ q * task.period + (r - 1) = omega arith in
      let later : reach u ≡ q * task.period + (r + (u - t)) = omega arith in
      let before : reach u - 1 ≡ q * task.period + (r + (u - t) - 1) = omega arith in (
        quotient (reach u) task.period q (r + (u - t)) later (omega arith),
        quotient (reach u - 1) task.period q (r + (u - t) - 1) before (omega arith)
            ∙ sym (quotient (reach t - 1) task.period q (r - 1) now (omega arith)),
      )

-- a single tick
pub steady_tick : (task : AdoptedTask) (t : ℕ) → Steady task t (t + 1)
steady_tick task t u a b =
    let e : u ≡ t = omega arith in
    subst (λ (x : ℕ). ((x + task.period - task.deadline) / task.period ≡ (t + task.period - task.deadline) / task.period) × ((x + task.period - task.deadline - 1) / task.period ≡ (t + task.period - task.deadline - 1) / task.period)) (sym e) (refl, refl)

pub steady_sooner : (task : AdoptedTask) (t until sooner : ℕ) → sooner ≤ until → Steady task t until → Steady task t sooner
steady_sooner task t until sooner l h u a b = h u a (omega arith)

pub demand_steady : (attempt : ℕ) (tasks : List AdoptedTask) (t until : ℕ) → ((a : ℕ) → a < length tasks → Steady (get_or tasks a no_adopted_task) t until) → (u : ℕ) → t ≤ u → u < until → demand_by_deadline attempt tasks u ≡ demand_by_deadline attempt tasks t
demand_steady attempt tasks t until h u a b =
    let w = sum_same (length tasks) (λ k. work_by_deadline u (get_or tasks k no_adopted_task)) (λ k. work_by_deadline t (get_or tasks k no_adopted_task))
    (λ k l. ap (λ (n : ℕ). n * (get_or tasks k no_adopted_task).cost) (h k l u a b).0) in
    let c = sum_same (length tasks) (λ k. charge_by_deadline attempt u (get_or tasks k no_adopted_task)) (λ k. charge_by_deadline attempt t (get_or tasks k no_adopted_task))
    (λ k l. ap (λ (n : ℕ). n * attempt) (h k l u a b).1) in
    omega (arith, w, c)

-- what is enough up to t is enough until the demand changes
pub enough_until : (attempt : ℕ) (tasks : List AdoptedTask) (t until : ℕ) → ((a : ℕ) → a < length tasks → Steady (get_or tasks a no_adopted_task) t until) → ((u : ℕ) → 1 ≤ u → u < t → demand_by_deadline attempt tasks u ≤ u) → demand_by_deadline attempt tasks t ≤ t → (u : ℕ) → 1 ≤ u → u < until → demand_by_deadline attempt tasks u ≤ u
enough_until attempt tasks t until steady h e u a b =
    elim (cases_lt u t) [
      | inl l ↦ h u a l
      | inr l ↦ omega (arith, demand_steady attempt tasks t until steady u l b)
    ]

-- the least time that is not enough
pub overrun_is : (attempt : ℕ) (tasks : List AdoptedTask) (most t : ℕ) → 1 ≤ t → t ≤ most → t < demand_by_deadline attempt tasks t → ((u : ℕ) → 1 ≤ u → u < t → demand_by_deadline attempt tasks u ≤ u) → least_overrun attempt tasks most ≡ Some t
overrun_is attempt tasks most t a b e h =
    first_some (λ u. ltb u (demand_by_deadline attempt tasks u)) 1 most t
    (record { from = a; below = omega arith; passes = lt-ltb t _ e; first = λ u o l. le-ltb u _ (h u o l) })

pub overrun_none : (attempt : ℕ) (tasks : List AdoptedTask) (most : ℕ) → ((u : ℕ) → 1 ≤ u → u ≤ most → demand_by_deadline attempt tasks u ≤ u) → least_overrun attempt tasks most ≡ None
overrun_none attempt tasks most h =
    first_none (λ u. ltb u (demand_by_deadline attempt tasks u)) 1 most (λ u o l. le-ltb u _ (h u o (omega arith)))

pub overrun_some : (attempt : ℕ) (tasks : List AdoptedTask) (most t : ℕ) → 1 ≤ t → t ≤ most → t < demand_by_deadline attempt tasks t → not (is_some (least_overrun attempt tasks most)) ≡ false
overrun_some attempt tasks most t a b e = found (least_overrun attempt tasks most) refl
  where
    found : (o : Option ℕ) → least_overrun attempt tasks most ≡ o → not (is_some o) ≡ false
    found None h = absurd (both_ways (ltb t (demand_by_deadline attempt tasks t)) (first_missing (λ u. ltb u (demand_by_deadline attempt tasks u)) 1 most h t a (omega arith)) (lt-ltb t _ e))
    found (Some k) h = refl

-- a time that is enough clears all times down to its demand
pub enough_down : (attempt : ℕ) (tasks : List AdoptedTask) (t end : ℕ) → AdoptedLimits tasks → demand_by_deadline attempt tasks t ≤ t
    → ((u : ℕ) → t < u → u ≤ end → demand_by_deadline attempt tasks u ≤ u) → (u : ℕ) → demand_by_deadline attempt tasks t - 1 < u → u ≤ end → demand_by_deadline attempt tasks u ≤ u
enough_down attempt tasks t end limits e h u a b =
    elim (cases_lt t u) [
      | inl l ↦ h u l b
      | inr l ↦ omega (arith, demand_later_by_deadline attempt tasks u t limits l)
    ]
