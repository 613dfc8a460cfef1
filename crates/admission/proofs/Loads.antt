-- The demand by deadline grows by the load from each hyperperiod to the next, so one hyperperiod stands for all.
use Rattle.std.proofs.Common.{◌≡◌, ℕ, zero, suc, ◌+◌, ◌-◌, ◌*◌, ◌/◌, ◌<◌, ◌≤◌, ◌↔◌, List, length, get_or, sym, ap, ◌∙◌, inl, inr, add-mul, mul-add, arith}
use native.Mathlib.Nat.{add-mul-div_right, div-eq_of_lt, div-mul_cancel}
use Rattle.std.proofs.lemmas.Bool.{cases_lt}
use Rattle.admission.specs.declared.plan.AdoptedTask.{AdoptedTask}
use Rattle.admission.specs.Search.{sum_below}
use Rattle.admission.specs.Tables.{no_adopted_task}
use Rattle.admission.specs.Limits.{AllLawful}
use Rattle.admission.specs.Demand.{work_by_deadline, charge_by_deadline, demand_by_deadline}
use Rattle.admission.specs.Multiples.{Common}
use Rattle.admission.specs.Tests.{MeetsByDeadline, load_of}
use Rattle.admission.proofs.Ranges.{sum_same, sum_add, sum_zero}

module _ (attempt : ℕ) (tasks : List AdoptedTask) (lawful : AllLawful tasks) where
  abbrev at : ℕ → AdoptedTask
  at a = get_or tasks a no_adopted_task

  -- what one task asks for
  abbrev term : ℕ → ℕ → ℕ
  term t a = work_by_deadline t (at a) + charge_by_deadline attempt t (at a)

  demand_sum : (t : ℕ) → demand_by_deadline attempt tasks t ≡ sum_below (length tasks) (term t)
  demand_sum t = sym (sum_add (length tasks) (λ a. work_by_deadline t (at a)) (λ a. charge_by_deadline attempt t (at a)))

  demand_zero : demand_by_deadline attempt tasks 0 ≡ 0
  demand_zero =
      demand_sum 0
      ∙ sum_zero (length tasks) (term 0) (λ a l.
      let h = lawful a l in
      let w : (0 + (at a).period - (at a).deadline) / (at a).period ≡ 0 = div-eq_of_lt (omega (arith, h.period_some, h.deadline_some)) in
      let c : (0 + (at a).period - (at a).deadline - 1) / (at a).period ≡ 0 = div-eq_of_lt (omega (arith, h.period_some)) in
      rw (w, c) (omega arith))

  module _ (p : ℕ) (some : 1 ≤ p) (common : Common tasks (length tasks) p) where
    abbrev jobs : ℕ → ℕ
    jobs a = p / (at a).period

    -- one multiple of the periods later, as many more jobs are due as it holds
    term_later : (t a : ℕ) → 1 ≤ t → a < length tasks → term (t + p) a ≡ term t a + jobs a * ((at a).cost + attempt)
    term_later t a o l =
        let h = lawful a l in
        let m : p ≡ jobs a * (at a).period = sym (div-mul_cancel (at a).period (common a l)) in
        let e : t + p + (at a).period - (at a).deadline ≡ (t + (at a).period - (at a).deadline) + jobs a * (at a).period = omega (arith, m, h.deadline_most) in
        let f : t + p + (at a).period - (at a).deadline - 1 ≡ (t + (at a).period - (at a).deadline - 1) + jobs a * (at a).period = omega (arith, m, h.deadline_most) in
        let w : (t + p + (at a).period - (at a).deadline) / (at a).period ≡ (t + (at a).period - (at a).deadline) / (at a).period + jobs a =
        ap (λ (x : ℕ). x / (at a).period) e ∙ add-mul-div_right (t + (at a).period - (at a).deadline) (jobs a) h.period_some in
        let c : (t + p + (at a).period - (at a).deadline - 1) / (at a).period ≡ (t + (at a).period - (at a).deadline - 1) / (at a).period + jobs a =
        ap (λ (x : ℕ). x / (at a).period) f ∙ add-mul-div_right (t + (at a).period - (at a).deadline - 1) (jobs a) h.period_some in
        rw (w, c, add-mul ((t + (at a).period - (at a).deadline) / (at a).period) (jobs a) (at a).cost, add-mul ((t + (at a).period - (at a).deadline - 1) / (at a).period) (jobs a) attempt, mul-add (jobs a) (at a).cost attempt) (omega arith)

    demand_later : (t : ℕ) → 1 ≤ t → demand_by_deadline attempt tasks (t + p) ≡ demand_by_deadline attempt tasks t + load_of attempt tasks p
    demand_later t o =
        demand_sum (t + p)
        ∙ sum_same (length tasks) (term (t + p)) (λ a. term t a + jobs a * ((at a).cost + attempt)) (λ a l. term_later t a o l)
        ∙ sum_add (length tasks) (term t) (λ a. jobs a * ((at a).cost + attempt))
        ∙ ap (λ (x : ℕ). x + load_of attempt tasks p) (sym (demand_sum t))

    -- from the times of one multiple to those up to `most`
    enough_up_to : load_of attempt tasks p ≤ p → ((t : ℕ) → 1 ≤ t → t ≤ p → demand_by_deadline attempt tasks t ≤ t) → (most t : ℕ) → t ≤ most → demand_by_deadline attempt tasks t ≤ t
    enough_up_to light h zero t l = let z : t ≡ 0 = omega arith in rw z (omega (arith, demand_zero))
    enough_up_to light h (suc most) t l =
        elim (cases_lt p t) [
          | inl y ↦
              let z : t ≡ (t - p) + p = omega arith in
              let i = enough_up_to light h most (t - p) (omega arith) in
              omega (arith, ap (demand_by_deadline attempt tasks) z, demand_later (t - p) (omega arith), i)
          | inr y ↦
              elim (cases_lt 0 t) [
                | inl o ↦ h t o y
                | inr o ↦ enough_up_to light h most t (omega arith)
              ]
        ]

    pub one_hyperperiod : MeetsByDeadline attempt tasks ↔ ((load_of attempt tasks p ≤ p) × ((t : ℕ) → 1 ≤ t → t ≤ p → demand_by_deadline attempt tasks t ≤ t))
    one_hyperperiod = (
      (λ h. (omega (arith, h (1 + p + p), demand_later 1 (omega arith), demand_later (1 + p) (omega arith)), λ t _ _. h t)),
      (λ h t. enough_up_to h.0 h.1 t t (omega arith)),
    )
