-- The demand never falls as time passes.
use Rattle.std.proofs.Common.{ℕ, ◌*◌, ◌/◌, ◌≤◌, Bool, true, false, cond, ltb, leb, List, length, get_or, mul-le-mul_right, div-mul-le_self, arith}
use Rattle.std.proofs.lemmas.Nat.{le-div}
use Rattle.admission.specs.declared.plan.AdoptedTask.{AdoptedTask}
use Rattle.admission.specs.Tables.{no_adopted_task}
use Rattle.admission.specs.Limits.{AdoptedLimits}
use Rattle.admission.specs.Demand.{work_by_rank, charge_by_rank, work_by_deadline, charge_by_deadline, demand_up_to_rank, demand_by_deadline}
use Rattle.admission.proofs.Ranges.{sum_le}

-- in more ticks as many jobs fit, or more
pub jobs_later : (x y p m : ℕ) → 1 ≤ p → x ≤ y → x / p * m ≤ y / p * m
jobs_later x y p m o h = mul-le-mul_right m (le-div (x / p) y p o (omega (arith, div-mul-le_self x p)))

under : (b : Bool) (x y : ℕ) → x ≤ y → cond b x 0 ≤ cond b y 0
under true x y h = h
under false x y h = omega arith

pub demand_later : (attempt : ℕ) (tasks : List AdoptedTask) (rank t u : ℕ) → AdoptedLimits tasks → t ≤ u → demand_up_to_rank attempt tasks rank t ≤ demand_up_to_rank attempt tasks rank u
demand_later attempt tasks rank t u limits h =
    let w = sum_le (length tasks) (λ a. work_by_rank rank t (get_or tasks a no_adopted_task)) (λ a. work_by_rank rank u (get_or tasks a no_adopted_task))
    (λ a l. under (leb (get_or tasks a no_adopted_task).rank rank) _ _ (jobs_later _ _ _ _ (limits a l).0.0 (omega arith))) in
    let c = sum_le (length tasks) (λ a. charge_by_rank attempt rank t (get_or tasks a no_adopted_task)) (λ a. charge_by_rank attempt rank u (get_or tasks a no_adopted_task))
    (λ a l. under (ltb (get_or tasks a no_adopted_task).rank rank) _ _ (jobs_later _ _ _ _ (limits a l).0.0 (omega arith))) in
    omega (arith, w, c)

pub demand_later_by_deadline : (attempt : ℕ) (tasks : List AdoptedTask) (t u : ℕ) → AdoptedLimits tasks → t ≤ u → demand_by_deadline attempt tasks t ≤ demand_by_deadline attempt tasks u
demand_later_by_deadline attempt tasks t u limits h =
    let w = sum_le (length tasks) (λ a. work_by_deadline t (get_or tasks a no_adopted_task)) (λ a. work_by_deadline u (get_or tasks a no_adopted_task))
    (λ a l. jobs_later _ _ _ _ (limits a l).0.0 (omega arith)) in
    let c = sum_le (length tasks) (λ a. charge_by_deadline attempt t (get_or tasks a no_adopted_task)) (λ a. charge_by_deadline attempt u (get_or tasks a no_adopted_task))
    (λ a l. jobs_later _ _ _ _ (limits a l).0.0 (omega arith)) in
    omega (arith, w, c)
