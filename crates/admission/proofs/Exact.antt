-- The tests that are run are exactly the inequalities.
use Rattle.std.proofs.Common.{◌≡◌, ℕ, zero, suc, ◌<◌, ◌≤◌, Bool, true, false, cond, not, ltb, leb, List, length, get_or, is_some, Some, None, Ok, Option, unwrap_or, sym, refl, ap, ◌∙◌, subst, inl, inr, arith}
use Rattle.std.specs.Option.{option_map}
use Rattle.std.proofs.lemmas.Bool.{cases_Bool, both_ways, and_parts, and_from, ltb-true, leb-true, le-leb, ltb-false, not-false, not_from_false, cond-true}
use Rattle.std.proofs.lemmas.List.FromFn.{get_or-map-range_with_len}
use Rattle.admission.specs.declared.plan.AdoptedTask.{AdoptedTask}
use Rattle.admission.specs.declared.refusal.Refusal.{Refusal}
use Rattle.admission.specs.declared.refusal.Refusal.TheVariants.{Overload, Unschedulable}
use Rattle.admission.specs.Search.{first_below, some_below}
use Rattle.admission.specs.Tables.{no_adopted_task, goes_by_rank}
use Rattle.admission.specs.Demand.{demand_by_rank, demand_by_deadline}
use Rattle.admission.specs.Tests.{Witnessed, least_witness, unmet, lowest_unmet, hyperperiod_of, load_of, least_overrun}
use Rattle.admission.specs.Verdicts.{asked, first_no, unless, hyperperiod_no, deadlines_no, witnesses_of}
use Rattle.admission.specs.Laws.{SearchFindsTheLeast, TestByRankIsExact, TestByDeadlineIsExact}
use Rattle.admission.proofs.Firsts.{none≢some, none_from, first_none, first_some, first_found, first_missing}
use Rattle.admission.proofs.Witnesses.{lower, lowest, all_met}
use Rattle.admission.proofs.Divisors.{hyperperiod_found}
use Rattle.admission.proofs.Loads.{one_hyperperiod}
use Rattle.admission.proofs.Plateaus.{overrun_none}

pub search_least : SearchFindsTheLeast
search_least most test = (
  (λ t. (
    (λ h. let f = first_found test 1 most t h in record { positive = f.from; within = omega (arith, f.below); passes = f.passes; first = f.first }),
    (λ l. first_some test 1 most t (record { from = l.positive; below = omega (arith, l.within); passes = l.passes; first = l.first })),
  )),
  (
    (λ h t a b. first_missing test 1 most h t a (omega arith)),
    (λ h. first_none test 1 most (λ t a b. h t a (omega arith))),
  ),
)

pub mapped_none : {X Y : Type 0} (f : X → Y) (o : Option X) → option_map f o ≡ None → o ≡ None
mapped_none f None h = refl
mapped_none f (Some x) h = absurd (none≢some (f x) (sym h))

pub some_from : {X : Type 0} (o : Option X) (d : X) → is_some o ≡ true → o ≡ Some (unwrap_or o d)
some_from None d h = absurd (both_ways true (sym h) refl)
some_from (Some x) d h = refl

-- both questions are answered yes
pub first_no_left : (a b : Option Refusal) → first_no a b ≡ None → a ≡ None
first_no_left None b h = refl
first_no_left (Some e) b h = absurd (none≢some e (sym h))

pub first_no_right : (a b : Option Refusal) → first_no a b ≡ None → b ≡ None
first_no_right None b h = h
first_no_right (Some e) b h = absurd (none≢some e (sym h))

pub asked_yes : (b : Bool) (e : Refusal) → asked b e ≡ None → b ≡ true
asked_yes true e h = refl
asked_yes false e h = absurd (none≢some e (sym h))

module _ (attempt : ℕ) (tasks : List AdoptedTask) where
  abbrev rank_at : ℕ → ℕ
  rank_at place = (get_or tasks place no_adopted_task).rank

  -- if no lowest task is without a witness, none is: go down by rank
  none_unmet : lowest_unmet attempt tasks ≡ None → (bound place : ℕ) → place < length tasks → rank_at place < bound → unmet attempt tasks place ≡ false
  none_unmet h zero place l r = absurd (omega arith)
  none_unmet h (suc bound) place l r =
      elim (cases_Bool (unmet attempt tasks place)) [
        | inr e ↦ e
        | inl e ↦
            elim (cases_Bool (some_below (length tasks) (lower attempt tasks place))) [
              | inr s ↦
                  absurd (both_ways (lowest attempt tasks place)
                  (first_missing (lowest attempt tasks) 0 (length tasks) h place (omega arith) (omega arith))
                  (and_from (unmet attempt tasks place) _ e (not_from_false _ s)))
              | inl s ↦
                  let other = unwrap_or (first_below (length tasks) (lower attempt tasks place)) 0 in
                  let f = first_found (lower attempt tasks place) 0 (length tasks) other (some_from _ 0 s) in
                  let p = and_parts (ltb (rank_at other) (rank_at place)) (unmet attempt tasks other) f.passes in
                  absurd (both_ways (unmet attempt tasks other)
                  (none_unmet h bound other (omega (arith, f.below)) (omega (arith, ltb-true (rank_at other) (rank_at place) p.0)))
                  p.1)
            ]
      ]

  -- a task that is not unmet has its least witness
  witness_held : (place : ℕ) → unmet attempt tasks place ≡ false → Witnessed attempt tasks place (unwrap_or (least_witness attempt tasks place) 0)
  witness_held place h =
      let t = unwrap_or (least_witness attempt tasks place) 0 in
      let f = first_found (λ u. leb (demand_by_rank attempt tasks place u) u) 1 (get_or tasks place no_adopted_task).deadline t (some_from _ 0 (not-false _ h)) in
      (f.from, omega (arith, f.below), leb-true _ t f.passes)

  -- a task with a witness is not unmet
  has_witness : (place t : ℕ) → Witnessed attempt tasks place t → unmet attempt tasks place ≡ false
  has_witness place t w =
      elim (cases_Bool (is_some (least_witness attempt tasks place))) [
        | inl e ↦ ap not e
        | inr e ↦
            absurd (both_ways (leb (demand_by_rank attempt tasks place t) t)
            (first_missing (λ u. leb (demand_by_rank attempt tasks place u) u) 1 (get_or tasks place no_adopted_task).deadline (none_from _ e) t w.0 (omega (arith, w.1)))
            (le-leb _ t w.2))
      ]

pub rank_exact : TestByRankIsExact
rank_exact rule attempt tasks ranks = (
  (λ h place l.
      subst (λ (t : ℕ). Witnessed attempt tasks place t) (sym (held place l))
      (witness_held attempt tasks place (none_unmet attempt tasks (mapped_none Unschedulable _ h) (suc (get_or tasks place no_adopted_task).rank) place l (omega arith)))),
  (λ h. ap (option_map Unschedulable) (all_met attempt tasks (λ place l. has_witness attempt tasks place _ (h place l)))),
)
  where
    held : (place : ℕ) → place < length tasks → get_or (witnesses_of rule attempt tasks) place 0 ≡ unwrap_or (least_witness attempt tasks place) 0
    held place l =
        get_or-map-range_with_len (λ k. cond (goes_by_rank rule) (unwrap_or (least_witness attempt tasks k) 0) 0) 0 (length tasks) place place 0 l (omega arith)
        ∙ cond-true (goes_by_rank rule) (unwrap_or (least_witness attempt tasks place) 0) 0 ranks

pub deadline_exact : TestByDeadlineIsExact
deadline_exact attempt tasks lawful some =
    let p = unwrap_or (hyperperiod_of tasks) 0 in
    let e : hyperperiod_of tasks ≡ Some p = some_from _ 0 some in
    let i = hyperperiod_found tasks p e in
    let one = one_hyperperiod attempt tasks lawful p i.positive i.common in
    let d : deadlines_no attempt tasks ≡ hyperperiod_no attempt tasks (Some p) = ap (hyperperiod_no attempt tasks) e in (
      (λ h. one.1 (passed p (sym d ∙ h))),
      (λ h. d ∙ let q = one.0 h in passing p q.0 q.1),
    )
  where
    passed : (p : ℕ) → hyperperiod_no attempt tasks (Some p) ≡ None → (load_of attempt tasks p ≤ p) × ((t : ℕ) → 1 ≤ t → t ≤ p → demand_by_deadline attempt tasks t ≤ t)
    passed p h =
        let o = mapped_none Unschedulable (least_overrun attempt tasks p) (first_no_right (asked (leb (load_of attempt tasks p) p) Overload) _ h) in (
          leb-true _ p (asked_yes _ Overload (first_no_left _ (option_map Unschedulable (least_overrun attempt tasks p)) h)),
          λ t a b. ltb-false t _ (first_missing (λ u. ltb u (demand_by_deadline attempt tasks u)) 1 p o t a (omega arith)),
        )

    passing : (p : ℕ) → load_of attempt tasks p ≤ p → ((t : ℕ) → 1 ≤ t → t ≤ p → demand_by_deadline attempt tasks t ≤ t) → hyperperiod_no attempt tasks (Some p) ≡ None
    passing p l h =
        rw (le-leb (load_of attempt tasks p) p l) (ap (option_map Unschedulable) (overrun_none attempt tasks p h))

-- the value of an answer that is no refusal
pub unless_value : {X : Type 0} (o : Option Refusal) (x y : X) → unless o x ≡ Ok y → y ≡ x
unless_value None x y h = cc
unless_value (Some e) x y h = absurd (let z : ◌≡◌ {A = ℕ} 0 1 = cc in omega arith)
