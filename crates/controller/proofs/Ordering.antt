-- By rank: the first pending job in the order of the places is the most urgent.
use Rattle.std.proofs.Common.{◌≡◌, ℕ, ◌+◌, ◌<◌, ◌≤◌, Bool, true, false, cond, not, ◌&&◌, List, length, get_or, Some, None, Option, sym, ap, ◌∙◌, subst, inl, inr, arith}
use Rattle.std.proofs.lemmas.Bool.{cases_Bool, cases_eq, cases_lt, both_ways}
use Rattle.std.specs.Option.{MatchOption}
use Rattle.admission.specs.declared.plan.Rule.TheVariants.{RateMonotonic}
use Rattle.admission.specs.declared.plan.AdoptedTask.{AdoptedTask}
use Rattle.admission.specs.declared.plan.Rule.{Rule}
use Rattle.admission.specs.Search.{first_below, some_below}
use Rattle.admission.specs.Tables.{goes_by_rank, no_adopted_task}
use Rattle.admission.specs.Tests.{Ordered}
use Rattle.controller.specs.declared.job.Job.{Job}
use Rattle.controller.specs.Choices.{no_job, pending_at, release_of, is_more_urgent, chosen}
use Rattle.controller.proofs.Choosing.{Best, Lower, lower_from, not_lower, best_chosen}

-- rules that are both by rank, or both not, choose alike
pub chosen_alike : (tasks : List AdoptedTask) (jobs : List Job) (a b : Rule) → goes_by_rank a ≡ goes_by_rank b → chosen a tasks jobs ≡ chosen b tasks jobs
chosen_alike tasks jobs a b e =
    ap (λ (ranked : Bool).
    let urgency : ℕ → ℕ × ℕ = λ place.
    cond ranked ((get_or tasks place no_adopted_task).rank, 0) (release_of (get_or jobs place no_job) + (get_or tasks place no_adopted_task).deadline, release_of (get_or jobs place no_job)) in
    first_below (length tasks) (λ place.
    pending_at jobs place
    && not (some_below (length tasks) (λ other. is_more_urgent (urgency other) (urgency place) && pending_at jobs other)))) e

module _ (tasks : List AdoptedTask) (order : List ℕ) (pending : ℕ → Bool) where
  abbrev rank_at : ℕ → ℕ
  rank_at place = (get_or tasks place no_adopted_task).rank

  abbrev entry : ℕ → ℕ
  entry rank = get_or order rank 0

  -- no job among the first entries is pending
  abbrev pub NoneBefore : ℕ → Type 0
  NoneBefore rank = (r : ℕ) → r < rank → pending (entry r) ≡ false

  pub none_more : (rank : ℕ) → NoneBefore rank → pending (entry rank) ≡ false → NoneBefore (rank + 1)
  none_more rank none h r l = elim (cases_eq r rank) [ inl e ↦ subst (λ (x : ℕ). pending (entry x) ≡ false) (sym e) h | inr d ↦ none r (omega arith) ]

  module _ (O : Ordered tasks order) where
    -- a pending job is not among the first entries
    later : (rank k : ℕ) → NoneBefore rank → k < length tasks → pending k ≡ true → rank ≤ rank_at k
    later rank k none l q =
        elim (cases_lt (rank_at k) rank) [
          | inl h ↦ absurd (both_ways (pending k) (subst (λ (x : ℕ). pending x ≡ false) (O.places k l) (none (rank_at k) h)) q)
          | inr h ↦ h
        ]

    pub best_ranked : (rank : ℕ) → rank < length tasks → NoneBefore rank → pending (entry rank) ≡ true → Best pending (λ place. (rank_at place, 0)) (length tasks) (Some (entry rank))
    best_ranked rank l none q = (
      O.entries rank l,
      q,
      (λ k h p. not_lower (rank_at k, 0) (rank_at (entry rank), 0) (above k (later rank k none h p))),
      (λ j h p.
          let inside = O.entries rank l in
          let far = later rank j none (omega arith) p in
          lower_from (rank_at (entry rank), 0) (rank_at j, 0) (inl (beyond j h (omega arith) far))),
    )
      where
        above : (k : ℕ) → rank ≤ rank_at k → Lower (rank_at k, 0) (rank_at (entry rank), 0) → ⊥
        above k h (inl x) = omega (arith, O.ranked rank l)
        above k h (inr x) = omega (arith, x.1)

        beyond : (j : ℕ) → j < entry rank → j < length tasks → rank ≤ rank_at j → rank_at (entry rank) < rank_at j
        beyond j h b far =
            elim (cases_eq (rank_at j) rank) [
              | inl e ↦
                  let f : entry rank ≡ j = ap entry (sym e) ∙ O.places j b in
                  absurd (omega (arith, f))
              | inr d ↦ omega (arith, O.ranked rank l)
            ]

    pub best_none : (rank : ℕ) → NoneBefore rank → length tasks ≤ rank → Best pending (λ place. (rank_at place, 0)) (length tasks) None
    best_none rank none far k l =
        elim (cases_Bool (pending k)) [
          | inl q ↦ absurd (omega (arith, later rank k none l q, O.below k l))
          | inr q ↦ q
        ]

-- the first pending job that an order of places comes to
abbrev pub FirstPending : List Job → List ℕ → Option ℕ → Type 0
FirstPending jobs order found =
    MatchOption found
    ((j : ℕ) → j < length order → pending_at jobs (get_or order j 0) ≡ false)
    (λ x. (i : ℕ) × (i < length order) × (get_or order i 0 ≡ x) × (pending_at jobs x ≡ true) × ((j : ℕ) → j < i → pending_at jobs (get_or order j 0) ≡ false))

-- by rank, the first pending job that the order of the places comes to is the one that is chosen
pub first_ranked : (rule : Rule) (tasks : List AdoptedTask) (order : List ℕ) (jobs : List Job) → goes_by_rank rule ≡ true → Ordered tasks order → length order ≡ length tasks → (r : Option ℕ) → FirstPending jobs order r → r ≡ chosen rule tasks jobs
first_ranked rule tasks order jobs ranked O e r h =
    best_chosen (pending_at jobs) by_rank (length tasks) r (best r h) ∙ chosen_alike tasks jobs RateMonotonic rule (sym ranked)
  where
    by_rank : ℕ → ℕ × ℕ
    by_rank place = ((get_or tasks place no_adopted_task).rank, 0)

    best : (r : Option ℕ) → FirstPending jobs order r → Best (pending_at jobs) by_rank (length tasks) r
    best None h = best_none tasks order (pending_at jobs) O (length order) h (omega arith)
    best (Some x) h =
        subst (λ (z : ℕ). Best (pending_at jobs) by_rank (length tasks) (Some z)) h.2
        (best_ranked tasks order (pending_at jobs) O h.0 (omega (arith, h.1)) h.4 (subst (λ (z : ℕ). pending_at jobs z ≡ true) (sym h.2) h.3))
