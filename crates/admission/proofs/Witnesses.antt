-- The test by rank: what a search for a witness shows.
use Rattle.std.proofs.Common.{◌≡◌, ℕ, ◌+◌, ◌<◌, ◌≤◌, Bool, true, false, not, ◌&&◌, ltb, leb, List, length, get_or, is_some, Some, None, Option, sym, ap, ◌∙◌, inl, inr, arith}
use Rattle.std.proofs.lemmas.Bool.{cases_lt, cases_order, le-leb, lt-leb, lt-ltb, le-ltb, and_from, and_left, and_right, not_from_true, not_from_false}
use Rattle.admission.specs.declared.plan.AdoptedTask.{AdoptedTask}
use Rattle.admission.specs.declared.plan.Rule.TheVariants.{RateMonotonic}
use Rattle.admission.specs.Search.{some_below}
use Rattle.admission.specs.Tables.{no_adopted_task}
use Rattle.admission.specs.Limits.{AdoptedLimits}
use Rattle.admission.specs.Demand.{work_within, charge_within, demand_up_to_rank, demand_by_rank}
use Rattle.admission.specs.Tests.{Ranked, least_witness, unmet, lowest_unmet}
use Rattle.admission.proofs.Firsts.{first_none, first_some, some_true, some_false}
use Rattle.admission.proofs.Monotone.{demand_later}

module _ (attempt : ℕ) (tasks : List AdoptedTask) where
  abbrev rank_at : ℕ → ℕ
  rank_at place = (get_or tasks place no_adopted_task).rank

  abbrev enough : ℕ → ℕ → Bool
  enough place t = leb (demand_by_rank attempt tasks place t) t

  -- the two sums of a rank make up the demand at the place that has it
  pub needed_is : (rank place t work charge : ℕ) → rank_at place ≡ rank → work ≡ work_within RateMonotonic tasks rank t → charge ≡ charge_within RateMonotonic attempt tasks rank t → work + charge ≡ demand_by_rank attempt tasks place t
  needed_is rank place t work charge r w c =
      let e : work + charge ≡ demand_up_to_rank attempt tasks rank t = omega arith in
      e ∙ ap (λ (k : ℕ). demand_up_to_rank attempt tasks k t) (sym r)

  -- no time before t is enough
  abbrev pub Short : ℕ → ℕ → Type 0
  Short place t = (u : ℕ) → 1 ≤ u → u < t → u < demand_by_rank attempt tasks place u

  pub witness_is : (place t : ℕ) → 1 ≤ t → t ≤ (get_or tasks place no_adopted_task).deadline → demand_by_rank attempt tasks place t ≤ t → Short place t → least_witness attempt tasks place ≡ Some t
  witness_is place t a b e s =
      first_some (enough place) 1 _ t
      (record { from = a; below = omega arith; passes = le-leb _ t e; first = λ j f l. lt-leb _ j (s j f l) })

  -- the time that is needed is the next that can be enough
  pub short_more : (place t : ℕ) → AdoptedLimits tasks → Short place t → Short place (demand_by_rank attempt tasks place t)
  short_more place t limits s u a b =
      elim (cases_lt u t) [
        | inl l ↦ s u a l
        | inr l ↦ omega (arith, demand_later attempt tasks (rank_at place) t u limits l)
      ]

  -- beyond the deadline none is left
  pub witness_none : (place t : ℕ) → AdoptedLimits tasks → Short place t → (get_or tasks place no_adopted_task).deadline < demand_by_rank attempt tasks place t → least_witness attempt tasks place ≡ None
  witness_none place t limits s h =
      first_none (enough place) 1 _ (λ k a b. lt-leb _ k (short_more place t limits s k a (omega arith)))

  -- a task with a witness is not unmet, one without is
  pub met : (place t : ℕ) → least_witness attempt tasks place ≡ Some t → unmet attempt tasks place ≡ false
  met place t e = ap (λ (o : Option ℕ). not (is_some o)) e

  pub not_met : (place : ℕ) → least_witness attempt tasks place ≡ None → unmet attempt tasks place ≡ true
  not_met place e = ap (λ (o : Option ℕ). not (is_some o)) e

  abbrev pub lower : ℕ → ℕ → Bool
  lower place other = ltb (rank_at other) (rank_at place) && unmet attempt tasks other

  abbrev pub lowest : ℕ → Bool
  lowest place = unmet attempt tasks place && not (some_below (length tasks) (lower place))

  pub all_met : ((place : ℕ) → place < length tasks → unmet attempt tasks place ≡ false) → lowest_unmet attempt tasks ≡ None
  all_met h = first_none lowest 0 (length tasks) (λ k _ b. and_left _ _ (h k (omega arith)))

  -- the task at a place is the first by rank without a witness
  pub unmet_is : (place : ℕ) → Ranked tasks → place < length tasks → unmet attempt tasks place ≡ true
      → ((other : ℕ) → other < length tasks → rank_at other < rank_at place → unmet attempt tasks other ≡ false)
      → lowest_unmet attempt tasks ≡ Some place
  unmet_is place ranked l u h =
      first_some lowest 0 (length tasks) place
      (record {
        from = omega arith;
        below = omega arith;
        passes = and_from _ _ u (not_from_false _ none_lower);
        first = λ j _ b. earlier j b;
      })
    where
      none_lower : some_below (length tasks) (lower place) ≡ false
      none_lower =
          some_false (lower place) (length tasks) (λ k b.
          elim (cases_lt (rank_at k) (rank_at place)) [
            | inl r ↦ and_right _ _ (h k b r)
            | inr r ↦ and_left _ _ (le-ltb (rank_at k) (rank_at place) r)
          ])

      -- an earlier place has a higher rank, or is met
      earlier : (j : ℕ) → j < place → lowest j ≡ false
      earlier j b =
          elim (cases_order (rank_at j) (rank_at place)) [
            | inl e ↦ absurd (omega (arith, ranked.apart j place (omega arith) l e))
            | inr (inl r) ↦ and_left _ _ (h j (omega arith) r)
            | inr (inr r) ↦ and_right _ _ (not_from_true _ (some_true (lower j) (length tasks) place l (and_from _ _ (lt-ltb (rank_at place) (rank_at j) r) u)))
          ]
