-- The most urgent pending job, found by going through the places once.
use Rattle.std.proofs.Common.{◌≡◌, ℕ, zero, suc, ◌+◌, ◌<◌, ◌≤◌, Bool, true, false, not, ◌&&◌, eqb, ltb, ◌⊎◌, IfSome, Some, None, Option, sym, ◌∙◌, subst, inl, inr, add-one, arith}
use Rattle.std.proofs.lemmas.Bool.{cases_Bool, cases_eq, both_ways, or_cases, or_parts, or_left, or_right, and_parts, and_from, and_cases, and_left, and_right, lt-ltb, ltb-true, ltb-false, eq-eqb, eqb-true, eqb-false, not_from_true, not_from_false}
use Rattle.std.specs.Option.{MatchOption, option_map}
use Rattle.admission.specs.Search.{first_below, some_below}
use Rattle.admission.proofs.Firsts.{first_none, first_some, some_true, some_false}
use Rattle.controller.specs.Choices.{is_more_urgent}

-- one urgency is lower than another, or it is not
abbrev pub Lower : ℕ × ℕ → ℕ × ℕ → Type 0
Lower p q = (p.0 < q.0) ⊎ ((p.0 ≡ q.0) × (p.1 < q.1))

abbrev pub Upper : ℕ × ℕ → ℕ × ℕ → Type 0
Upper p q = (q.0 < p.0) ⊎ ((q.0 ≡ p.0) × (q.1 ≤ p.1))

pub lower_yes : (p q : ℕ × ℕ) → is_more_urgent p q ≡ true → Lower p q
lower_yes p q h =
    elim (or_cases (ltb p.0 q.0) (eqb p.0 q.0 && ltb p.1 q.1) h) [
      | inl e ↦ inl (ltb-true p.0 q.0 e)
      | inr e ↦ let x = and_parts (eqb p.0 q.0) (ltb p.1 q.1) e in inr (eqb-true p.0 q.0 x.0, ltb-true p.1 q.1 x.1)
    ]

pub lower_from : (p q : ℕ × ℕ) → Lower p q → is_more_urgent p q ≡ true
lower_from p q (inl l) = or_left (ltb p.0 q.0) (eqb p.0 q.0 && ltb p.1 q.1) (lt-ltb p.0 q.0 l)
lower_from p q (inr x) = or_right (ltb p.0 q.0) (eqb p.0 q.0 && ltb p.1 q.1) (and_from (eqb p.0 q.0) (ltb p.1 q.1) (eq-eqb p.0 q.0 x.0) (lt-ltb p.1 q.1 x.1))

pub lower_no : (p q : ℕ × ℕ) → is_more_urgent p q ≡ false → Upper p q
lower_no p q h =
    let x = or_parts (ltb p.0 q.0) (eqb p.0 q.0 && ltb p.1 q.1) h in
    let l : q.0 ≤ p.0 = ltb-false p.0 q.0 x.0 in
    elim (and_cases (eqb p.0 q.0) (ltb p.1 q.1) x.1) [
      | inl e ↦ inl (above p.0 q.0 l (eqb-false p.0 q.0 e))
      | inr e ↦
          elim (cases_eq q.0 p.0) [
            | inl i ↦ inr (i, ltb-false p.1 q.1 e)
            | inr d ↦ inl (omega arith)
          ]
    ]
  where
    above : (a b : ℕ) → b ≤ a → (a ≡ b → ⊥) → b < a
    above a b h d = elim (cases_eq a b) [ inl e ↦ absurd (d e) | inr n ↦ omega arith ]

pub not_lower : (p q : ℕ × ℕ) → (Lower p q → ⊥) → is_more_urgent p q ≡ false
not_lower p q h = elim (cases_Bool (is_more_urgent p q)) [ inl e ↦ absurd (h (lower_yes p q e)) | inr e ↦ e ]

never_self : (p : ℕ × ℕ) → Lower p p → ⊥
never_self p (inl l) = omega arith
never_self p (inr x) = omega (arith, x.1)

lower_trans : (p q r : ℕ × ℕ) → Lower p q → Lower q r → Lower p r
lower_trans p q r (inl a) (inl b) = inl (omega arith)
lower_trans p q r (inl a) (inr b) = inl (omega (arith, b.0))
lower_trans p q r (inr a) (inl b) = inl (omega (arith, a.0))
lower_trans p q r (inr a) (inr b) = inr (a.0 ∙ b.0, omega (arith, a.1, b.1))

-- below one that is not below another is below that other
lower_upper : (p q r : ℕ × ℕ) → Lower p q → Upper r q → Lower p r
lower_upper p q r (inl a) (inl b) = inl (omega arith)
lower_upper p q r (inl a) (inr b) = inl (omega (arith, b.0))
lower_upper p q r (inr a) (inl b) = inl (omega (arith, a.0))
lower_upper p q r (inr a) (inr b) = inr (a.0 ∙ b.0, omega (arith, a.1, b.1))

module _ (pending : ℕ → Bool) (urgency : ℕ → ℕ × ℕ) where
  abbrev before : ℕ → ℕ → Bool
  before a b = is_more_urgent (urgency a) (urgency b)

  -- the best of the places below n
  abbrev pub Best : ℕ → Option ℕ → Type 0
  Best n None = (k : ℕ) → k < n → pending k ≡ false
  Best n (Some b) =
      (b < n)
      × (pending b ≡ true)
      × ((k : ℕ) → k < n → pending k ≡ true → before k b ≡ false)
      × ((j : ℕ) → j < b → pending j ≡ true → before b j ≡ true)

  pub best_inside : (n : ℕ) (o : Option ℕ) → Best n o → IfSome o (λ b. b < n)
  best_inside n None h = tt
  best_inside n (Some b) h = h.0

  pub best_skip : (n : ℕ) (o : Option ℕ) → Best n o → pending n ≡ false → Best (n + 1) o
  best_skip n None h p = λ k l. elim (cases_eq k n) [ inl e ↦ subst (λ (x : ℕ). pending x ≡ false) (sym e) p | inr d ↦ h k (omega arith) ]
  best_skip n (Some b) h p = (
    omega (arith, h.0),
    h.1,
    (λ k l q. elim (cases_eq k n) [ inl e ↦ absurd (both_ways (pending k) (subst (λ (x : ℕ). pending x ≡ false) (sym e) p) q) | inr d ↦ h.2 k (omega arith) q ]),
    h.3,
  )

  replaced : (n b : ℕ) → Best n (Some b) → pending n ≡ true → before n b ≡ true → Best (n + 1) (Some n)
  replaced n b h p e =
      let low = lower_yes (urgency n) (urgency b) e in (
        omega arith,
        p,
        (λ k l q.
            elim (cases_eq k n) [
              | inl i ↦ subst (λ (x : ℕ). before x n ≡ false) (sym i) (not_lower (urgency n) (urgency n) (never_self (urgency n)))
              | inr d ↦
                  not_lower (urgency k) (urgency n)
                  (λ x. both_ways (before k b) (h.2 k (omega arith) q) (lower_from (urgency k) (urgency b) (lower_trans (urgency k) (urgency n) (urgency b) x low)))
            ]),
        (λ j l q. lower_from (urgency n) (urgency j) (lower_upper (urgency n) (urgency b) (urgency j) low (lower_no (urgency j) (urgency b) (h.2 j l q)))),
      )

  stays : (n b : ℕ) → Best n (Some b) → before n b ≡ false → Best (n + 1) (Some b)
  stays n b h e = (
    omega (arith, h.0),
    h.1,
    (λ k l q. elim (cases_eq k n) [ inl i ↦ subst (λ (x : ℕ). before x b ≡ false) (sym i) e | inr d ↦ h.2 k (omega arith) q ]),
    h.3,
  )

  best_first : (n : ℕ) → Best n None → pending n ≡ true → Best (n + 1) (Some n)
  best_first n h p = (
    omega arith,
    p,
    (λ k l q.
        elim (cases_eq k n) [
          | inl i ↦ subst (λ (x : ℕ). before x n ≡ false) (sym i) (not_lower (urgency n) (urgency n) (never_self (urgency n)))
          | inr d ↦ absurd (both_ways (pending k) (h k (omega arith)) q)
        ]),
    (λ j l q. absurd (both_ways (pending j) (h j l) q)),
  )

  pub best_more : (n : ℕ) (o : Option ℕ) → Best n o → pending n ≡ true → (p : Option ℕ) × Best (n + 1) p
  best_more n None h p = (Some n, best_first n h p)
  best_more n (Some b) h p =
      elim (cases_Bool (before n b)) [
        | inl e ↦ (Some n, replaced n b h p e)
        | inr e ↦ (Some b, stays n b h e)
      ]

  -- there is a best of the places below any number
  pub best_of : (n : ℕ) → (o : Option ℕ) × Best n o
  best_of zero = (None, λ k l. absurd (omega arith))
  best_of (suc n) =
      let b = best_of n in
      elim (cases_Bool (pending n)) [
        | inl e ↦ rw (sym (add-one n)) (best_more n b.0 b.1 e)
        | inr e ↦ (b.0, rw (sym (add-one n)) (best_skip n b.0 b.1 e))
      ]

  -- the best of the places below n, with its urgency beside it
  pub record Kept (n : ℕ) (o : Option (ℕ × (ℕ × ℕ))) : Type 0 where
    pub best : Best n (option_map (λ (b : ℕ × (ℕ × ℕ)). b.0) o)
    pub keyed : IfSome o (λ b. b.1 ≡ urgency b.0)

  pub kept_more : (n : ℕ) (o : Option (ℕ × (ℕ × ℕ))) (u : ℕ × ℕ) → Kept n o → pending n ≡ true → u ≡ urgency n → IfSome o (λ b. is_more_urgent u b.1 ≡ true) → Kept (n + 1) (Some (n, u))
  kept_more n None u k p e h = record { best = best_first n k.best p; keyed = e }
  kept_more n (Some b) u k p e h = record { best = replaced n b.0 k.best p (subst (λ (x : ℕ × ℕ). is_more_urgent x (urgency b.0) ≡ true) e (subst (λ (x : ℕ × ℕ). is_more_urgent u x ≡ true) k.keyed h)); keyed = e }

  pub kept_stays : (n : ℕ) (o : Option (ℕ × (ℕ × ℕ))) (u : ℕ × ℕ) → Kept n o → u ≡ urgency n → MatchOption o ⊥ (λ b. is_more_urgent u b.1 ≡ false) → Kept (n + 1) o
  kept_stays n None u k e h = absurd h
  kept_stays n (Some b) u k e h = record { best = stays n b.0 k.best (subst (λ (x : ℕ × ℕ). is_more_urgent x (urgency b.0) ≡ false) e (subst (λ (x : ℕ × ℕ). is_more_urgent u x ≡ false) k.keyed h)); keyed = k.keyed }

  abbrev ahead : ℕ → ℕ → Bool
  ahead place other = before other place && pending other

  -- the best of all places is the one that is chosen
  pub best_chosen : (n : ℕ) (o : Option ℕ) → Best n o → o ≡ first_below n (λ place. pending place && not (some_below n (ahead place)))
  best_chosen n None h = sym (first_none (λ place. pending place && not (some_below n (ahead place))) 0 n (λ k _ l. and_left _ _ (h k (omega arith))))
  best_chosen n (Some b) h =
      sym (first_some (λ place. pending place && not (some_below n (ahead place))) 0 n b
      (record {
        from = omega arith;
        below = omega (arith, h.0);
        passes = and_from _ _ h.1 (not_from_false _ (some_false (ahead b) n (λ k l. none_ahead k l)));
        first = λ j _ l. earlier j l;
      }))
    where
      none_ahead : (k : ℕ) → k < n → ahead b k ≡ false
      none_ahead k l =
          elim (cases_Bool (pending k)) [
            | inl q ↦ and_left _ _ (h.2 k l q)
            | inr q ↦ and_right _ _ q
          ]

      earlier : (j : ℕ) → j < b → (pending j && not (some_below n (ahead j))) ≡ false
      earlier j l =
          elim (cases_Bool (pending j)) [
            | inl q ↦ and_right _ _ (not_from_true _ (some_true (ahead j) n b h.0 (and_from _ _ (h.3 j l q) h.1)))
            | inr q ↦ and_left _ _ q
          ]
