-- Laws of the search for the first number that passes a test.
use Rattle.std.proofs.Common.{◌≡◌, ℕ, zero, suc, ◌+◌, ◌<◌, ◌≤◌, Bool, true, false, is_some, Some, None, Option, sym, refl, ap, subst, inl, inr, arith}
use Rattle.std.proofs.lemmas.Bool.{cases_eq, cases_Bool, both_ways}
use Rattle.admission.specs.Search.{first_from, some_below}

pub none≢some : {X : Type 0} (x : X) → None ≡ Some x → ⊥
none≢some x e = let z : ◌≡◌ {A = ℕ} 0 1 = cc in omega arith

-- what was found: the number, its test, and that none before it passes
pub record Found (test : ℕ → Bool) (start count k : ℕ) : Type 0 where
  pub from : start ≤ k
  pub below : k < start + count
  pub passes : test k ≡ true
  pub first : (j : ℕ) → start ≤ j → j < k → test j ≡ false

module _ (test : ℕ → Bool) where
  pub first_none : (start count : ℕ) → ((k : ℕ) → start ≤ k → k < start + count → test k ≡ false) → first_from test start count ≡ None
  first_none start zero h = refl
  first_none start (suc n) h =
      rw (h start (omega arith) (omega arith)) (first_none (start + 1) n (λ k a b. h k (omega arith) (omega arith)))

  pub first_some : (start count k : ℕ) → Found test start count k → first_from test start count ≡ Some k
  first_some start zero k f = absurd (omega arith)
  first_some start (suc n) k f =
      elim (cases_eq k start) [
        | inl e ↦ rw (subst (λ (x : ℕ). test x ≡ true) e f.passes) (ap (λ (x : ℕ). Some x) (sym e))
        | inr d ↦
            rw (f.first start (omega arith) (omega arith))
            (first_some (start + 1) n k (record { from = omega arith; below = omega arith; passes = f.passes; first = λ j a b. f.first j (omega arith) b }))
      ]

  pub first_found : (start count k : ℕ) → first_from test start count ≡ Some k → Found test start count k
  first_found start zero k h = absurd (none≢some k h)
  first_found start (suc n) k h =
      elim (cases_Bool (test start)) [
        | inl e ↦
            let s : start ≡ k = here e in
            record {
              from = omega arith;
              below = omega arith;
              passes = subst (λ (x : ℕ). test x ≡ true) s e;
              first = λ j a b. absurd (omega arith);
            }
        | inr e ↦
            let f = first_found (start + 1) n k (rw e at h) in
            record {
              from = omega (arith, f.from);
              below = omega (arith, f.below);
              passes = f.passes;
              first = λ j a b. elim (cases_eq j start) [ inl i ↦ subst (λ (x : ℕ). test x ≡ false) (sym i) e | inr d ↦ f.first j (omega arith) b ];
            }
      ]
    where
      here : test start ≡ true → start ≡ k
      here e = let g : Some start ≡ Some k = rw e at h in cc

  pub first_missing : (start count : ℕ) → first_from test start count ≡ None → (k : ℕ) → start ≤ k → k < start + count → test k ≡ false
  first_missing start zero h k a b = absurd (omega arith)
  first_missing start (suc n) h k a b =
      elim (cases_Bool (test start)) [
        | inl e ↦ absurd (none≢some start (sym (rw e at h)))
        | inr e ↦
            elim (cases_eq k start) [
              | inl i ↦ subst (λ (x : ℕ). test x ≡ false) (sym i) e
              | inr d ↦ first_missing (start + 1) n (rw e at h) k (omega arith) (omega arith)
            ]
      ]

pub none_from : {X : Type 0} (o : Option X) → is_some o ≡ false → o ≡ None
none_from None h = refl
none_from (Some x) h = absurd (both_ways true h refl)

-- whether some number passes
pub some_true : (test : ℕ → Bool) (n k : ℕ) → k < n → test k ≡ true → some_below n test ≡ true
some_true test n k l e =
    elim (cases_Bool (some_below n test)) [
      | inl h ↦ h
      | inr h ↦ absurd (both_ways (test k) (first_missing test 0 n (none_from _ h) k (omega arith) (omega arith)) e)
    ]

pub some_false : (test : ℕ → Bool) (n : ℕ) → ((k : ℕ) → k < n → test k ≡ false) → some_below n test ≡ false
some_false test n h = ap (λ (o : Option ℕ). is_some o) (first_none test 0 n (λ k _ b. h k (omega arith)))

pub some_none : (test : ℕ → Bool) (n : ℕ) → some_below n test ≡ false → (k : ℕ) → k < n → test k ≡ false
some_none test n h k l = first_missing test 0 n (none_from _ h) k (omega arith) (omega arith)
