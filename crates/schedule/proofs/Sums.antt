-- Sums over places.
use Rattle.std.proofs.Common.{◌≡◌, ℕ, zero, suc, ◌+◌, ◌<◌, ◌≤◌, cond, eqb, sym, refl, ap, subst, inl, inr, arith}
use Rattle.std.proofs.lemmas.Bool.{eq-eqb, ne_eqb, cases_eq, cases_lt}
use Rattle.admission.specs.Search.{sum_below}

-- v at the place k, 0 at the others: what a step changes at one place
abbrev pub at : ℕ → ℕ → ℕ → ℕ
at k v a = cond (eqb a k) v 0

-- at the place itself
pub at_same : (k v : ℕ) → at k v k ≡ v
at_same k v = ap (λ b. cond b v 0) (eq-eqb k k refl)

-- at any other place
pub at_other : (k v a : ℕ) → (a ≡ k → ⊥) → at k v a ≡ 0
at_other k v a h = ap (λ b. cond b v 0) (ne_eqb a k h)

-- a fact about one place, from the fact at the place that it equals
pub at_place : (P : ℕ → Type 0) {a b : ℕ} → b ≡ a → P a → P b
at_place P e h = subst P (sym e) h

-- a greater summand everywhere makes a greater sum
pub sum_le : (n : ℕ) (f g : ℕ → ℕ) → ((a : ℕ) → a < n → f a ≤ g a) → sum_below n f ≤ sum_below n g
sum_le zero f g h = omega arith
sum_le (suc n) f g h = omega (arith, sum_le n f g (λ a l. h a (omega arith)), h n (omega arith))

-- a sum of sums; it joins the two sums of a demand
pub sum_add : (n : ℕ) (f g : ℕ → ℕ) → sum_below n (λ a. f a + g a) ≡ sum_below n f + sum_below n g
sum_add zero f g = refl
sum_add (suc n) f g = omega (arith, sum_add n f g)

-- equal summands make equal sums
pub sum_same : (n : ℕ) (f g : ℕ → ℕ) → ((a : ℕ) → a < n → f a ≡ g a) → sum_below n f ≡ sum_below n g
sum_same zero f g h = refl
sum_same (suc n) f g h = omega (arith, sum_same n f g (λ a l. h a (omega arith)), h n (omega arith))

-- where nothing is summed
pub sum_zero : (n : ℕ) (f : ℕ → ℕ) → ((a : ℕ) → a < n → f a ≡ 0) → sum_below n f ≡ 0
sum_zero zero f h = refl
sum_zero (suc n) f h = omega (arith, sum_zero n f (λ a l. h a (omega arith)), h n (omega arith))

-- the sum of what stands at one place
pub sum_at : (n k v : ℕ) → k < n → sum_below n (at k v) ≡ v
sum_at zero k v h = absurd (omega arith)
sum_at (suc n) k v h =
    elim (cases_eq n k) [
      | inl e ↦
          omega (arith, at_place (λ x. at k v x ≡ v) e (at_same k v), sum_zero n (at k v) (λ a l. at_other k v a (λ q. omega arith)))
      | inr d ↦ omega (arith, sum_at n k v (omega arith), at_other k v n d)
    ]

-- and its bound, wherever the place is
pub sum_at_most : (n k v : ℕ) → sum_below n (at k v) ≤ v
sum_at_most n k v =
    elim (cases_lt k n) [
      | inl l ↦ omega (arith, sum_at n k v l)
      | inr l ↦ omega (arith, sum_zero n (at k v) (λ a h. at_other k v a (λ e. omega arith)))
    ]

-- one step of a batch: sums compared place by place, where g may grow at k by x and f at l by y
pub sum_step : (n k x l y : ℕ) (f g : ℕ → ℕ) → k < n → ((a : ℕ) → a < n → f a + at k x a ≤ g a + at l y a)
    → sum_below n f + x ≤ sum_below n g + y
sum_step n k x l y f g h each =
    omega (
      arith,
      sum_le n (λ a. f a + at k x a) (λ a. g a + at l y a) each,
      sum_add n f (at k x),
      sum_add n g (at l y),
      sum_at n k x h,
      sum_at_most n l y,
    )

-- a sum has room for each of its parts
pub sum_part : (n : ℕ) (f : ℕ → ℕ) (a : ℕ) → a < n → f a ≤ sum_below n f
sum_part zero f a h = absurd (omega arith)
sum_part (suc n) f a h =
    elim (cases_eq a n) [
      | inl e ↦ at_place (λ x. f x ≤ sum_below n f + f n) e (omega arith)
      | inr d ↦ omega (arith, sum_part n f a (omega arith))
    ]
