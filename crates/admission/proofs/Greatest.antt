-- The greatest value of a function over a list or a range, as `max` finds it.
use Rattle.std.proofs.Common.{◌≡◌, ℕ, zero, suc, ◌<◌, ◌≤◌, max, List, [], ◌∷◌, length, get_or, Some, None, Option, sym, subst, inl, inr, arith}
use Rattle.std.proofs.lemmas.Bool.{cases_eq}
use Rattle.std.specs.Prelude.{IfNone, IfSome}
use Rattle.std.specs.Option.{unwrap_or}
use Rattle.admission.specs.Search.{max_below}

module _ {X : Type 0} (F : List X → ℕ) (f : X → ℕ) (d : X) (none : F [] ≡ 0) (more : (x : X) (xs : List X) → F (x ∷ xs) ≡ max (f x) (F xs)) where
  at_most : (xs : List X) (m : ℕ) → ((k : ℕ) → k < length xs → f (get_or xs k d) ≤ m) → F xs ≤ m
  at_most [] m h = omega (arith, none)
  at_most (x ∷ xs) m h = omega (arith, more x xs, h 0 (omega arith), at_most xs m (λ k l. h (suc k) (omega arith)))

  at_least : (xs : List X) (k : ℕ) → k < length xs → f (get_or xs k d) ≤ F xs
  at_least [] k l = absurd (omega arith)
  at_least (x ∷ xs) zero l = omega (arith, more x xs)
  at_least (x ∷ xs) (suc k) l = omega (arith, more x xs, at_least xs k (omega arith))

  pub greatest_is : (xs : List X) (o : Option ℕ)
      → IfNone o (length xs ≡ 0)
      → IfSome o (λ m. (k : ℕ) → k < length xs → f (get_or xs k d) ≤ m)
      → IfSome o (λ m. (k : ℕ) × (k < length xs) × (f (get_or xs k d) ≡ m))
      → unwrap_or o 0 ≡ F xs
  greatest_is xs None e a b = omega (arith, at_most xs 0 (λ k l. absurd (omega arith)))
  greatest_is xs (Some m) e a (k, l, h) = omega (arith, h, at_most xs m a, at_least xs k l)

module _ (f : ℕ → ℕ) where
  below_at_most : (n m : ℕ) → ((k : ℕ) → k < n → f k ≤ m) → max_below n f ≤ m
  below_at_most zero m h = omega arith
  below_at_most (suc n) m h = omega (arith, h n (omega arith), below_at_most n m (λ k l. h k (omega arith)))

  below_at_least : (n k : ℕ) → k < n → f k ≤ max_below n f
  below_at_least zero k l = absurd (omega arith)
  below_at_least (suc n) k l =
      elim (cases_eq k n) [
        | inl e ↦ subst (λ (j : ℕ). f j ≤ max_below (suc n) f) (sym e) (omega arith)
        | inr d ↦ omega (arith, below_at_least n k (omega arith))
      ]

  pub greatest_below : (n : ℕ) (o : Option ℕ)
      → IfNone o (n ≡ 0)
      → IfSome o (λ m. (k : ℕ) → k < n → f k ≤ m)
      → IfSome o (λ m. (k : ℕ) × (k < n) × (f k ≡ m))
      → unwrap_or o 0 ≡ max_below n f
  greatest_below n None e a b = omega (arith, below_at_most n 0 (λ k l. absurd (omega arith)))
  greatest_below n (Some m) e a (k, l, h) = omega (arith, h, below_at_most n m a, below_at_least n k l)
