-- Laws of sums, counts and greatest values over ranges, as loops and tests use them.
use Rattle.std.proofs.Common.{◌≡◌, ℕ, zero, suc, ◌+◌, ◌<◌, ◌≤◌, Bool, true, false, cond, sym, refl, ap, ◌∙◌, subst, inl, inr, add-one, arith}
use Rattle.std.proofs.lemmas.Bool.{cond-true, cond-false, cases_eq}
use Rattle.admission.specs.Search.{sum_below, count_below}

-- one more term, as a loop adds it
pub sum_more : (f : ℕ → ℕ) (n s x : ℕ) → s ≡ sum_below n f → x ≡ f n → s + x ≡ sum_below (n + 1) f
sum_more f n s x h e = rw add-one (ap (λ (y : ℕ). y + x) h ∙ ap (λ (y : ℕ). sum_below n f + y) e)

-- the end of such a loop
pub sum_all : (f : ℕ → ℕ) (n m s : ℕ) → s ≡ sum_below n f → n ≡ m → s ≡ sum_below m f
sum_all f n m s h e = h ∙ ap (λ (k : ℕ). sum_below k f) e

pub count_yes : (test : ℕ → Bool) (n s : ℕ) → s ≡ count_below n test → test n ≡ true → s + 1 ≡ count_below (n + 1) test
count_yes test n s h e = sum_more (λ k. cond (test k) 1 0) n s 1 h (sym (cond-true (test n) 1 0 e))

pub count_no : (test : ℕ → Bool) (n s : ℕ) → s ≡ count_below n test → test n ≡ false → s ≡ count_below (n + 1) test
count_no test n s h e =
    let z : s ≡ s + 0 = omega arith in
    z ∙ sum_more (λ k. cond (test k) 1 0) n s 0 h (sym (cond-false (test n) 1 0 e))

-- sums of terms that agree, or that are at most those of the other
pub sum_same : (n : ℕ) (f g : ℕ → ℕ) → ((k : ℕ) → k < n → f k ≡ g k) → sum_below n f ≡ sum_below n g
sum_same zero f g h = refl
sum_same (suc n) f g h = ap (λ (x : ℕ). x + f n) (sum_same n f g (λ k l. h k (omega arith))) ∙ ap (λ (x : ℕ). sum_below n g + x) (h n (omega arith))

pub sum_le : (n : ℕ) (f g : ℕ → ℕ) → ((k : ℕ) → k < n → f k ≤ g k) → sum_below n f ≤ sum_below n g
sum_le zero f g h = omega arith
sum_le (suc n) f g h = omega (arith, sum_le n f g (λ k l. h k (omega arith)), h n (omega arith))

pub sum_add : (n : ℕ) (f g : ℕ → ℕ) → sum_below n (λ k. f k + g k) ≡ sum_below n f + sum_below n g
sum_add zero f g = refl
sum_add (suc n) f g = omega (arith, sum_add n f g)

pub sum_zero : (n : ℕ) (f : ℕ → ℕ) → ((k : ℕ) → k < n → f k ≡ 0) → sum_below n f ≡ 0
sum_zero zero f h = refl
sum_zero (suc n) f h = omega (arith, sum_zero n f (λ k l. h k (omega arith)), h n (omega arith))

-- one term is at most the sum, and one strictly smaller term makes the sum strictly smaller
pub sum_lt : (n : ℕ) (f g : ℕ → ℕ) → ((k : ℕ) → k < n → f k ≤ g k) → (j : ℕ) → j < n → f j < g j → sum_below n f < sum_below n g
sum_lt zero f g h j l s = absurd (omega arith)
sum_lt (suc n) f g h j l s =
    elim (cases_eq j n) [
      | inl e ↦ omega (arith, sum_le n f g (λ k i. h k (omega arith)), subst (λ (x : ℕ). f x < g x) e s)
      | inr d ↦ omega (arith, sum_lt n f g (λ k i. h k (omega arith)) j (omega arith) s, h n (omega arith))
    ]
