-- Quotients from remainders.
use Rattle.std.proofs.Common.{◌≡◌, ℕ, zero, suc, ◌+◌, ◌-◌, ◌*◌, ◌/◌, ◌%◌, ◌<◌, ◌≤◌, sym, refl, ap, ◌∙◌, mod-lt, arith}
use Rattle.std.proofs.lemmas.Nat.{div-mul-add, div-add-mod'}

pub quotient : (x p q r : ℕ) → x ≡ q * p + r → r < p → x / p ≡ q
quotient x p q r e l = ap (λ (y : ℕ). y / p) e ∙ div-mul-add q p r l

-- one less than a multiple
pub less_at_multiple : (x p : ℕ) → 1 ≤ x → 1 ≤ p → x % p ≡ 0 → (x - 1) / p ≡ x / p - 1
less_at_multiple x p some o e = below (x / p) refl
  where
    below : (q : ℕ) → x / p ≡ q → (x - 1) / p ≡ x / p - 1
    below zero h = absurd (omega (arith, whole zero h))
      where
        whole : (q : ℕ) → x / p ≡ q → x ≡ q * p
        whole q h = sym (div-add-mod' x p) ∙ ap (λ (r : ℕ). x / p * p + r) e ∙ ap (λ (k : ℕ). k * p + 0) h ∙ omega arith
    below (suc k) h =
        let w : x ≡ suc k * p = sym (div-add-mod' x p) ∙ ap (λ (r : ℕ). x / p * p + r) e ∙ ap (λ (j : ℕ). j * p + 0) h ∙ omega arith in
        quotient (x - 1) p k (p - 1) (omega (arith, w)) (omega arith) ∙ omega (arith, h)

-- one less than any other number
pub less_elsewhere : (x p : ℕ) → 1 ≤ p → 1 ≤ x % p → (x - 1) / p ≡ x / p
less_elsewhere x p o h =
    let l : x % p < p = mod-lt x o in
    quotient (x - 1) p (x / p) (x % p - 1) (omega (arith, div-add-mod' x p)) (omega arith)
