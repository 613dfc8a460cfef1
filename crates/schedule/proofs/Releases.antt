-- How many releases of a task, at least a period apart, lie in a window.
use Rattle.std.proofs.Common.{◌≡◌, ℕ, suc, ◌+◌, ◌-◌, ◌*◌, ◌<◌, ◌≤◌, Bool, true, false, cond, List, [], ◌∷◌, length, refl, ap, inl, inr, arith}
use Rattle.std.proofs.lemmas.Bool.{cases_Bool, cond_both}
use Rattle.schedule.specs.Batches.{newest, MayRelease}

-- how many releases pass a test
abbrev pub count : (ℕ → Bool) → List ℕ → ℕ
count test [] = 0
count test (r ∷ rs) = cond (test r) 1 0 + count test rs

-- each release lies at least p after the one before it, and the next may come at b
abbrev pub Spaced : ℕ → ℕ → List ℕ → Type 0
Spaced p b [] = Unit {0}
Spaced p b (r ∷ rs) = (r + p ≤ b) × Spaced p r rs

-- a release that passes is counted
pub count_yes : (test : ℕ → Bool) (r : ℕ) (rs : List ℕ) → test r ≡ true → count test (r ∷ rs) ≡ 1 + count test rs
count_yes test r rs e = ap (λ b. cond b 1 0 + count test rs) e

-- a release that does not pass is not counted
pub count_no : (test : ℕ → Bool) (r : ℕ) (rs : List ℕ) → test r ≡ false → count test (r ∷ rs) ≡ 0 + count test rs
count_no test r rs e = ap (λ b. cond b 1 0 + count test rs) e

-- nothing passes
pub count_none : (test : ℕ → Bool) → ((r : ℕ) → test r ≡ false) → (rs : List ℕ) → count test rs ≡ 0
count_none test h [] = refl
count_none test h (r ∷ rs) = omega (arith, count_no test r rs (h r), count_none test h rs)

-- there are no more than all
pub count_length : (test : ℕ → Bool) (rs : List ℕ) → count test rs ≤ length rs
count_length test [] = omega arith
count_length test (r ∷ rs) =
    cond_both (test r) 1 0 (λ y. y + count test rs ≤ suc (length rs)) (λ _. omega (arith, count_length test rs))
    (λ _. omega (arith, count_length test rs))

-- a test that lets more through counts more
pub count_more : (test wider : ℕ → Bool) → ((r : ℕ) → test r ≡ true → wider r ≡ true) → (rs : List ℕ)
    → count test rs ≤ count wider rs
count_more test wider h [] = omega arith
count_more test wider h (r ∷ rs) =
    elim (cases_Bool (test r)) [
      | inl e ↦ rw (e, h r e) (omega (arith, count_more test wider h rs))
      | inr e ↦ rw e (omega (arith, count_more test wider h rs))
    ]

-- and one more at least if it lets the newest through: this is how a preemption is paid for
pub count_gains : (test wider : ℕ → Bool) → ((r : ℕ) → test r ≡ true → wider r ≡ true) → (rs : List ℕ)
    → 0 < newest rs → test (newest rs) ≡ false → wider (newest rs) ≡ true → count test rs + 1 ≤ count wider rs
count_gains test wider h [] l e f = absurd (omega arith)
count_gains test wider h (r ∷ rs) l e f = rw (e, f) (omega (arith, count_more test wider h rs))

-- releases at q or later take up the time from q to b, a period each
pub count_since : (p q : ℕ) (test : ℕ → Bool) → ((r : ℕ) → test r ≡ true → q ≤ r) → (b : ℕ) (rs : List ℕ) → Spaced p b rs
    → count test rs * p ≤ b - q
count_since p q test low b [] sp = omega arith
count_since p q test low b (r ∷ rs) sp =
    elim (cases_Bool (test r)) [
      | inl e ↦ rw (count_yes test r rs e) (omega (arith, count_since p q test low r rs sp.1, low r e, sp.0))
      | inr e ↦ rw (count_no test r rs e) (omega (arith, count_since p q test low r rs sp.1, sp.0))
    ]

-- those with a deadline up to e besides take up the time from q to the last such release, and one period more
pub count_due : (p q d e : ℕ) (test : ℕ → Bool) → ((r : ℕ) → test r ≡ true → (q ≤ r) × (r + d ≤ e))
    → (b : ℕ) (rs : List ℕ) → Spaced p b rs
    → count test rs * p ≤ (e + p) - (d + q)
count_due p q d e test h b [] sp = omega arith
count_due p q d e test h b (r ∷ rs) sp =
    elim (cases_Bool (test r)) [
      | inl y ↦ rw (count_yes test r rs y) (omega (arith, count_since p q test (λ x z. (h x z).0) r rs sp.1, h r y))
      | inr y ↦ rw (count_no test r rs y) (omega (arith, count_due p q d e test h r rs sp.1))
    ]

-- what may come at b may come later
pub spaced_later : (p b e : ℕ) (rs : List ℕ) → b ≤ e → Spaced p b rs → Spaced p e rs
spaced_later p b e [] h sp = tt
spaced_later p b e (r ∷ rs) h sp = (omega (arith, sp.0), sp.1)

-- no release lies after the clock
pub spaced_newest : (p b : ℕ) (rs : List ℕ) → Spaced p (b + p) rs → newest rs ≤ b
spaced_newest p b [] sp = omega arith
spaced_newest p b (r ∷ rs) sp = omega (arith, sp.0)

-- the question that a release asks keeps them spaced
pub spaced_next : (p b m : ℕ) (rs : List ℕ) → MayRelease p m rs → Spaced p b rs → Spaced p m rs
spaced_next p b m [] h sp = tt
spaced_next p b m (r ∷ rs) (inl e) sp = let z : ◌≡◌ {A = ℕ} 0 1 = cc in absurd (omega arith)
spaced_next p b m (r ∷ rs) (inr h) sp = (h, sp.1)
