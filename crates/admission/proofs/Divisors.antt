-- Greatest common divisors by remainders, least common multiples from them, and the hyperperiod one period at a time.
use Rattle.std.proofs.Common.{◌≡◌, ℕ, ◌+◌, ◌*◌, ◌/◌, ◌%◌, ◌<◌, ◌≤◌, true, false, List, length, get_or, Some, None, sym, ap, ◌∙◌, subst, inl, inr, mod-lt, mul_assoc, mul_comm, mul-pos, mul-add, arith}
use Prim.Native.Nat.{◌∣◌}
use native.Mathlib.Nat.{dvd_refl, dvd-zero, dvd-mod_iff, dvd-mul_left, dvd-mul_right, dvd-mul_right_of_dvd, dvd-add_iff_right, dvd_trans, mul-dvd-mul_left, mul-dvd-mul_right, dvd_of_mul-dvd-mul_right, div-mul_cancel, pos_of_dvd_of_pos, le_of_dvd, div-add-mod, mod-eq-zero_of_dvd, dvd_of_mod-eq-zero}
use Rattle.std.proofs.lemmas.Bool.{cases_eq, cases_lt, cases_Bool, both_ways, eq-eqb, eqb-true, not_from_true, not_from_false, not-false, not-true}
use Rattle.admission.specs.declared.plan.AdoptedTask.{AdoptedTask}
use Rattle.admission.specs.Tables.{no_adopted_task}
use Rattle.admission.specs.Multiples.{IsGcd, IsLcm, Common, IsHyperperiod}
use Rattle.admission.specs.Tests.{common_multiple, hyperperiod_of}
use Rattle.admission.proofs.Firsts.{first_none, first_some, first_found, first_missing, some_none, some_false}

pub gcd_base : (a b : ℕ) → b ≡ 0 → IsGcd a b a
gcd_base a b e = record { left = dvd_refl a; right = subst (λ (x : ℕ). a ∣ x) (sym e) (dvd-zero a); greatest = λ n d h _. h }

-- n times a, by quotient and remainder
scaled : (n a b : ℕ) → n * a ≡ n * b * (a / b) + n * (a % b)
scaled n a b =
    ap (λ (x : ℕ). n * x) (sym (div-add-mod a b))
    ∙ mul-add n (b * (a / b)) (a % b)
    ∙ ap (λ (x : ℕ). x + n * (a % b)) (sym (mul_assoc n b (a / b)))

pub gcd_step : (a b g : ℕ) → IsGcd b (a % b) g → IsGcd a b g
gcd_step a b g h =
    record {
      left = (dvd-mod_iff g {m = a} {n = b} h.left).0 h.right;
      right = h.left;
      greatest =
          λ n d p q.
          h.greatest n d q
          ((dvd-add_iff_right d {m = n * b * (a / b)} {n = n * (a % b)} (dvd-mul_right_of_dvd d q (a / b))).1
          (subst (λ (x : ℕ). d ∣ x) (scaled n a b) p));
    }

pub gcd_pos : (a b g : ℕ) → 0 < a → IsGcd a b g → 0 < g
gcd_pos a b g p h = pos_of_dvd_of_pos h.left p

pub lcm_is : (a b g : ℕ) → 0 < a → IsGcd a b g → IsLcm a b (a / g * b)
lcm_is a b g p h =
    record {
      left = subst (λ (x : ℕ). a ∣ x) (sym over) (dvd-mul_right a (b / g));
      right = dvd-mul_left b (a / g);
      least =
          λ n u v.
          dvd_of_mul-dvd-mul_right {k = g} (a / g * b) {n = n} (gcd_pos a b g p h)
          (subst (λ (x : ℕ). x ∣ n * g) whole
          (h.greatest n (a * b) (subst (λ (x : ℕ). a * b ∣ x) (mul_comm a n) (mul-dvd-mul_left b a v)) (mul-dvd-mul_right a u b)));
    }
  where
    whole : a * b ≡ a / g * b * g
    whole =
        ap (λ (x : ℕ). x * b) (sym (div-mul_cancel g h.left))
        ∙ mul_assoc (a / g) g b
        ∙ ap (λ (x : ℕ). a / g * x) (mul_comm g b)
        ∙ sym (mul_assoc (a / g) b g)

    over : a / g * b ≡ a * (b / g)
    over =
        ap (λ (x : ℕ). a / g * x) (sym (div-mul_cancel g h.right))
        ∙ ap (λ (x : ℕ). a / g * x) (mul_comm (b / g) g)
        ∙ sym (mul_assoc (a / g) g (b / g))
        ∙ ap (λ (x : ℕ). x * (b / g)) (div-mul_cancel g h.left)

pub lcm_pos : (a b g : ℕ) → 0 < a → 0 < b → IsGcd a b g → 0 < a / g * b
lcm_pos a b g p q h =
    let m = lcm_is a b g p h in
    let w : 0 < a * b = mul-pos p q in
    pos_of_dvd_of_pos (m.least (a * b) (dvd-mul_right a b) (dvd-mul_left b a)) w

module _ (tasks : List AdoptedTask) where
  pub hyperperiod_none : IsHyperperiod tasks 0 1
  hyperperiod_none =
      record {
        positive = omega arith;
        common = λ a l. absurd (omega arith);
        least = λ n _. subst (λ (x : ℕ). 1 ∣ x) (omega arith) (dvd-mul_right 1 n);
      }

  -- one period more
  pub hyperperiod_more : (count p m : ℕ) → IsHyperperiod tasks count p → 0 < m → IsLcm p (get_or tasks count no_adopted_task).period m → IsHyperperiod tasks (count + 1) m
  hyperperiod_more count p m h o i =
      record {
        positive = o;
        common =
            λ a l.
            elim (cases_eq a count) [
              | inl e ↦ subst (λ (x : ℕ). (get_or tasks x no_adopted_task).period ∣ m) (sym e) i.right
              | inr d ↦ dvd_trans _ (h.common a (omega arith)) i.left
            ];
        least = λ n c. i.least n (h.least n (λ a l. c a (omega arith))) (c count (omega arith));
      }

  -- the test for a common multiple, and what it says
  pub common_true : (n : ℕ) → Common tasks (length tasks) n → common_multiple tasks n ≡ true
  common_true n c =
      not_from_false _ (some_false _ (length tasks) (λ a l.
      not_from_true _ (eq-eqb _ 0 (mod-eq-zero_of_dvd (get_or tasks a no_adopted_task).period (c a l)))))

  pub common_from : (n : ℕ) → common_multiple tasks n ≡ true → Common tasks (length tasks) n
  common_from n h a l =
      dvd_of_mod-eq-zero (get_or tasks a no_adopted_task).period
      (eqb-true _ 0 (not-false _ (some_none _ (length tasks) (not-true _ h) a l)))

  -- a number below a hyperperiod of some of the periods is no common multiple
  too_small : (count p n : ℕ) → count ≤ length tasks → IsHyperperiod tasks count p → 1 ≤ n → n < p → common_multiple tasks n ≡ false
  too_small count p n b h o l =
      elim (cases_Bool (common_multiple tasks n)) [
        | inl e ↦ absurd (omega (arith, le_of_dvd o (h.least n (λ a i. common_from n e a (omega arith)))))
        | inr e ↦ e
      ]

  pub hyperperiod_is : (p : ℕ) → p ≤ 1000000 → IsHyperperiod tasks (length tasks) p → hyperperiod_of tasks ≡ Some p
  unfolding hyperperiod_of
  hyperperiod_is p b h =
      first_some (common_multiple tasks) 1 1000000 p
      (record {
        from = h.positive;
        below = omega arith;
        passes = common_true p h.common;
        first = λ j o l. too_small (length tasks) p j (omega arith) h o l;
      })

  pub hyperperiod_long : (count p : ℕ) → count ≤ length tasks → 1000000 < p → IsHyperperiod tasks count p → hyperperiod_of tasks ≡ None
  unfolding hyperperiod_of
  hyperperiod_long count p b l h =
      first_none (common_multiple tasks) 1 1000000 (λ k o u. too_small count p k b h o (omega arith))

  -- the least common multiple divides every common multiple, since the remainder is one too
  pub hyperperiod_found : (p : ℕ) → hyperperiod_of tasks ≡ Some p → IsHyperperiod tasks (length tasks) p
  unfolding hyperperiod_of
  hyperperiod_found p h =
      let f = first_found (common_multiple tasks) 1 1000000 p h in
      record {
        positive = f.from;
        common = common_from p f.passes;
        least = λ n c.
            let r : Common tasks (length tasks) (n % p) = λ a l. (dvd-mod_iff (get_or tasks a no_adopted_task).period {m = n} {n = p} (common_from p f.passes a l)).1 (c a l) in
            elim (cases_lt 0 (n % p)) [
              | inl o ↦ absurd (both_ways (common_multiple tasks (n % p)) (f.first (n % p) o (mod-lt n f.from)) (common_true (n % p) r))
              | inr z ↦ dvd_of_mod-eq-zero p (omega arith)
            ];
      }

  pub hyperperiod_missing : hyperperiod_of tasks ≡ None → (n : ℕ) → 1 ≤ n → Common tasks (length tasks) n → 1000000 < n
  unfolding hyperperiod_of
  hyperperiod_missing h n o c =
      elim (cases_lt 1000000 n) [
        | inl l ↦ l
        | inr l ↦ absurd (both_ways (common_multiple tasks n) (first_missing (common_multiple tasks) 1 1000000 h n o (omega arith)) (common_true n c))
      ]
