-- Sums, greatest values and first hits over ranges of numbers.
use Rattle.std.specs.Prelude.{ℕ, zero, suc, ◌+◌, max, Bool, cond, is_some, Some, None, Option}

-- the sum of f k over all k below n
abbrev pub sum_below : ℕ → (ℕ → ℕ) → ℕ
sum_below zero f = 0
sum_below (suc n) f = sum_below n f + f n

-- the greatest f k over all k below n, 0 if there is none
abbrev pub max_below : ℕ → (ℕ → ℕ) → ℕ
max_below zero f = 0
max_below (suc n) f = max (max_below n f) (f n)

-- how many k below n pass a test
abbrev pub count_below : ℕ → (ℕ → Bool) → ℕ
count_below n test = sum_below n (λ k. cond (test k) 1 0)

-- the first of `count` numbers, from `start` upward, that passes a test
abbrev pub first_from : (ℕ → Bool) → ℕ → ℕ → Option ℕ
first_from test start zero = None
first_from test start (suc count) = cond (test start) (Some start) (first_from test (start + 1) count)

-- the least number from 1 to `most` that passes a test
abbrev pub least_up_to : ℕ → (ℕ → Bool) → Option ℕ
least_up_to most test = first_from test 1 most

-- the least number below n that passes a test
abbrev pub first_below : ℕ → (ℕ → Bool) → Option ℕ
first_below n test = first_from test 0 n

-- whether some number below n passes a test
abbrev pub some_below : ℕ → (ℕ → Bool) → Bool
some_below n test = is_some (first_below n test)
