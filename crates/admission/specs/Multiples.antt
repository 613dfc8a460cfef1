-- Greatest common divisors and least common multiples.
use Rattle.std.specs.Prelude.{ℕ, ◌*◌, ◌<◌, List, slice_index_or}
use Rattle.std.specs.Int.{◌∣◌}
use Rattle.admission.specs.declared.plan.AdoptedTask.{AdoptedTask}
use Rattle.admission.specs.Tables.{no_adopted_task}

-- A common divisor that every other divides. The last law is said of each multiple, n times a and n times b,
-- so that it passes along the recursion; at n = 1 it is the usual one.
pub record IsGcd (a b g : ℕ) : Type 0 where
  pub left : g ∣ a
  pub right : g ∣ b
  pub greatest : (n d : ℕ) → d ∣ n * a → d ∣ n * b → d ∣ n * g

pub record IsLcm (a b m : ℕ) : Type 0 where
  pub left : a ∣ m
  pub right : b ∣ m
  pub least : (n : ℕ) → a ∣ n → b ∣ n → m ∣ n

-- each period of the first `count` tasks divides a number
abbrev pub Common : List AdoptedTask → ℕ → ℕ → Type 0
Common tasks count n = (a : ℕ) → a < count → (slice_index_or tasks a no_adopted_task).period ∣ n

-- a hyperperiod is a common multiple of the periods, above 0, that divides every other
pub record IsHyperperiod (tasks : List AdoptedTask) (count p : ℕ) : Type 0 where
  pub positive : 0 < p
  pub common : Common tasks count p
  pub least : (n : ℕ) → Common tasks count n → p ∣ n
