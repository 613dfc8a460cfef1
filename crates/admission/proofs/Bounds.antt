-- The sums of the tests are small enough for their types.
use Rattle.std.proofs.Common.{ℕ, ◌*◌, ◌/◌, ◌≤◌, mul-le-mul, div-le_self, arith}

-- n jobs, as many as fit into some x ≤ 2,000,000 ticks, at m ticks each
pub jobs_small : (x p m most : ℕ) → x ≤ 2000000 → m ≤ most → x / p * m ≤ 2000000 * most
jobs_small x p m most h l =
    let q : x / p ≤ 2000000 = omega (arith, div-le_self x p) in
    mul-le-mul q l
