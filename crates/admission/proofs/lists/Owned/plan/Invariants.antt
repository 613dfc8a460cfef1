use Rattle.std.proofs.Common.{◌≡◌, map, length, take}
use Rattle.admission.specs.Tables.{step_of}
use Rattle.admission.proofs.lists.Owned.plan.Given as goal

abbrev pub invariant-loop-k : goal.invariant-loop-k
invariant-loop-k l = (length l.steps ≡ 8) × (take l.k l.steps ≡ map step_of (take l.k l.self.segments.now))
