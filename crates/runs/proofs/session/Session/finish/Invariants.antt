use Rattle.std.proofs.Common.{◌≡◌, ltb, vec_items, vec_len}
use Rattle.controller.specs.Machines.{machine, closed}
use Rattle.runs.specs.Entries.{goods, good_in}
use Rattle.runs.specs.Sessions.{machine_of, held_in}
use Rattle.runs.proofs.session.Session.finish.Given as goal

-- what is still to hand in ends the batch as all tokens would
abbrev pub invariant-loop-token : goal.invariant-loop-token
invariant-loop-token g l =
    closed (machine (g.S.Shelf.model l.controller.shelf) l.controller.core) (ltb 0 (good_in (goods (vec_items l.tokens))))
    ≡ closed (machine_of g.S.Shelf.model l.fn.self) (ltb 0 (good_in (held_in l.fn.self)))

abbrev pub decreases-loop-token : goal.decreases-loop-token
decreases-loop-token g l = vec_len l.tokens
