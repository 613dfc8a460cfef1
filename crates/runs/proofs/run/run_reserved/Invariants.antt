use Rattle.std.proofs.Common.{◌≡◌, ◌≤◌, map, length, take, drop, vec_items, vec_len, vec_capacity}
use Rattle.controller.specs.Machines.{new_machine}
use Rattle.runs.specs.Entries.{entry_of}
use Rattle.runs.specs.Sessions.{machine_of, held_in}
use Rattle.runs.proofs.Stories.{Story}
use Rattle.runs.proofs.run.run_reserved.Given as goal

abbrev pub invariant-loop-call : goal.invariant-loop-call
invariant-loop-call g l =
    Story (new_machine (g.S.Shelf.model l.fn.shelf)) (map entry_of (take l.call-index l.initial.calls)) (map entry_of (take l.call-index l.calls)) (vec_items l.answers) (machine_of g.S.Shelf.model l.session) (held_in l.session)
    × (drop l.call-index l.calls ≡ drop l.call-index l.initial.calls)
    × (vec_len l.answers ≡ l.call-index)
    × (length l.initial.calls ≤ vec_capacity l.answers)
    × (vec_len l.session.tokens ≤ l.call-index)
    × (length l.initial.calls ≤ vec_capacity l.session.tokens)
