use Rattle.std.proofs.Common.{◌+◌, ◌<◌, length, get_or, vec_items, ap, ◌∙◌, arith}
use Rattle.std.proofs.lemmas.List.{drop-set-lt}
use Rattle.std.proofs.lemmas.Grind.{drop_more_same}
use Rattle.controller.specs.Machines.{new_machine}
use Rattle.runs.specs.declared.calls.Call.{Call}
use Rattle.runs.specs.Sessions.{machine_of, held_in}
use Rattle.runs.proofs.Loops.{loop_more, loop_end}
use Rattle.runs.proofs.run.run_reserved.Goals as goal

pub loop-call-preserved : goal.loop-call-preserved
loop-call-preserved g c =
    let i = c.loop-call.call-index in
    let cs = c.args.calls.now in
    let ds = c.loop-call.calls in
    let h : i < length cs = omega arith in
    let l : i < length ds = omega arith in (
      loop_more (new_machine (g.S.Shelf.model c.args.shelf)) cs ds (vec_items c.loop-call.answers) (vec_items c.push_reserved.new.self)
          (machine_of g.S.Shelf.model c.loop-call.session) (machine_of g.S.Shelf.model c.perform.new.self)
          (held_in c.loop-call.session) (held_in c.perform.new.self)
          i (get_or ds i c.call-item.result) c.perform.new.call c.perform.result
          c.loop-call.invariant.0 h l c.loop-call.invariant.1 (ap (λ (x : Call). get_or ds i x) c.call-item.is)
          c.perform.ensures.answer c.perform.ensures.machine c.perform.ensures.held c.perform.ensures.lists
          c.push_reserved.ensures.items,
      drop-set-lt (i + 1) ds i c.perform.new.call (omega arith) ∙ drop_more_same ds cs i c.loop-call.invariant.1,
      omega (arith, c.push_reserved.ensures.len, c.loop-call.invariant.2),
      omega (arith, c.push_reserved.ensures.capacity, c.loop-call.invariant.3),
      omega (arith, c.perform.ensures.room.0, c.loop-call.invariant.4),
      omega (arith, c.perform.ensures.room.1, c.loop-call.invariant.5),
    )

pub returns : goal.returns
returns g c =
    loop_end (g.S.Shelf.model c.args.shelf) c.args.calls.now c.loop-call.calls (vec_items c.loop-call.answers) (machine_of g.S.Shelf.model c.loop-call.session) (held_in c.loop-call.session) c.loop-call.call-index c.loop-call-test.false (omega arith) c.loop-call.invariant.0
