use Rattle.std.proofs.Common.{get_or, arith}
use Rattle.std.proofs.lemmas.List.FromFn.{fill_by_all}
use Rattle.admission.specs.Tables.{no_task, no_adopted_task}
use Rattle.admission.specs.Verdicts.{stamp_of}
use Rattle.admission.proofs.adopt.stamp.Goals as goal

pub returns : goal.returns
returns c =
    fill_by_all (λ k. stamp_of (get_or c.args.adopted.now k no_adopted_task).rank (get_or c.args.witnesses.now k 0) (get_or c.args.tasks.now k no_task))
    c.loop-place.tasks _ no_task c.loop-place.auto.tasks (λ k l. c.loop-place.invariant.0 k (omega arith))
