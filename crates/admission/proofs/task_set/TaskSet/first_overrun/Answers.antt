use Rattle.std.proofs.Common.{sym, ◌∙◌, arith}
use Rattle.std.proofs.lemmas.Bool.{not-true}
use Rattle.admission.proofs.Firsts.{none_from}
use Rattle.admission.proofs.Plateaus.{enough_until, overrun_is, overrun_none}
use Rattle.admission.proofs.task_set.TaskSet.first_overrun.Goals as goal

pub returns-then-is_enough : goal.returns-then-is_enough
returns-then-is_enough c = sym (none_from _ (not-true _ (sym c.is_enough.ensures ∙ c.if-is_enough.true)))

pub loop-t-preserved : goal.loop-t-preserved
loop-t-preserved c = (
  omega arith,
  omega arith,
  enough_until c.args.self.now.attempt c.args.self.now.tasks.now c.loop-t.t _ c.steady_until-next.ensures.steady c.loop-t.invariant.2
      (omega (arith, c.demand_by_deadline.ensures, c.if-demand_by_deadline-t.false)),
)

pub returns-then-demand_by_deadline-t : goal.returns-then-demand_by_deadline-t
returns-then-demand_by_deadline-t c =
    sym (overrun_is c.args.self.now.attempt c.args.self.now.tasks.now c.args.hyperperiod.ticks c.loop-t.t c.loop-t.invariant.0 c.loop-t.invariant.1
    (omega (arith, c.demand_by_deadline.ensures, c.if-demand_by_deadline-t.true)) c.loop-t.invariant.2)

pub returns-then-next-hyperperiod : goal.returns-then-next-hyperperiod
returns-then-next-hyperperiod c =
    let h = enough_until c.args.self.now.attempt c.args.self.now.tasks.now c.loop-t.t _ c.steady_until-next.ensures.steady c.loop-t.invariant.2
    (omega (arith, c.demand_by_deadline.ensures, c.if-demand_by_deadline-t.false)) in
    sym (overrun_none c.args.self.now.attempt c.args.self.now.tasks.now c.args.hyperperiod.ticks (λ u a b. h u a (omega arith)))
