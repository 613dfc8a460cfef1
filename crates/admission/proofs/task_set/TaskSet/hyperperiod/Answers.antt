use Rattle.std.proofs.Common.{ℕ, length, subst, arith}
use Rattle.admission.specs.Multiples.{IsHyperperiod}
use Rattle.admission.proofs.Divisors.{hyperperiod_none, hyperperiod_more, hyperperiod_is, hyperperiod_long}
use Rattle.admission.proofs.task_set.TaskSet.hyperperiod.Goals as goal

pub loop-task-init : goal.loop-task-init
loop-task-init c = (omega arith, hyperperiod_none c.args.self.now.tasks.now)

pub returns-then-multiple-gt-MAX_HYPERPERIOD : goal.returns-then-multiple-gt-MAX_HYPERPERIOD
returns-then-multiple-gt-MAX_HYPERPERIOD c =
    let tasks = c.args.self.now.tasks.now in
    let h = hyperperiod_more tasks c.loop-task.task-index c.loop-task.multiple _ c.loop-task.invariant.1 c.lcm-multiple.ensures.positive c.lcm-multiple.ensures.is in
    record { is = hyperperiod_long tasks _ _ (omega arith) (omega arith) h; least = tt }

pub loop-task-preserved : goal.loop-task-preserved
loop-task-preserved c =
    (omega arith, hyperperiod_more c.args.self.now.tasks.now c.loop-task.task-index c.loop-task.multiple _ c.loop-task.invariant.1 c.lcm-multiple.ensures.positive c.lcm-multiple.ensures.is)

pub returns : goal.returns
returns c =
    let tasks = c.args.self.now.tasks.now in
    let h : IsHyperperiod tasks (length tasks) c.loop-task.multiple = subst (λ (n : ℕ). IsHyperperiod tasks n c.loop-task.multiple) (omega arith) c.loop-task.invariant.1 in
    record { is = hyperperiod_is tasks c.loop-task.multiple c.loop-task.invariant.0 h; least = h }
