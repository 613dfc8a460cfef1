use Rattle.std.proofs.Common.{◌+◌, get_or, refl, arith}
use Rattle.admission.specs.Tables.{no_adopted_task}
use Rattle.admission.proofs.Bounds.{jobs_small}
use Rattle.admission.proofs.Ranges.{sum_more, sum_all}
use Rattle.admission.proofs.task_set.TaskSet.load.Goals as goal

pub overflow_add-sum-in-loop-task : goal.overflow_add-sum-in-loop-task
overflow_add-sum-in-loop-task c =
    let task = get_or c.args.self.now.tasks.now c.loop-task.task-index no_adopted_task in
    let l = c.args.self.now.limits c.loop-task.task-index c.loop-task-test.true in
    let s = jobs_small c.args.hyperperiod.ticks task.period (task.cost + c.args.self.now.attempt) 800065 (omega arith) (omega (arith, l.2.1)) in
    omega (arith, s)

pub loop-task-preserved : goal.loop-task-preserved
loop-task-preserved c =
    let task = get_or c.args.self.now.tasks.now c.loop-task.task-index no_adopted_task in
    let l = c.args.self.now.limits c.loop-task.task-index c.loop-task-test.true in
    let s = jobs_small c.args.hyperperiod.ticks task.period (task.cost + c.args.self.now.attempt) 800065 (omega arith) (omega (arith, l.2.1)) in
    (sum_more _ _ _ _ c.loop-task.invariant.0 refl, omega (arith, s))

pub returns : goal.returns
returns c = sum_all _ _ _ _ c.loop-task.invariant.0 (omega arith)
