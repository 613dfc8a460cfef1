use Rattle.std.proofs.Common.{arith}
use Rattle.admission.proofs.Ranges.{sum_more, sum_all}
use Rattle.admission.proofs.task_set.TaskSet.demand_within.Goals as goal

pub loop-task-preserved : goal.loop-task-preserved
loop-task-preserved c = (
  sum_more _ _ _ _ c.loop-task.invariant.0 c.share-more_work.ensures.work,
  sum_more _ _ _ _ c.loop-task.invariant.1 c.share-more_work.ensures.charge,
  omega arith,
  omega arith,
)

pub returns : goal.returns
returns c = record { work = sum_all _ _ _ _ c.loop-task.invariant.0 (omega arith); charge = sum_all _ _ _ _ c.loop-task.invariant.1 (omega arith); small = omega arith }
