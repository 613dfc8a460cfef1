use Rattle.std.proofs.Common.{◌≡◌, get_or, arith}
use Rattle.admission.specs.declared.plan.AdoptedTask.{AdoptedTask}
use Rattle.admission.specs.Tables.{adopted_task_of, no_task}
use Rattle.admission.proofs.Filling.{listed_more}
use Rattle.admission.proofs.lists.Lists.adopted_tasks.Goals as goal

pub loop-place-preserved : goal.loop-place-preserved
loop-place-preserved c =
    let task = get_or c.args.self.now.tasks.now c.loop-place.place no_task in
    let e : ◌≡◌ {A = AdoptedTask} (record { period = task.period; deadline = task.deadline; cost = c.job_cost.result; rank = c.rank_at.result })
    (adopted_task_of c.args.rule c.args.self.now.segments.now c.args.self.now.tasks.now c.loop-place.place) = cc in
    (omega (arith, c.push.ensures.len), listed_more _ _ _ _ _ c.loop-place.invariant.1 c.push.ensures.items e)
