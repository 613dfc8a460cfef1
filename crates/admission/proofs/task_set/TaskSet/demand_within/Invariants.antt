use Rattle.std.proofs.Common.{◌≡◌, ◌*◌, ◌≤◌, get_or}
use Rattle.admission.specs.Search.{sum_below}
use Rattle.admission.specs.Tables.{no_adopted_task}
use Rattle.admission.specs.Demand.{work_share, charge_share, rule_among, rank_among}
use Rattle.admission.proofs.task_set.TaskSet.demand_within.Given as goal

abbrev pub invariant-loop-task : goal.invariant-loop-task
invariant-loop-task l =
    (l.work ≡ sum_below l.task-index (λ a. work_share (rule_among l.among) (rank_among l.among) l.span.ticks (get_or l.self.tasks.now a no_adopted_task)))
    × (l.charge ≡ sum_below l.task-index (λ a. charge_share (rule_among l.among) l.self.attempt (rank_among l.among) l.span.ticks (get_or l.self.tasks.now a no_adopted_task)))
    × (l.work ≤ l.task-index * 1600000000000)
    × (l.charge ≤ l.task-index * 130000000)
