use Rattle.std.proofs.Common.{ℕ, ◌+◌, ◌-◌, ◌*◌, ◌≤◌, sym, ap, subst, arith}
use Rattle.admission.proofs.Bounds.{jobs_small}
use Rattle.admission.proofs.task_set.TaskSet.share_by_deadline.Goals as goal

pub returns : goal.returns
returns c =
    let task = c.args.task.now in
    let reach = c.args.span.ticks + task.period - task.deadline in
    let jobs = c.periods_in-jobs.ensures.whole in
    let before = c.periods_in-jobs.ensures.less in
    record {
      work = ap (λ (n : ℕ). n * task.cost) jobs;
      charge = ap (λ (n : ℕ). n * c.args.self.now.attempt) before;
      small = (
        subst (λ (n : ℕ). n * task.cost ≤ 1600000000000) (sym jobs) (jobs_small reach task.period task.cost 800000 (omega arith) (omega arith)),
        subst (λ (n : ℕ). n * c.args.self.now.attempt ≤ 130000000) (sym before) (jobs_small (reach - 1) task.period c.args.self.now.attempt 65 (omega arith) (omega arith)),
      );
    }
