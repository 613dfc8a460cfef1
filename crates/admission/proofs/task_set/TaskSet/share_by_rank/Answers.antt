use Rattle.std.proofs.Common.{◌≡◌, ℕ, ◌+◌, ◌-◌, ◌*◌, ◌/◌, ◌≤◌, sym, ap, ◌∙◌, subst, arith}
use Rattle.std.proofs.lemmas.Bool.{le-leb, lt-ltb, le-ltb}
use Rattle.admission.proofs.Bounds.{jobs_small}
use Rattle.admission.proofs.task_set.TaskSet.share_by_rank.Goals as goal

pub returns-then-task-rank-2 : goal.returns-then-task-rank-2
returns-then-task-rank-2 c =
    let task = c.args.task.now in
    let jobs = c.periods_in-jobs.ensures.whole in
    record {
      work = rw (le-leb task.rank c.args.rank (omega arith)) (ap (λ (n : ℕ). n * task.cost) jobs);
      charge = rw (le-ltb task.rank c.args.rank (omega arith));
      small = (
        subst (λ (n : ℕ). n * task.cost ≤ 1600000000000) (sym jobs) (jobs_small (c.args.span.ticks + (task.period - 1)) task.period task.cost 800000 (omega arith) (omega arith)),
        omega arith,
      );
    }

pub returns : goal.returns
returns c =
    let task = c.args.task.now in
    let t = c.args.span.ticks in
    let jobs = c.periods_in-jobs.ensures.whole in
    let sooner : t + (task.period - 1) - 1 ≡ t - 1 + (task.period - 1) = omega arith in
    let before = c.periods_in-jobs.ensures.less ∙ ap (λ (n : ℕ). n / task.period) sooner in
    record {
      work = rw (le-leb task.rank c.args.rank (omega arith)) (ap (λ (n : ℕ). n * task.cost) jobs);
      charge = rw (lt-ltb task.rank c.args.rank (omega arith)) (ap (λ (n : ℕ). n * c.args.self.now.attempt) before);
      small = (
        subst (λ (n : ℕ). n * task.cost ≤ 1600000000000) (sym jobs) (jobs_small (t + (task.period - 1)) task.period task.cost 800000 (omega arith) (omega arith)),
        subst (λ (n : ℕ). n * c.args.self.now.attempt ≤ 130000000) (sym before) (jobs_small (t - 1 + (task.period - 1)) task.period c.args.self.now.attempt 65 (omega arith) (omega arith)),
      );
    }
