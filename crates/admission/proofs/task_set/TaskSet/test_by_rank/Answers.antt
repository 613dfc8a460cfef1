use Rattle.std.proofs.Common.{arith}
use Rattle.admission.proofs.Tested.{passes_by_rank}
use Rattle.admission.proofs.task_set.TaskSet.test_by_rank.Goals as goal

pub returns : goal.returns
returns c =
    passes_by_rank c.args.rule c.args.self.now.attempt c.args.self.now.tasks.now c.args.self.now.few c.in_ok-witnesses.witnesses c.greatest-answer.result c.requires.0
    (omega arith)
    c.in_ok-witnesses.ensures.unmet
    c.in_ok-witnesses.ensures.least
    c.greatest-answer.ensures
