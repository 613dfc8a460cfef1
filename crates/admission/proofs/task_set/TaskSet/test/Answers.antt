use Rattle.std.proofs.Common.{unwrap_or, sym, ◌∙◌, arith}
use Rattle.admission.specs.Tests.{hyperperiod_of}
use Rattle.admission.specs.Verdicts.{deadlines_no}
use Rattle.admission.proofs.Questions.{unless_ok}
use Rattle.admission.proofs.Exact.{unless_value}
use Rattle.admission.proofs.Tested.{passes_by_deadline}
use Rattle.admission.proofs.task_set.TaskSet.test.Goals as goal

pub returns : goal.returns
returns c =
    let tasks = c.args.self.now.tasks.now in
    let no = deadlines_no c.args.self.now.attempt tasks in
    let p = unwrap_or (hyperperiod_of tasks) 0 in
    let e = sym c.test_by_deadline.ensures ∙ c.in_ok-answer.was in
    passes_by_deadline c.args.rule c.args.self.now.attempt tasks (omega arith) c.in_ok-answer.answer
    (sym c.if-is_by_rank.ensures) (unless_ok no p c.in_ok-answer.answer e) (unless_value no p c.in_ok-answer.answer e)
