use Rattle.std.proofs.Common.{ℕ, get_or, sym, subst, inl, inr, arith}
use Rattle.std.proofs.lemmas.Bool.{cases_eq}
use Rattle.admission.specs.Tables.{no_adopted_task}
use Rattle.admission.specs.Tests.{Steady}
use Rattle.admission.proofs.Plateaus.{steady_sooner}
use Rattle.admission.proofs.task_set.TaskSet.steady_until.Goals as goal

pub loop-task-preserved : goal.loop-task-preserved
loop-task-preserved c =
    let tasks = c.args.self.now.tasks.now in
    let until = c.min-until.result in (
      omega (arith, c.min-until.ensures, c.steady_until.ensures.later),
      omega (arith, c.min-until.ensures),
      λ a l.
          elim (cases_eq a c.loop-task.task-index) [
            | inl e ↦ subst (λ (k : ℕ). Steady (get_or tasks k no_adopted_task) c.args.at.ticks until) (sym e) (steady_sooner (get_or tasks c.loop-task.task-index no_adopted_task) _ _ _ (omega (arith, c.min-until.ensures)) c.steady_until.ensures.steady)
            | inr d ↦ steady_sooner (get_or tasks a no_adopted_task) _ _ _ (omega (arith, c.min-until.ensures)) (c.loop-task.invariant.2 a (omega arith))
          ],
    )
