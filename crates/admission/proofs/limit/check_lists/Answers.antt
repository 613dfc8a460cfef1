use Rattle.std.proofs.Common.{get_or, Some, None, ◌≡◌, sym, ap, ◌∙◌}
use Rattle.std.proofs.lemmas.List.{at_drop_all}
use Rattle.std.proofs.lemmas.Result.{err_from_is_err_and}
use Rattle.admission.specs.Tables.{no_task}
use Rattle.admission.specs.Verdicts.{task_no, tasks_no}
use Rattle.admission.proofs.Questions.{unless_err, unless_ok, tasks_refused, tasks_next}
use Rattle.admission.proofs.Limited.{table_limits}
use Rattle.admission.proofs.limit.check_lists.Goals as goal

pub returns-in_err-check_task-clause-answer : goal.returns-in_err-check_task-clause-answer
returns-in_err-check_task-clause-answer g c =
    let rules = (g.S.Shelf.model c.args.shelf.now).rules in
    let n = task_no rules c.args.segments.now c.loop-place.place (get_or c.args.tasks.now c.loop-place.place no_task) in
    let p = err_from_is_err_and c.from_residual.result c.from_residual.ensures.1 in
    let f = unless_err n tt c.in_err-check_task.field-0.0 (sym c.check_task.ensures ∙ c.in_err-check_task.was) in
    let h = tasks_refused rules c.args.segments.now c.loop-place.place c.args.tasks.now c.loop-place.place c.loop-place-test.true _ f in
    rw p.1 (sym c.loop-place.invariant ∙ h ∙ ap Some (sym p.2))

pub loop-place-preserved : goal.loop-place-preserved
loop-place-preserved g c =
    let rules = (g.S.Shelf.model c.args.shelf.now).rules in
    let n = task_no rules c.args.segments.now c.loop-place.place (get_or c.args.tasks.now c.loop-place.place no_task) in
    let f = unless_ok n tt c.in_ok-check_task.field-0 (sym c.check_task.ensures ∙ c.in_ok-check_task.was) in
    let h = tasks_next rules c.args.segments.now c.loop-place.place c.args.tasks.now c.loop-place.place c.loop-place-test.true f in
    sym h ∙ c.loop-place.invariant

pub invariant_of-result : goal.invariant_of-result
invariant_of-result g c =
    let rules = (g.S.Shelf.model c.args.shelf.now).rules in
    let e = at_drop_all (tasks_no rules c.args.segments.now c.loop-place.place) c.args.tasks.now c.loop-place.place c.loop-place-test.false in
    let none : tasks_no rules c.args.segments.now 0 c.args.tasks.now ≡ None = sym c.loop-place.invariant ∙ e in
    record { few = c.requires; limits = table_limits rules c.args.segments.now 0 c.args.tasks.now none }
