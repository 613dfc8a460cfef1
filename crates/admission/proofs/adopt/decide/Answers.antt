use Rattle.std.proofs.Common.{◌≡◌, ℕ, true, List, length, take, Ok, sym, refl, ap, ◌∙◌, subst, arith}
use Rattle.std.proofs.lemmas.List.{length-map}
use Rattle.std.proofs.lemmas.List.FromFn.{length-map-range_with_len}
use Rattle.admission.specs.declared.plan.AdoptedTask.{AdoptedTask}
use Rattle.admission.specs.declared.plan.Step.{Step}
use Rattle.admission.specs.Lengths.{longest_attempt_of}
use Rattle.admission.specs.Tables.{goes_by_rank, adopted_tasks_of, plans_of_tasks, steps_in, Table}
use Rattle.admission.specs.Tests.{MeetsByRank, Ordered}
use Rattle.admission.specs.Verdicts.{answer_of, witnesses_of}
use Rattle.admission.proofs.Rankings.{adopted_length}
use Rattle.admission.proofs.Limited.{all_lawful}
use Rattle.admission.proofs.Deciding.{ready, passes_as, of_lists, some_tasks, table_is, verdict_taken, meets_by_rank, meets_by_deadline}
use Rattle.admission.proofs.adopt.decide.Goals as goal

pub invariant_of-set : goal.invariant_of-set
invariant_of-set g c =
    let r = ready c.in_ok-rule.rule c.in_ok-lists.lists c.deref.result.now (c.deref.ensures.0 ∙ c.adopted_tasks-adopted.ensures) in
    record { few = r.0; limits = r.1; short = c.longest_attempt-attempt.ensures.short }

pub test-requires : goal.test-requires
test-requires g c = let r = ready c.in_ok-rule.rule c.in_ok-lists.lists c.deref.result.now (c.deref.ensures.0 ∙ c.adopted_tasks-adopted.ensures) in r.2

pub order-order-requires : goal.order-order-requires
order-order-requires g c = let r = ready c.in_ok-rule.rule c.in_ok-lists.lists c.deref.result.now (c.deref.ensures.0 ∙ c.adopted_tasks-adopted.ensures) in r.2

pub invariant_of-table : goal.invariant_of-table
invariant_of-table g c =
    let rule = c.in_ok-rule.rule in
    let s = c.longest_attempt-attempt.result in
    let X = c.adopted_tasks-adopted.result.items in
    let W = c.front-witnesses.result.items in
    let O = c.order-order.result.items in
    let r = ready rule c.in_ok-lists.lists X c.adopted_tasks-adopted.ensures in
    let p = passes_as rule s s _ X c.in_ok-passed.passed refl c.deref.ensures.0 c.in_ok-passed.ensures in
    let w : W ≡ witnesses_of rule s X = c.front-witnesses.ensures ∙ ap (λ (n : ℕ). take n c.in_ok-passed.passed.witnesses) c.len.ensures.value ∙ p.witnesses in
    let o : goes_by_rank rule ≡ true → Ordered X O = λ b. subst (λ (xs : List AdoptedTask). Ordered xs O) c.deref.ensures.0 (c.order-order.ensures.ordered b) in
    record {
      few = r.0;
      witnessed = ap (λ (xs : List ℕ). length xs) w ∙ length-map-range_with_len _ 0 (length X);
      planned =
          sym (length-map c.plans.result.items steps_in)
          ∙ ap (λ (ps : List (List Step)). length ps) c.plans.ensures
          ∙ length-map c.in_ok-lists.lists.tasks.now _
          ∙ sym (ap (λ (xs : List AdoptedTask). length xs) c.adopted_tasks-adopted.ensures ∙ adopted_length rule c.in_ok-lists.lists.segments.now c.in_ok-lists.lists.tasks.now);
      ordered = c.order-order.ensures.long ∙ ap (λ (xs : List AdoptedTask). length xs) c.deref.ensures.0;
      periods = λ k l. (r.1 k l).0;
      deadlines = λ k l. (r.1 k l).1;
      costs = λ k l. (r.1 k l).2;
      short = c.longest_attempt-attempt.ensures.short;
      ranked = λ b. subst (λ (ws : List ℕ). MeetsByRank s X ws) (sym w) (meets_by_rank rule s X p.test b);
      below = λ b. (o b).below;
      places = λ b. (o b).places;
      entries = λ b. (o b).entries;
      entered = λ b. (o b).ranked;
      due = λ b. meets_by_deadline rule s X (all_lawful X r.1) p.test b;
    }

pub returns : goal.returns
returns g c =
    let tasks = c.args.tasks.now in
    let segments = c.args.segments.now in
    let rule = c.in_ok-rule.rule in
    let same = c.in_ok-lists.ensures.lists in
    let a = of_lists (adopted_tasks_of rule) c.in_ok-lists.lists segments tasks _ same c.adopted_tasks-adopted.ensures in
    let s = of_lists longest_attempt_of c.in_ok-lists.lists segments tasks _ same c.longest_attempt-attempt.ensures.is in
    let plans = of_lists plans_of_tasks c.in_ok-lists.lists segments tasks _ same c.plans.ensures in
    let p = passes_as rule _ (longest_attempt_of segments tasks) _ (adopted_tasks_of rule segments tasks) c.in_ok-passed.passed s (c.deref.ensures.0 ∙ a) c.in_ok-passed.ensures in
    let long = ap (λ (xs : List AdoptedTask). length xs) a in
    let w = c.front-witnesses.ensures ∙ ap (λ (n : ℕ). take n c.in_ok-passed.passed.witnesses) c.len.ensures.value ∙ ap (λ (xs : List AdoptedTask). take (length xs) c.in_ok-passed.passed.witnesses) a ∙ p.witnesses in
    let t = table_is rule segments tasks _ _ _ _ s a w plans in
    let some = some_tasks tasks c.is_empty.result c.is_empty.ensures c.if-is_empty.false in
    let v = verdict_taken (g.S.Shelf.model c.args.shelf.now).rules c.args.number tasks segments rule some (omega arith) c.in_ok-rule.ensures c.in_ok-lists.ensures.answer p.test in
    (v ∙ ap (λ (x : Table). Ok x) (sym t), p.answer ∙ ap answer_of (sym t), long ∙ adopted_length rule segments tasks)
