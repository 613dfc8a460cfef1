use Rattle.std.proofs.Common.{◌≡◌, ℕ, ◌+◌, ◌<◌, List, length, get_or, set, Some, sym, ap, ◌∙◌, subst, inl, inr, arith}
use Rattle.std.specs.Option.{option_map}
use Rattle.std.proofs.lemmas.List.{length-set, get_or-set_same, get_or-set_other}
use Rattle.std.proofs.lemmas.Bool.{cases_eq}
use Rattle.admission.specs.declared.refusal.Refusal.TheVariants.{Unschedulable}
use Rattle.admission.specs.Tables.{no_adopted_task}
use Rattle.admission.specs.Tests.{least_witness, Ordered}
use Rattle.admission.proofs.Witnesses.{Short, needed_is, short_more, witness_is, witness_none, met, not_met, all_met, unmet_is}
use Rattle.admission.proofs.task_set.TaskSet.find_witnesses.Goals as goal

pub times-preserved : goal.times-preserved
times-preserved c =
    let tasks = c.args.self.now.tasks.now in
    let attempt = c.args.self.now.attempt in
    let place = get_or c.deref-place-items.result.now c.loop-place.place-index 0 in
    let e = needed_is attempt tasks _ place c.times.t _ _ (omega arith) c.demand_within-work.ensures.work c.demand_within-work.ensures.charge in
    (omega arith, omega arith, omega arith, subst (λ (n : ℕ). Short attempt tasks place n) (sym e) (short_more attempt tasks place c.times.t c.args.self.now.limits c.times.invariant.3))

pub loop-place-preserved : goal.loop-place-preserved
loop-place-preserved c =
    let tasks = c.args.self.now.tasks.now in
    let attempt = c.args.self.now.attempt in
    let order = c.deref-place-items.result.now in
    let next = c.loop-place.place-index in
    let here = get_or order next 0 in
    let o : Ordered tasks order = subst (λ (ps : List ℕ). Ordered tasks ps) (sym c.deref-place-items.ensures.0) c.places_by_rank-order.ensures.ordered in
    let e = needed_is attempt tasks _ here c.times.t _ _ (omega arith) c.demand_within-work.ensures.work c.demand_within-work.ensures.charge in
    let w = witness_is attempt tasks here c.times.t c.times.invariant.0 c.times.invariant.1 (omega (arith, e, c.if-needed-t.true)) c.times.invariant.3 in (
      length-set _ _ _ ∙ c.loop-place.invariant.0,
      λ place l r.
          elim (cases_eq place here) [
            | inl i ↦
                subst (λ (k : ℕ). least_witness attempt tasks k ≡ Some (get_or (set c.loop-place.witnesses here c.times.t) k 0)) (sym i)
                (rw (get_or-set_same c.loop-place.witnesses here c.times.t 0 (omega arith)) w)
            | inr d ↦
                rw (get_or-set_other c.loop-place.witnesses here place c.times.t 0 d)
                (c.loop-place.invariant.1 place l
                (below (get_or tasks place no_adopted_task).rank next r
                (λ s. d (sym (o.places place l) ∙ ap (λ (k : ℕ). get_or order k 0) s))))
          ],
    )
  where
    below : (a b : ℕ) → a < b + 1 → (a ≡ b → ⊥) → a < b
    below a b h d = elim (cases_eq a b) [ inl e ↦ absurd (d e) | inr n ↦ omega arith ]

pub returns-after-loop-place-clause-unmet : goal.returns-after-loop-place-clause-unmet
returns-after-loop-place-clause-unmet c =
    let tasks = c.args.self.now.tasks.now in
    let attempt = c.args.self.now.attempt in
    let long = ap (λ (ps : List ℕ). length ps) c.deref-place-items.ensures.0 in
    all_met attempt tasks (λ place l. met attempt tasks place _ (c.loop-place.invariant.1 place l (omega (arith, long, c.requires.below place l))))

pub returns-then-needed-task-clause-unmet : goal.returns-then-needed-task-clause-unmet
returns-then-needed-task-clause-unmet c =
    let tasks = c.args.self.now.tasks.now in
    let attempt = c.args.self.now.attempt in
    let order = c.deref-place-items.result.now in
    let place = get_or order c.loop-place.place-index 0 in
    let o : Ordered tasks order = subst (λ (ps : List ℕ). Ordered tasks ps) (sym c.deref-place-items.ensures.0) c.places_by_rank-order.ensures.ordered in
    let e = needed_is attempt tasks _ place c.times.t _ _ (omega arith) c.demand_within-work.ensures.work c.demand_within-work.ensures.charge in
    let none = witness_none attempt tasks place c.times.t c.args.self.now.limits c.times.invariant.3 (omega (arith, e, c.if-needed-task.true)) in
    let long = ap (λ (ps : List ℕ). length ps) c.deref-place-items.ensures.0 in
    let k : c.loop-place.place-index < length tasks = omega (arith, long) in
    ap (option_map Unschedulable)
    (unmet_is attempt tasks place c.requires (o.entries _ k) (not_met attempt tasks place none)
    (λ other l r. met attempt tasks other _ (c.loop-place.invariant.1 other l (omega (arith, o.ranked _ k)))))
