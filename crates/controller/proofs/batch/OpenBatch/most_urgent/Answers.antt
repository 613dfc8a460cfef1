use Rattle.std.proofs.Common.{◌≡◌, ℕ, Bool, true, false, IfSome, Some, None, Option, List, length, get_or, sym, subst, rules, tests, arith, ◌∙◌}
use Rattle.std.specs.Bool.{IsTrue}
use Rattle.std.specs.Option.{MatchOption, option_map}
use Rattle.admission.specs.declared.plan.AdoptedTask.{AdoptedTask}
use Rattle.admission.specs.Held.{held}
use Rattle.admission.specs.Tables.{no_adopted_task}
use Rattle.controller.specs.Choices.{no_job, pending_at, urgency_of, is_more_urgent}
use Rattle.controller.proofs.Choosing.{Best, kept_more, kept_stays, best_chosen}
use Rattle.controller.proofs.batch.OpenBatch.most_urgent.Goals as goal
use Rattle.controller.proofs.batch.OpenBatch.most_urgent.Goals.{then-is_none_or, else-is_none_or}

sooner_than_all : (o : Option (ℕ × (ℕ × ℕ))) (u : ℕ × ℕ) (r : Bool) {P : ℕ × (ℕ × ℕ) → Type 0} → MatchOption o (IsTrue r) P → ((b : ℕ × (ℕ × ℕ)) → P b → r ≡ is_more_urgent u b.1) → r ≡ true → IfSome o (λ b. is_more_urgent u b.1 ≡ true)
sooner_than_all None u r h said e = tt
sooner_than_all (Some b) u r h said e = sym (said b h) ∙ e

later_than_one : (o : Option (ℕ × (ℕ × ℕ))) (u : ℕ × ℕ) (r : Bool) {P : ℕ × (ℕ × ℕ) → Type 0} → MatchOption o (IsTrue r) P → ((b : ℕ × (ℕ × ℕ)) → P b → r ≡ is_more_urgent u b.1) → r ≡ false → MatchOption o ⊥ (λ b. is_more_urgent u b.1 ≡ false)
later_than_one None u r h said e = search (rules, tests)
later_than_one (Some b) u r h said e = sym (said b h) ∙ e

pub loop-place-preserved : goal.loop-place-preserved
loop-place-preserved c =
    let table = held c.args.table.now in
    let u = c.urgency-urgency.result in
    let keyed : u ≡ urgency_of table.rule (get_or table.tasks c.loop-place.place no_adopted_task) (get_or c.args.self.now.jobs c.loop-place.place no_job) = cc in
    elim c.if-is_none_or.branch [
      | then-is_none_or w ↦
          rw w.best-is
          (kept_more _ _ c.loop-place.place c.loop-place.best u c.loop-place.invariant (sym c.is_pending.ensures ∙ c.if-not-is_pending.false) keyed
          (sooner_than_all c.loop-place.best u c.is_none_or.result c.is_none_or.ensures (λ b p. search (rules, tests)) w.if-is_none_or.true))
      | else-is_none_or w ↦
          rw w.best-is
          (kept_stays _ _ c.loop-place.place c.loop-place.best u c.loop-place.invariant keyed
          (later_than_one c.loop-place.best u c.is_none_or.result c.is_none_or.ensures (λ b p. search (rules, tests)) w.if-is_none_or.false))
    ]

pub returns-clause-is : goal.returns-clause-is
returns-clause-is c =
    let table = held c.args.table.now in
    let jobs = c.args.self.now.jobs in
    let urgency : ℕ → ℕ × ℕ = λ place. urgency_of table.rule (get_or table.tasks place no_adopted_task) (get_or jobs place no_job) in
    let placed : c.map.result ≡ option_map (λ (b : ℕ × (ℕ × ℕ)). b.0) c.loop-place.best = search rules in
    let all : c.loop-place.place ≡ length table.tasks =
    subst (λ (tasks : List AdoptedTask). c.loop-place.place ≡ length tasks) c.tasks-task-items.ensures.are (omega arith) in
    placed
    ∙ best_chosen (pending_at jobs) urgency (length table.tasks) _
    (subst (λ (n : ℕ). Best (pending_at jobs) urgency n (option_map (λ (b : ℕ × (ℕ × ℕ)). b.0) c.loop-place.best)) all c.loop-place.invariant.best)
