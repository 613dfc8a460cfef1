use Rattle.std.proofs.Common.{◌≡◌, ℕ, zero, suc, ◌≤◌, List, length, take, refl, ◌∙◌, subst, inl, inr, add-one, arith, rules}
use Rattle.std.proofs.iter.runs.Made.{chains}
use Rattle.std.proofs.lemmas.Bool.{cases_Bool}
use Rattle.std.proofs.lemmas.List.Sums.{count_by_more_yes, count_by_more_no}
use Rattle.std.specs.List.{count_by}
use Rattle.admission.specs.declared.plan.AdoptedTask.{AdoptedTask}
use Rattle.admission.specs.Held.{held}
use Rattle.admission.specs.Search.{count_below}
use Rattle.admission.proofs.Ranges.{count_yes, count_no}
use Rattle.controller.specs.declared.job.Job.{Job}
use Rattle.controller.specs.Choices.{no_job, pending_at}
use Rattle.controller.specs.Turns.{pending_in}
use Rattle.controller.proofs.batch.OpenBatch.count_pending.Goals as goal

-- the pending jobs among the first are those at the first places
counted_below : (jobs : List Job) (n : ℕ) → n ≤ length jobs → count_by (λ (j : Job). pending_in j.state) (take n jobs) ≡ count_below n (pending_at jobs)
counted_below jobs zero h = refl
counted_below jobs (suc n) h =
    let below = counted_below jobs n (omega arith) in
    elim (cases_Bool (pending_at jobs n)) [
      | inl e ↦ rw add-one at (count_by_more_yes (λ (j : Job). pending_in j.state) jobs n no_job (omega arith) e ∙ count_yes (pending_at jobs) n _ below e)
      | inr e ↦ rw add-one at (count_by_more_no (λ (j : Job). pending_in j.state) jobs n no_job (omega arith) e ∙ count_no (pending_at jobs) n _ below e)
    ]

pub returns : goal.returns
returns c =
    let count = length (held c.args.table.now).tasks in
    let counted : c.count.result ≡ count_by (λ (j : Job). pending_in j.state) (take count c.args.self.now.jobs) = search (rules, chains) in
    let few : count ≤ 32 = subst (λ (tasks : List AdoptedTask). length tasks ≤ 32) c.tasks.ensures.are c.tasks.ensures.few in
    counted ∙ counted_below c.args.self.now.jobs count (omega (arith, few))
