-- The job that is chosen is the most urgent in the order of its rule.
use Rattle.std.proofs.Common.{◌≡◌, ℕ, ◌+◌, ◌<◌, Bool, true, false, List, length, get_or, Some, sym, inl, inr, arith}
use Rattle.std.proofs.lemmas.Bool.{cases_order}
use Rattle.admission.specs.declared.plan.Rule.{Rule}
use Rattle.admission.specs.declared.plan.AdoptedTask.{AdoptedTask}
use Rattle.admission.specs.Tables.{goes_by_rank, no_adopted_task}
use Rattle.admission.specs.Tests.{Ranked}
use Rattle.schedule.specs.Batches.{ByDeadline, task_at}
use Rattle.controller.specs.declared.job.Job.{Job}
use Rattle.controller.specs.Choices.{no_job, pending_at, release_of, urgency_of, is_more_urgent, chosen}
use Rattle.controller.proofs.Choosing.{Best, best_of, best_chosen, Lower, Upper, lower_yes, lower_no}

module _ (rule : Rule) (tasks : List AdoptedTask) (jobs : List Job) where
  abbrev urgency : ℕ → ℕ × ℕ
  urgency place = urgency_of rule (get_or tasks place no_adopted_task) (get_or jobs place no_job)

  pub chosen_best : Best (pending_at jobs) urgency (length tasks) (chosen rule tasks jobs)
  chosen_best =
      let b = best_of (pending_at jobs) urgency (length tasks) in
      rw (best_chosen (pending_at jobs) urgency (length tasks) b.0 b.1) at b.1

  -- in the order of the rule it goes before every other pending job
  module _ (k : ℕ) (best : Best (pending_at jobs) urgency (length tasks) (Some k)) (apart : goes_by_rank rule ≡ true → Ranked tasks) (release : ℕ → ℕ) (known : (a : ℕ) → a < length tasks → release a ≡ release_of (get_or jobs a no_job)) where
    pub by_rank : goes_by_rank rule ≡ true → (b : ℕ) → b < length tasks → (b ≡ k → ⊥) → pending_at jobs b ≡ true → (task_at tasks k).rank < (task_at tasks b).rank
    by_rank r b l d p =
        let u : Upper ((task_at tasks b).rank, 0) ((task_at tasks k).rank, 0) = lower_no _ _ (ranks b (best.2 b l p)) in
        elim u [
          | inl x ↦ x
          | inr x ↦ absurd (d ((apart r).apart b k l best.0 (sym x.0)))
        ]
      where
        ranks : (b : ℕ) → is_more_urgent (urgency b) (urgency k) ≡ false → is_more_urgent ((task_at tasks b).rank, 0) ((task_at tasks k).rank, 0) ≡ false
        ranks b h = rw r at h

    pub by_deadline : goes_by_rank rule ≡ false → (b : ℕ) → b < length tasks → (b ≡ k → ⊥) → pending_at jobs b ≡ true → ByDeadline tasks k (release k) b (release b)
    by_deadline r b l d p =
        let x = known k best.0 in
        let y = known b l in
        let u : Upper (release_of (get_or jobs b no_job) + (task_at tasks b).deadline, release_of (get_or jobs b no_job)) (release_of (get_or jobs k no_job) + (task_at tasks k).deadline, release_of (get_or jobs k no_job)) =
        lower_no _ _ (dues b k (best.2 b l p)) in
        elim u [
          | inl z ↦ inl (omega (arith, x, y))
          | inr z ↦
              inr (
                omega (arith, x, y, z.0),
                elim (cases_order (release k) (release b)) [
                  | inl e ↦ inr (e, first b l d p (omega (arith, x, y, e)) z.0)
                  | inr (inl e) ↦ inl e
                  | inr (inr e) ↦ absurd (omega (arith, x, y, z.1))
                ],
              )
        ]
      where
        dues : (a c : ℕ) {v : Bool} → is_more_urgent (urgency a) (urgency c) ≡ v → is_more_urgent (release_of (get_or jobs a no_job) + (task_at tasks a).deadline, release_of (get_or jobs a no_job)) (release_of (get_or jobs c no_job) + (task_at tasks c).deadline, release_of (get_or jobs c no_job)) ≡ v
        dues a c h = rw r at h

        -- of equals the lower place goes first
        first : (b : ℕ) → b < length tasks → (b ≡ k → ⊥) → pending_at jobs b ≡ true → release_of (get_or jobs k no_job) ≡ release_of (get_or jobs b no_job) → release_of (get_or jobs k no_job) + (task_at tasks k).deadline ≡ release_of (get_or jobs b no_job) + (task_at tasks b).deadline → k < b
        first b l d p e f =
            elim (cases_order k b) [
              | inl i ↦ absurd (d (sym i))
              | inr (inl i) ↦ i
              | inr (inr i) ↦
                  let w : Lower (release_of (get_or jobs k no_job) + (task_at tasks k).deadline, release_of (get_or jobs k no_job)) (release_of (get_or jobs b no_job) + (task_at tasks b).deadline, release_of (get_or jobs b no_job)) =
                  lower_yes _ _ (dues k b (best.3 b i p)) in
                  absurd (elim w [ inl z ↦ (let c : ⊥ = omega arith in c) | inr z ↦ (let c : ⊥ = omega (arith, z.1) in c) ])
            ]
