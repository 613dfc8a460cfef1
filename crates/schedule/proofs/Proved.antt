-- The theorems under each rule.
use Rattle.std.proofs.Common.{◌≡◌, ℕ, ◌<◌, ◌≤◌, List, length, inl, inr, arith}
use Rattle.std.proofs.lemmas.Bool.{cases_lt}
use Rattle.admission.specs.declared.plan.Rule.{Rule}
use Rattle.admission.specs.declared.plan.Rule.TheVariants.{RateMonotonic, DeadlineMonotonic, EarliestDeadlineFirst}
use Rattle.admission.specs.declared.plan.AdoptedTask.{AdoptedTask}
use Rattle.schedule.specs.Batches.{Batch, Order, MayRelease, Run, order_of, task_at}
use Rattle.schedule.specs.Theorems.{Admitted, InTime, KeepsDeadlines, RecordsRun}
use Rattle.schedule.proofs.Moments.{Asymmetric, run_sound}
use Rattle.schedule.proofs.Ranks.{rank_asymmetric, deadlines_by_rank_lem}
use Rattle.schedule.proofs.Deadlines.{deadline_asymmetric, deadlines_earliest_first_lem}
use Rattle.schedule.proofs.Records.{records_run_lem}

-- under no rule do two jobs each go before the other
pub order_asymmetric : (rule : Rule) (tasks : List AdoptedTask) → Asymmetric (order_of rule tasks)
order_asymmetric RateMonotonic tasks = rank_asymmetric tasks
order_asymmetric DeadlineMonotonic tasks = rank_asymmetric tasks
order_asymmetric EarliestDeadlineFirst tasks = deadline_asymmetric tasks

-- under every rule deadlines are kept
pub deadlines_kept : (rule : Rule) → KeepsDeadlines (Admitted rule) (order_of rule)
deadlines_kept RateMonotonic = deadlines_by_rank_lem
deadlines_kept DeadlineMonotonic = deadlines_by_rank_lem
deadlines_kept EarliestDeadlineFirst = deadlines_earliest_first_lem

-- a pending job has not come to its deadline, so it has finished once a gap no shorter than that has gone by
pub finished_after : {attempt : ℕ} {tasks : List AdoptedTask} {Before : Order} {v : Batch}
    → Run attempt tasks Before v → InTime tasks v
    → (a gap : ℕ) → a < length tasks → (task_at tasks a).deadline ≤ gap → MayRelease gap v.clock (v.releases a) → v.left a ≡ 0
finished_after r h a gap l short (inl e) = (run_sound r).unreleased a l e
finished_after {v = v} r h a gap l short (inr e) =
    elim (cases_lt 0 (v.left a)) [
      | inl m ↦ absurd (omega (arith, h a l m))
      | inr m ↦ omega arith
    ]

-- under every rule a run of records is a run of the batch
pub runs_of_records : (rule : Rule) → RecordsRun (order_of rule)
runs_of_records rule attempt tasks plans ok m r = records_run_lem ok r
