use Rattle.std.proofs.Common.{get_or}
use Rattle.admission.specs.Held.{held}
use Rattle.admission.specs.Tables.{no_adopted_task}
use Rattle.controller.specs.Choices.{no_job, pending_at, urgency_of}
use Rattle.controller.proofs.Choosing.{Kept}
use Rattle.controller.proofs.batch.OpenBatch.most_urgent.Given as goal

abbrev pub invariant-loop-place : goal.invariant-loop-place
invariant-loop-place l =
    Kept (pending_at l.self.jobs) (λ place. urgency_of (held l.table).rule (get_or (held l.table).tasks place no_adopted_task) (get_or l.self.jobs place no_job)) l.place l.best
