-- Which pending job works.
use Rattle.std.specs.Prelude.{ℕ, ◌+◌, Bool, cond, not, ◌&&◌, ◌||◌, List, length, get_or, None, Option, ◌==◌, nat_lt, slice_index_or}
use Rattle.std.specs.Option.{unwrap_or}
use Rattle.admission.specs.declared.plan.Rule.{Rule}
use Rattle.admission.specs.declared.plan.AdoptedTask.{AdoptedTask}
use Rattle.admission.specs.Search.{first_below, some_below}
use Rattle.admission.specs.Tables.{goes_by_rank, no_adopted_task}
use Rattle.controller.specs.declared.job.Job.{Job}
use Rattle.controller.specs.declared.job.JobState.TheVariants.{Resting}
use Rattle.controller.specs.Turns.{pending_in}

-- the record of a place without a job
abbrev pub no_job : Job
no_job = record { state = Resting; step = 0; released = None }

abbrev pub pending_at : List Job → ℕ → Bool
pending_at jobs place = pending_in (get_or jobs place no_job).state

-- when the latest job was released
abbrev pub release_of : Job → ℕ
release_of job = unwrap_or job.released 0

-- The urgency of a job: its rank, or its absolute deadline and then its release. The lower goes first.
abbrev pub urgency_of : Rule → AdoptedTask → Job → ℕ × ℕ
urgency_of rule task job = cond (goes_by_rank rule) (task.rank, 0) (release_of job + task.deadline, release_of job)

abbrev pub is_more_urgent : ℕ × ℕ → ℕ × ℕ → Bool
is_more_urgent a b = nat_lt a.0 b.0 || (a.0 == b.0 && nat_lt a.1 b.1)

abbrev pub comes_before : Rule → List AdoptedTask → List Job → ℕ → ℕ → Bool
comes_before rule tasks jobs a b =
    is_more_urgent (urgency_of rule (slice_index_or tasks a no_adopted_task) (slice_index_or jobs a no_job)) (urgency_of rule (slice_index_or tasks b no_adopted_task) (slice_index_or jobs b no_job))

-- the lowest place whose job is pending, and before which no other pending job goes
abbrev pub chosen : Rule → List AdoptedTask → List Job → Option ℕ
chosen rule tasks jobs =
    first_below (length tasks) (λ place.
    pending_at jobs place
    && not (some_below (length tasks) (λ other. comes_before rule tasks jobs other place && pending_at jobs other)))
