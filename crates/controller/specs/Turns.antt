-- One tick of one job.
use Rattle.std.specs.Prelude.{ℕ, ◌+◌, ◌-◌, min, Bool, true, false, cond, Some, None, Option, ◌==◌, nat_lt}
use Rattle.shelf.specs.Models.{Model, reading_at, accepts, committed}
use Rattle.admission.specs.declared.plan.Word.{Word}
use Rattle.admission.specs.declared.plan.Word.TheVariants.{Put, Add}
use Rattle.admission.specs.declared.plan.Step.{Step}
use Rattle.admission.specs.declared.plan.Step.TheVariants.{Compute, Access}
use Rattle.controller.specs.declared.job.Job.{Job}
use Rattle.controller.specs.declared.job.JobState.{JobState}
use Rattle.controller.specs.declared.job.JobState.TheVariants.{Resting, Computing, Attempting}
use Rattle.controller.specs.declared.job.Event.{Event}
use Rattle.controller.specs.declared.job.Event.TheVariants.{Computed, Attempted, Committed, Retried, Idle}
use Rattle.controller.specs.declared.advance.Outcome.{Outcome}
use Rattle.controller.specs.declared.advance.Outcome.TheVariants.{UnderWay, Accepted, Refused}

-- the word that an access commits
abbrev pub word_of : Word → ℕ → ℕ → ℕ
word_of Put reading amount = amount
word_of Add reading amount = min (reading + amount) 4294967295

-- whether a job is pending
abbrev pub pending_in : JobState → Bool
pending_in Resting = false
pending_in (Computing left) = true
pending_in (Attempting left seen) = true

-- the ticks left of its present step, and the reading that it saw
abbrev pub left_in : JobState → ℕ
left_in Resting = 0
left_in (Computing left) = left
left_in (Attempting left seen) = left

abbrev pub seen_in : JobState → ℕ
seen_in Resting = 0
seen_in (Computing left) = 0
seen_in (Attempting left seen) = seen

-- a job at the start of a step, or at rest after the last
abbrev pub start_of : Option Step → JobState
start_of None = Resting
start_of (Some (Compute ticks)) = Computing ticks
start_of (Some (Access word ticks object amount)) = Attempting ticks 0

abbrev pub on_to : Job → Option Step → Job
on_to job next = record { state = start_of next; step = job.step + 1; released = job.released }

abbrev pub in_state : Job → JobState → Job
in_state job state = record { state = state; step = job.step; released = job.released }

-- what a tick leaves
pub record Turn : Type 0 where
  pub job : Job
  pub event : Event
  pub model : Model

-- the reading that an attempt goes by: its first tick looks, before anything else
abbrev pub goes_by : Model → JobState → Step → ℕ
goes_by model state (Compute ticks) = 0
goes_by model state (Access word ticks object amount) = cond (left_in state == ticks) (reading_at model object) (seen_in state)

abbrev pub brings : Step → ℕ → ℕ
brings (Compute ticks) reading = 0
brings (Access word ticks object amount) reading = word_of word reading amount

-- what comes of the attempt: the last tick commits
abbrev pub outcome_in : Model → ℕ → ℕ → ℕ → Outcome
outcome_in model left object reading = cond (nat_lt 1 left) UnderWay (cond (accepts model object reading) Accepted Refused)

abbrev pub outcome_of : Model → JobState → Step → ℕ → Outcome
outcome_of model Resting step reading = UnderWay
outcome_of model (Computing left) (Compute ticks) reading = UnderWay
outcome_of model (Computing left) (Access word ticks object amount) reading = outcome_in model left object reading
outcome_of model (Attempting left seen) (Compute ticks) reading = UnderWay
outcome_of model (Attempting left seen) (Access word ticks object amount) reading = outcome_in model left object reading

abbrev pub model_after : Outcome → Model → Step → ℕ → ℕ → Model
model_after UnderWay model step reading word = model
model_after Refused model step reading word = model
model_after Accepted model (Compute ticks) reading word = model
model_after Accepted model (Access w ticks object amount) reading word = committed model object reading word

-- the tick of a job in its present step, where the step after it is known
abbrev pub moved : Model → Job → Step → Option Step → ℕ → Outcome → Turn
moved model job (Compute ticks) next reading outcome =
    record {
      job = cond (nat_lt 1 (left_in job.state)) (in_state job (Computing (left_in job.state - 1))) (on_to job next);
      event = Computed;
      model = model;
    }
moved model job (Access word ticks object amount) next reading UnderWay =
    record { job = in_state job (Attempting (left_in job.state - 1) reading); event = Attempted; model = model }
moved model job (Access word ticks object amount) next reading Accepted =
    record {
      job = on_to job next;
      event = Committed object (word_of word reading amount);
      model = committed model object reading (word_of word reading amount);
    }
moved model job (Access word ticks object amount) next reading Refused =
    record { job = in_state job (Attempting ticks 0); event = Retried object; model = model }

abbrev pub turn : Model → Job → Step → Option Step → Turn
turn model job step next =
    cond (pending_in job.state)
    (moved model job step next (goes_by model job.state step) (outcome_of model job.state step (goes_by model job.state step)))
    (record { job = job; event = Idle; model = model })
