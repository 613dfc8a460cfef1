-- A controller's record of a place, as the theory of runs has it, and one tick of it.
use Rattle.std.proofs.Common.{◌≡◌, ℕ, zero, suc, Bool, true, false, not, eqb, List, [], ◌∷◌, drop, sym, refl, ◌∙◌, inl, inr, arith}
use Rattle.std.specs.List.{slice_get}
use Rattle.std.proofs.lemmas.Bool.{cases_eq, le-ltb, eq-eqb, ne_eqb}
use Rattle.shelf.specs.Models.{Model, reading_at, accepts}
use Rattle.admission.specs.declared.plan.Word.{Word}
use Rattle.admission.specs.declared.plan.Step.{Step}
use Rattle.admission.specs.declared.plan.Step.TheVariants.{Compute, Access}
use Rattle.schedule.specs.Jobs as theory
use Rattle.schedule.specs.Jobs.{resting, computing, attempting, begun, is_at_rest, in_attempt, refused, after_tick, bit}
use Rattle.controller.specs.declared.job.Job.{Job}
use Rattle.controller.specs.declared.job.JobState.{JobState}
use Rattle.controller.specs.declared.job.JobState.TheVariants.{Resting, Computing, Attempting}
use Rattle.controller.specs.Turns.{Turn, pending_in, left_in, seen_in, start_of, outcome_in, outcome_of}
use Rattle.controller.specs.Machines.{one, is_retry_event}
use Rattle.runs.specs.Ledger.{Book, is_done, left_after, contents_after, working, after_event}
use Rattle.runs.specs.Laws.{EventFits}

pub twice : (b : Bool) → not (not b) ≡ b
twice true = refl
twice false = refl

-- a job in its present step, the first of those that are left
abbrev pub in_step : ℕ → ℕ → List Step → theory.Job
in_step left seen [] = resting
in_step left seen (Compute n ∷ later) = computing left later
in_step left seen (Access word n object amount ∷ later) = attempting left word n object amount seen later

abbrev pub in_state : JobState → List Step → theory.Job
in_state Resting steps = resting
in_state (Computing left) steps = in_step left 0 steps
in_state (Attempting left seen) steps = in_step left seen steps

abbrev pub view_of : List Step → Job → theory.Job
view_of plan job = in_state job.state (drop job.step plan)

-- what is left of a job, as the ledger has it
abbrev pub left_in' : theory.Job → List Step
left_in' resting = []
left_in' (computing left later) = Compute left ∷ later
left_in' (attempting left word n object amount seen later) = Access word n object amount ∷ later

pub left_begun : (steps : List Step) → left_in' (begun steps) ≡ steps
left_begun [] = refl
left_begun (Compute n ∷ later) = refl
left_begun (Access word n object amount ∷ later) = refl

pub done_rest : (job : theory.Job) → is_done (left_in' job) ≡ is_at_rest job
done_rest resting = refl
done_rest (computing left later) = refl
done_rest (attempting left word n object amount seen later) = refl

pub rest_is : (job : theory.Job) → is_at_rest job ≡ true → job ≡ resting
rest_is resting h = refl
rest_is (computing left later) h = cc
rest_is (attempting left word n object amount seen later) h = cc

-- a job at the start of its steps
pub started : (steps : List Step) → in_state (start_of (slice_get steps 0)) steps ≡ begun steps
started [] = refl
started (Compute n ∷ later) = refl
started (Access word n object amount ∷ later) = refl

pub started_shown : (steps : List Step) → pending_in (start_of (slice_get steps 0)) ≡ not (is_at_rest (begun steps))
started_shown [] = refl
started_shown (Compute n ∷ later) = refl
started_shown (Access word n object amount ∷ later) = refl

-- a job that starts on steps is not inside an attempt
pub begun_outside : (steps : List Step) → in_attempt (begun steps) ≡ false
begun_outside [] = refl
begun_outside (Compute n ∷ later) = refl
begun_outside (Access word n object amount ∷ later) = le-ltb n n (omega arith)

pub pending_view : (state : JobState) (steps : List Step) → pending_in state ≡ true → in_state state steps ≡ in_step (left_in state) (seen_in state) steps
pending_view Resting steps h = cc
pending_view (Computing left) steps h = refl
pending_view (Attempting left seen) steps h = refl

pub pending_outcome : (model : Model) (state : JobState) (word : Word) (n object amount reading : ℕ) → pending_in state ≡ true → outcome_of model state (Access word n object amount) reading ≡ outcome_in model (left_in state) object reading
pending_outcome model Resting word n object amount reading h = cc
pending_outcome model (Computing left) word n object amount reading h = refl
pending_outcome model (Attempting left seen) word n object amount reading h = refl

eqb_swap : (a b : ℕ) → eqb a b ≡ eqb b a
eqb_swap a b =
    elim (cases_eq a b) [
      | inl e ↦ eq-eqb a b e ∙ sym (eq-eqb b a (sym e))
      | inr d ↦ ne_eqb a b d ∙ sym (ne_eqb b a (λ e. d (sym e)))
    ]

-- on an object that exists, a commit is accepted exactly when the reading brought is the present one
pub accepts_is : (model : Model) (object reading : ℕ) → model.rules.exists object ≡ true → accepts model object reading ≡ eqb reading (reading_at model object)
accepts_is model object reading h = rw h (eqb_swap (model.rules.reading object (model.contents object)) reading)

-- the objects of accesses exist
abbrev pub ObjectsExist : (ℕ → Bool) → List Step → Type 0
ObjectsExist exists [] = Unit {0}
ObjectsExist exists (Compute n ∷ later) = ObjectsExist exists later
ObjectsExist exists (Access word n object amount ∷ later) = (exists object ≡ true) × ObjectsExist exists later

pub objects_drop : (exists : ℕ → Bool) (k : ℕ) (steps : List Step) → ObjectsExist exists steps → ObjectsExist exists (drop k steps)
objects_drop exists zero steps h = h
objects_drop exists (suc k) [] h = h
objects_drop exists (suc k) (Compute n ∷ later) h = objects_drop exists k later h
objects_drop exists (suc k) (Access word n object amount ∷ later) h = objects_drop exists k later h.1

-- What a turn of a pending job amounts to, where `step` is the first of the steps left and `later` come after it.
pub record Turned (model : Model) (plan : List Step) (job : Job) (t : Turn) : Type 0 where
  pub view : view_of plan t.job ≡ after_tick (reading_at model) (view_of plan job)
  pub shown : pending_in t.job.state ≡ not (is_at_rest (view_of plan t.job))
  pub retry : one (is_retry_event t.event) ≡ bit (refused (reading_at model) (view_of plan job))
  pub left : left_after t.event (left_in' (view_of plan job)) ≡ left_in' (view_of plan t.job)
  pub fits : EventFits model t.event (left_in' (view_of plan job))
  pub contents : contents_after t.event model (left_in' (view_of plan job)) ≡ t.model
  pub quiet : in_attempt (view_of plan t.job) ≡ true → t.model ≡ model
  pub rules : t.model.rules ≡ model.rules
  pub worked : (book : Book) (place : ℕ) → after_event book place t.event ≡ working book place t.event
  pub released : t.job.released ≡ job.released
