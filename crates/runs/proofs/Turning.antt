-- One tick of a pending job: the controller's record, the theory's and the ledger's move alike.
use Rattle.std.proofs.Common.{◌≡◌, ℕ, ◌+◌, ◌-◌, Bool, true, false, cond, not, ◌&&◌, eqb, ltb, List, ◌∷◌, drop, sym, refl, ap, ◌∙◌, inl, inr}
use Rattle.std.specs.List.{slice_get}
use Rattle.std.proofs.lemmas.Bool.{cases_Bool, both_ways, eqb-true, cond-true, cond-false}
use Rattle.shelf.specs.Models.{Model, reading_at, accepts, committed, changed}
use Rattle.admission.specs.declared.plan.Word.{Word}
use Rattle.admission.specs.declared.plan.Step.{Step}
use Rattle.admission.specs.declared.plan.Step.TheVariants.{Compute, Access}
use Rattle.schedule.specs.Jobs as theory
use Rattle.schedule.specs.Jobs.{resting, computing, attempting, begun, is_at_rest, in_attempt, refused, after_tick, bit}
use Rattle.controller.specs.declared.job.Job.{Job}
use Rattle.controller.specs.declared.job.JobState.TheVariants.{Computing, Attempting}
use Rattle.controller.specs.declared.job.Event.TheVariants.{Computed, Attempted, Committed, Retried}
use Rattle.controller.specs.declared.advance.Outcome.{Outcome}
use Rattle.controller.specs.declared.advance.Outcome.TheVariants.{UnderWay, Accepted, Refused}
use Rattle.controller.specs.Turns.{Turn, word_of, pending_in, left_in, seen_in, start_of, on_to, goes_by, outcome_in, outcome_of, moved, turn}
use Rattle.controller.specs.Turns as turns
use Rattle.controller.specs.Machines.{one, is_retry_event}
use Rattle.runs.specs.Ledger.{Book, left_after, contents_after, working, after_event}
use Rattle.runs.specs.Laws.{EventFits}
use Rattle.runs.proofs.Views.{in_step, in_state, view_of, left_in', left_begun, started, started_shown, begun_outside, pending_view, pending_outcome, accepts_is, ObjectsExist, Turned}

-- the facts of a turn, said of the views before and after
record Facts (model : Model) (before after : theory.Job) (t : Turn) : Type 0 where
  tick : after ≡ after_tick (reading_at model) before
  shown : pending_in t.job.state ≡ not (is_at_rest after)
  retry : one (is_retry_event t.event) ≡ bit (refused (reading_at model) before)
  left : left_after t.event (left_in' before) ≡ left_in' after
  fits : EventFits model t.event (left_in' before)
  contents : contents_after t.event model (left_in' before) ≡ t.model
  quiet : in_attempt after ≡ true → t.model ≡ model
  rules : t.model.rules ≡ model.rules
  worked : (book : Book) (place : ℕ) → after_event book place t.event ≡ working book place t.event

module _ (model : Model) (plan : List Step) (job : Job) where
  told : (t : Turn) (before after : theory.Job) → view_of plan job ≡ before → view_of plan t.job ≡ after → t.job.released ≡ job.released → Facts model before after t → Turned model plan job t
  told t before after v w r f =
      record {
        view = rw (w, v) f.tick;
        shown = rw w f.shown;
        retry = rw v f.retry;
        left = rw (v, w) f.left;
        fits = rw v f.fits;
        contents = rw v f.contents;
        quiet = rw w f.quiet;
        rules = f.rules;
        worked = f.worked;
        released = r;
      }

  abbrev L : ℕ
  L = left_in job.state

  -- computing
  module _ (n : ℕ) (later : List Step) (pending : pending_in job.state ≡ true) (here : drop job.step plan ≡ Compute n ∷ later) (rest : drop (job.step + 1) plan ≡ later) where
    computed : (reading : ℕ) (outcome : Outcome) → Turned model plan job (moved model job (Compute n) (slice_get later 0) reading outcome)
    computed reading outcome =
        elim (cases_Bool (ltb 1 L)) [
          | inl h ↦
              rw h
              (told (record { job = turns.in_state job (Computing (L - 1)); event = Computed; model = model }) (computing L later) (computing (L - 1) later)
              (pending_view job.state (drop job.step plan) pending ∙ ap (in_step L (seen_in job.state)) here)
              (ap (in_step (L - 1) 0) here)
              refl
              (record {
                tick = sym (cond-true (ltb 1 L) (computing (L - 1) later) (begun later) h);
                shown = refl;
                retry = refl;
                left = cond-true (ltb 1 L) (Compute (L - 1) ∷ later) later h;
                fits = tt;
                contents = refl;
                quiet = λ _. refl;
                rules = refl;
                worked = λ _ _. refl;
              }))
          | inr h ↦
              rw h
              (told (record { job = on_to job (slice_get later 0); event = Computed; model = model }) (computing L later) (begun later)
              (pending_view job.state (drop job.step plan) pending ∙ ap (in_step L (seen_in job.state)) here)
              (ap (in_state (start_of (slice_get later 0))) rest ∙ started later)
              refl
              (record {
                tick = sym (cond-false (ltb 1 L) (computing (L - 1) later) (begun later) h);
                shown = started_shown later;
                retry = refl;
                left = cond-false (ltb 1 L) (Compute (L - 1) ∷ later) later h ∙ sym (left_begun later);
                fits = tt;
                contents = refl;
                quiet = λ _. refl;
                rules = refl;
                worked = λ _ _. refl;
              }))
        ]

  -- an access
  module _ (word : Word) (n object amount : ℕ) (later : List Step) (pending : pending_in job.state ≡ true) (here : drop job.step plan ≡ Access word n object amount ∷ later) (rest : drop (job.step + 1) plan ≡ later) (exists : model.rules.exists object ≡ true) where
    abbrev seen : ℕ
    seen = seen_in job.state

    abbrev reading : ℕ
    reading = goes_by model job.state (Access word n object amount)

    abbrev now : ℕ
    now = reading_at model object

    abbrev before : theory.Job
    before = attempting L word n object amount seen later

    view_before : view_of plan job ≡ before
    view_before = pending_view job.state (drop job.step plan) pending ∙ ap (in_step L seen) here

    under_way : ltb 1 L ≡ true → Turned model plan job (moved model job (Access word n object amount) (slice_get later 0) reading UnderWay)
    under_way h =
        told (record { job = turns.in_state job (Attempting (L - 1) reading); event = Attempted; model = model }) before (attempting (L - 1) word n object amount reading later)
        view_before
        (ap (in_step (L - 1) reading) here)
        refl
        (record {
          tick = sym (cond-true (ltb 1 L) (attempting (L - 1) word n object amount reading later) _ h);
          shown = refl;
          retry = sym (ap bit (ap (λ (b : Bool). not b && not (eqb reading now)) h));
          left = refl;
          fits = tt;
          contents = refl;
          quiet = λ _. refl;
          rules = refl;
          worked = λ _ _. refl;
        })

    -- the commit is accepted: the reading brought is the present one
    accepted : ltb 1 L ≡ false → eqb reading now ≡ true → Turned model plan job (moved model job (Access word n object amount) (slice_get later 0) reading Accepted)
    accepted h e =
        let same : reading ≡ now = eqb-true reading now e in
        let yes : accepts model object reading ≡ true = accepts_is model object reading exists ∙ e in
        told (record { job = on_to job (slice_get later 0); event = Committed object (word_of word reading amount); model = committed model object reading (word_of word reading amount) }) before (begun later)
        view_before
        (ap (in_state (start_of (slice_get later 0))) rest ∙ started later)
        refl
        (record {
          tick = sym (cond-false (ltb 1 L) _ _ h ∙ cond-true (eqb reading now) (begun later) (attempting n word n object amount 0 later) e);
          shown = started_shown later;
          retry = sym (ap bit (ap (λ (b : Bool). not b && not (eqb reading now)) h ∙ ap not e));
          left = sym (left_begun later);
          fits = (refl, ap (λ (r : ℕ). word_of word r amount) same);
          contents =
              ap (λ (r : ℕ). record { rules = model.rules; contents = changed model object (word_of word r amount) }) (sym same)
              ∙ ap (λ (b : Bool). record { rules = model.rules; contents = cond b (changed model object (word_of word reading amount)) model.contents }) (sym yes);
          quiet = λ q. absurd (both_ways (in_attempt (begun later)) (begun_outside later) q);
          rules = refl;
          worked = λ _ _. refl;
        })

    -- it is refused: the attempt is made again
    turned_away : ltb 1 L ≡ false → eqb reading now ≡ false → Turned model plan job (moved model job (Access word n object amount) (slice_get later 0) reading Refused)
    turned_away h e =
        told (record { job = turns.in_state job (Attempting n 0); event = Retried object; model = model }) before (attempting n word n object amount 0 later)
        view_before
        (ap (in_step n 0) here)
        refl
        (record {
          tick = sym (cond-false (ltb 1 L) _ _ h ∙ cond-false (eqb reading now) (begun later) (attempting n word n object amount 0 later) e);
          shown = refl;
          retry = sym (ap bit (ap (λ (b : Bool). not b && not (eqb reading now)) h ∙ ap not e));
          left = refl;
          fits = refl;
          contents = refl;
          quiet = λ _. refl;
          rules = refl;
          worked = λ _ _. refl;
        })

    attempted : Turned model plan job (moved model job (Access word n object amount) (slice_get later 0) reading (outcome_of model job.state (Access word n object amount) reading))
    attempted =
        rw (pending_outcome model job.state word n object amount reading pending)
        (elim (cases_Bool (ltb 1 L)) [
          | inl h ↦ rw h (under_way h)
          | inr h ↦
              elim (cases_Bool (eqb reading now)) [
                | inl e ↦ rw (h, accepts_is model object reading exists, e) (accepted h e)
                | inr e ↦ rw (h, accepts_is model object reading exists, e) (turned_away h e)
              ]
        ])

  pub turned : (step : Step) (later : List Step) → pending_in job.state ≡ true → drop job.step plan ≡ step ∷ later → drop (job.step + 1) plan ≡ later → ObjectsExist model.rules.exists (step ∷ later) → Turned model plan job (turn model job step (slice_get later 0))
  turned (Compute n) later pending here rest objects = rw pending (computed n later pending here rest 0 UnderWay)
  turned (Access word n object amount) later pending here rest objects = rw pending (attempted word n object amount later pending here rest objects.0)
