-- One call: its answer fits the ledger, and ledger and controller agree again.
use Rattle.std.proofs.Common.{◌≡◌, ℕ, ◌+◌, ◌<◌, Bool, true, false, cond, not, ltb, List, [], ◌∷◌, ◌++◌, length, get_or, Some, None, Ok, Err, Option, Result, sym, refl, ap, ◌∙◌, inl, inr, arith}
use Rattle.std.specs.List.{slice_get}
use Rattle.std.proofs.lemmas.List.{get_or-replicate}
use Rattle.std.proofs.lemmas.Bool.{cases_Bool, ltb-true, ltb-false, not-true}
use Rattle.shelf.specs.Models.{Model}
use Rattle.admission.specs.declared.task.Segment.{Segment}
use Rattle.admission.specs.declared.task.Task.{Task}
use Rattle.admission.specs.declared.plan.Rule.{Rule}
use Rattle.admission.specs.declared.refusal.Refusal.{Refusal}
use Rattle.admission.specs.declared.refusal.Refusal.TheVariants.{NoPlace, TooSoon, Unfinished, ClockEnd, VoidToken}
use Rattle.admission.specs.Tables.{Table, plan_at, no_adopted_task}
use Rattle.admission.specs.Verdicts.{asked, first_no, unless, rule_of_number, table_of, verdict}
use Rattle.admission.specs.Verdicts as verdicts
use Rattle.admission.proofs.Exact.{first_no_left, first_no_right, asked_yes}
use Rattle.schedule.specs.Jobs.{opened, is_at_rest}
use Rattle.controller.specs.declared.job.Sums.{Sums}
use Rattle.controller.specs.Turns.{Turn, turn}
use Rattle.controller.specs.Choices.{no_job, pending_at, urgency_of, chosen}
use Rattle.controller.specs.Machines.{Batch, Machine, new_machine, fresh_batch, spaced, release_no, released_in, with_release, Tick, tick_of, choice_tick, step_tick, idle_tick, turn_tick, ticking_in, ticked_in}
use Rattle.controller.specs.Machines as machines
use Rattle.controller.proofs.Choosing.{Best}
use Rattle.runs.specs.declared.calls.Answer.TheVariants.{Closed, Worked, NoToken, Refused}
use Rattle.runs.specs.Entries.{Entry, adopts, opens, releases, ticks, closes, reads, demands, answered, stepped, held_after, lists_after, without, good_in, adopt_answer_of, release_answer_of, tick_answer, close_answer_of}
use Rattle.runs.specs.Ledger.{Book, Ledger, start, fresh_book, feed, feed_tick, is_done, left_of, release_of, with_table, contents_after, after_event, working, idling}
use Rattle.runs.specs.Laws.{Fits, written_by, close_fits, AnswerFits, TickFits}
use Rattle.runs.proofs.Views.{twice, Turned, objects_drop}
use Rattle.runs.proofs.Turning.{turned}
use Rattle.runs.proofs.Tables.{TableSound, empty_sound, verdict_taken}
use Rattle.runs.proofs.Agree.{view_at, BatchAgrees, BookAgrees, ledger_of, Agrees}
use Rattle.runs.proofs.Keeping.{sums_are, done_is}
use Rattle.runs.proofs.Releasing.{with_job, release_agrees}
use Rattle.runs.proofs.Ticking.{idle_agrees, idle_fits, steps_of, nth_drop, drop_next, work_agrees, work_fits, worked_fits}
use Rattle.runs.proofs.Tokens.{good_push, good_without}
use Rattle.runs.proofs.Urgent.{chosen_best}

-- one call: its answer fits, the lists that it leaves are the ledger's, and ledger and controller agree again
pub record Stepping (L : Ledger) (m : Machine) (hs : List Bool) (e : Entry) : Type 0 where
  pub fits : Fits L e (answered m hs e)
  pub lists : lists_after m e ≡ written_by L e
  pub next : Agrees (feed L e (answered m hs e)) (stepped m hs e) (held_after m hs e)

agree : (m : Machine) (book : Option Book) (hs : List Bool) → TableSound m.model.rules m.table → BookAgrees m.model m.table hs book m.batch → Agrees (ledger_of m book hs) m hs
agree m book hs sound B = record { book = book; is = refl; model_is = refl; held_is = refl; sound = sound; agrees = B }

pub start_agrees : (model : Model) → Agrees (start model) (new_machine model) []
start_agrees model = agree (new_machine model) None [] (empty_sound model.rules) refl

-- a batch just opened
fresh_agrees : (model : Model) (table : Table) → TableSound model.rules table → BatchAgrees model table fresh_book fresh_batch
fresh_agrees model table sound =
    record {
      run = opened (record {
        clock_is = refl;
        releases_are = λ a l. refl;
        jobs_are = λ a l. rw (blank a l) refl;
        last_is = refl;
        retries_is = refl;
        preemptions_is = refl;
      });
      long = refl;
      early = omega arith;
      clock_is = refl;
      left_is = λ a l. rw (blank a l) refl;
      pending_is = λ a l. rw (blank a l) refl;
      released_is = λ a l. rw (blank a l) refl;
      latest = tt;
      placed = tt;
      past = tt;
      counted = λ a l. omega arith;
      last_is = refl;
      worker = λ w e. cc;
      retries_is = refl;
      preemptions_is = refl;
      finished_is = refl;
      releases_is = refl;
    }
  where
    blank : (a : ℕ) → a < length table.tasks → get_or fresh_batch.jobs a no_job ≡ no_job
    blank a l = get_or-replicate 32 a no_job no_job (omega (arith, sound.few))

module _ (model : Model) (table : Table) (hs : List Bool) (sound : TableSound model.rules table) where
  abbrev at : Option Batch → Machine
  at batch = record { model = model; table = table; batch = batch }

  same : (book : Option Book) (batch : Option Batch) → BookAgrees model table hs book batch → Agrees (ledger_of (at batch) book hs) (at batch) hs
  same book batch B = agree (at batch) book hs sound B

  -- adopt
  adopt_next : (rule : ℕ) (tasks : List Task) (segments : List Segment) (v : Result Table Refusal) → good_in hs ≡ 0 → verdict model.rules rule tasks segments ≡ v
      → Agrees (feed (ledger_of (at None) None hs) (adopts rule tasks segments) (adopt_answer_of (verdicts.answered v))) (record { model = model; table = verdicts.held_after v table; batch = None }) hs
  adopt_next rule tasks segments (Err e) g h = same None None g
  adopt_next rule tasks segments (Ok taken) g h =
      let t = verdict_taken model.rules rule tasks segments taken h in
      let is = ap (λ (o : Option Rule). with_table (ledger_of (at None) None hs) o tasks segments) t.known
      ∙ ap (λ (x : Table). record { model = model; table = x; book = None; held = hs }) (sym t.is) in
      record {
        book = None;
        is = is;
        model_is = ap (λ (L : Ledger). L.model) is;
        held_is = ap (λ (L : Ledger). L.held) is;
        sound = t.sound;
        agrees = g;
      }

  adopt_at : (rule : ℕ) (tasks : List Task) (segments : List Segment) (book : Option Book) (batch : Option Batch) → BookAgrees model table hs book batch → Stepping (ledger_of (at batch) book hs) (at batch) hs (adopts rule tasks segments)
  adopt_at rule tasks segments None None B = record { fits = refl; lists = refl; next = adopt_next rule tasks segments (verdict model.rules rule tasks segments) B refl }
  adopt_at rule tasks segments None (Some batch) B = absurd B
  adopt_at rule tasks segments (Some book) None B = absurd B
  adopt_at rule tasks segments (Some book) (Some batch) B = record { fits = refl; lists = refl; next = same (Some book) (Some batch) B }

  -- open
  open_at : (book : Option Book) (batch : Option Batch) → BookAgrees model table hs book batch → Stepping (ledger_of (at batch) book hs) (at batch) hs opens
  open_at None None B =
      record { fits = refl; lists = refl; next = agree (at (Some fresh_batch)) (Some fresh_book) (hs ++ true ∷ []) sound (omega (arith, good_push hs true, B), fresh_agrees model table sound) }
  open_at None (Some batch) B = absurd B
  open_at (Some book) None B = absurd B
  open_at (Some book) (Some batch) B = record { fits = refl; lists = refl; next = agree (at (Some batch)) (Some book) (hs ++ false ∷ []) sound (omega (arith, good_push hs false, B.0), B.1) }

  -- close
  close_fits_book : (i : ℕ) (in_range good : Bool) (book : Option Book) (batch : Option Batch) → BookAgrees model table hs book batch
      → cond in_range (close_answer_of (machines.closing (at batch) good)) NoToken ≡ cond in_range (cond good (close_fits book) (Refused VoidToken)) NoToken
  close_fits_book i false good book batch B = refl
  close_fits_book i true false book batch B = refl
  close_fits_book i true true None None B = refl
  close_fits_book i true true None (Some batch) B = absurd B
  close_fits_book i true true (Some book) None B = absurd B
  close_fits_book i true true (Some book) (Some batch) B = ap (λ (s : Sums). Closed s) (sums_are model table book batch sound B.1)

  close_next : (i : ℕ) (in_range good : Bool) (book : Option Book) (batch : Option Batch) → ltb i (length hs) ≡ in_range → get_or hs i false ≡ good → BookAgrees model table hs book batch
      → Agrees (feed (ledger_of (at batch) book hs) (closes i) (cond in_range (close_answer_of (machines.closing (at batch) good)) NoToken))
      (cond in_range (machines.closed (at batch) good) (at batch)) (cond in_range (without hs i) hs)
  close_next i false good book batch e f B = rw e (same book batch B)
  close_next i true good None None e f B =
      let g = good_without hs i (ltb-true i (length hs) e) in
      closes_none good (omega (arith, g, B))
    where
      closes_none : (good : Bool) → good_in (without hs i) ≡ 0 → Agrees (feed (ledger_of (at None) None hs) (closes i) (close_answer_of (machines.closing (at None) good))) (machines.closed (at None) good) (without hs i)
      closes_none true g = rw e (agree (at None) None (without hs i) sound g)
      closes_none false g = rw e (agree (at None) None (without hs i) sound g)
  close_next i true good None (Some batch) e f B = absurd B
  close_next i true good (Some book) None e f B = absurd B
  close_next i true false (Some book) (Some batch) e f B =
      let g : good_in hs ≡ 0 + good_in (without hs i) = rw f at (good_without hs i (ltb-true i (length hs) e)) in
      rw e (agree (at (Some batch)) (Some book) (without hs i) sound (omega (arith, g, B.0), B.1))
  close_next i true true (Some book) (Some batch) e f B =
      let g : good_in hs ≡ 1 + good_in (without hs i) = rw f at (good_without hs i (ltb-true i (length hs) e)) in
      agree (at None) None (without hs i) sound (omega (arith, g, B.0))

  -- release
  no_is : (place : ℕ) (book : Book) (batch : Batch) → BatchAgrees model table book batch
      → release_no table batch place
      ≡ first_no (asked (ltb place (length table.tasks)) NoPlace)
      (first_no (asked (spaced (release_of place book.jobs) (get_or table.tasks place no_adopted_task).period book.clock) TooSoon)
      (asked (is_done (left_of place book.jobs)) Unfinished))
  no_is place book batch B =
      elim (cases_Bool (ltb place (length table.tasks))) [
        | inl e ↦
            let l = ltb-true place (length table.tasks) e in
            let p : not (pending_at batch.jobs place) ≡ is_done (left_of place book.jobs) = ap not (B.pending_is place l) ∙ twice (is_at_rest (view_at table batch place)) ∙ sym (done_is model table book batch sound B place l) in
            rw (e, p, B.released_is place l, B.clock_is) refl
        | inr e ↦ rw e refl
      ]

  release_next : (place : ℕ) (book : Book) (batch : Batch) (no : Option Refusal) → good_in hs ≡ 1 → BatchAgrees model table book batch → release_no table batch place ≡ no
      → Agrees (feed (ledger_of (at (Some batch)) (Some book) hs) (releases place) (release_answer_of (unless no (batch.clock + (get_or table.tasks place no_adopted_task).deadline))))
      (at (Some (released_in table place no batch))) hs
  release_next place book batch (Some e) g B h = same (Some book) (Some batch) (g, B)
  release_next place book batch None g B h =
      let there = ltb-true place (length table.tasks) (asked_yes (ltb place (length table.tasks)) NoPlace (first_no_left _ _ h)) in
      let rest = first_no_right (asked (ltb place (length table.tasks)) NoPlace) _ h in
      let gap = spaced (get_or batch.jobs place no_job).released (get_or table.tasks place no_adopted_task).period batch.clock in
      let apart = asked_yes gap TooSoon (first_no_left _ (asked (not (pending_at batch.jobs place)) Unfinished) rest) in
      let idle = asked_yes (not (pending_at batch.jobs place)) Unfinished (first_no_right (asked gap TooSoon) _ rest) in
      same (Some (with_job table book place)) (Some (with_release table batch place)) (g, release_agrees model table book batch sound B place there apart (not-true (pending_at batch.jobs place) idle))

  release_at : (place : ℕ) (book : Option Book) (batch : Option Batch) → BookAgrees model table hs book batch → Stepping (ledger_of (at batch) book hs) (at batch) hs (releases place)
  release_at place None None B = record { fits = refl; lists = refl; next = same None None B }
  release_at place None (Some batch) B = absurd B
  release_at place (Some book) None B = absurd B
  release_at place (Some book) (Some batch) B =
      record {
        fits = rw (no_is place book batch B.1, B.1.clock_is) refl;
        lists = refl;
        next = release_next place book batch (release_no table batch place) B.0 B.1 refl;
      }

  -- tick
  record Ticks (book : Book) (tick : Tick) : Type 0 where
    fits : TickFits model table book tick.answer.place tick.answer.event tick.answer.finished
    next : good_in hs ≡ 1 → Agrees (feed_tick (record { model = model; table = table; book = Some book; held = hs }) (Worked tick.answer)) (record { model = tick.model; table = table; batch = Some tick.batch }) hs

  idle_ticks : (book : Book) (batch : Batch) → BatchAgrees model table book batch → batch.clock < 1000000000 → ((a : ℕ) → a < length table.tasks → pending_at batch.jobs a ≡ false) → Ticks book (idle_tick model batch)
  idle_ticks book batch B early none =
      record {
        fits = idle_fits model table book batch sound B early none;
        next = λ g. agree (record { model = model; table = table; batch = Some (idle_tick model batch).batch }) (Some (idling book)) hs sound (g, idle_agrees model table book batch sound B early none);
      }

  turn_ticks : (book : Book) (batch : Batch) (B : BatchAgrees model table book batch) (early : batch.clock < 1000000000) (k : ℕ)
      → Best (pending_at batch.jobs) (λ place. urgency_of table.rule (get_or table.tasks place no_adopted_task) (get_or batch.jobs place no_job)) (length table.tasks) (Some k)
      → Ticks book (step_tick model table batch k (slice_get (plan_at table.plans k) (get_or batch.jobs k no_job).step))
  turn_ticks book batch B early k best =
      let plan = plan_at table.plans k in
      let job = get_or batch.jobs k no_job in
      let s = steps_of model table book batch sound B early k best in
      let here = s.1.1 in
      let rest = drop_next job.step plan s.1.0 s.0 here in
      let now : slice_get plan job.step ≡ Some s.0 = rw here at (nth_drop job.step plan) in
      let later : slice_get plan (job.step + 1) ≡ slice_get s.1.0 0 = rw rest at (nth_drop (job.step + 1) plan) in
      let objects = rw here at (objects_drop model.rules.exists job.step plan (sound.objects k best.0)) in
      let T = turned model plan job s.0 s.1.0 best.1 here rest objects in
      rw (now, later) (made (turn model job s.0 (slice_get s.1.0 0)) T)
    where
      made : (t : Turn) → Turned model (plan_at table.plans k) (get_or batch.jobs k no_job) t → Ticks book (turn_tick batch k t)
      made t T =
          let contents : contents_after t.event model (left_of k book.jobs) ≡ t.model = rw (B.left_is k best.0) T.contents in
          let is = ap (λ (x : Model). record { model = x; table = table; book = Some (after_event book k t.event); held = hs }) contents
          ∙ ap (λ (b : Book). record { model = t.model; table = table; book = Some b; held = hs }) (T.worked book k) in
          record {
            fits = worked_fits model table book k t.event _ (work_fits model table book batch sound B early k best t T);
            next = λ g. record {
              book = Some (working book k t.event);
              is = is;
              model_is = contents;
              held_is = refl;
              sound = rw T.rules sound;
              agrees = (g, work_agrees model table book batch sound B early k best t T);
            };
          }

  choice_ticks : (book : Book) (batch : Batch) → BatchAgrees model table book batch → batch.clock < 1000000000 → (o : Option ℕ)
      → Best (pending_at batch.jobs) (λ place. urgency_of table.rule (get_or table.tasks place no_adopted_task) (get_or batch.jobs place no_job)) (length table.tasks) o
      → Ticks book (choice_tick model table batch o)
  choice_ticks book batch B early None best = idle_ticks book batch B early best
  choice_ticks book batch B early (Some k) best = turn_ticks book batch B early k best

  tick_made : (book : Book) (batch : Batch) → BatchAgrees model table book batch → batch.clock < 1000000000 → Ticks book (tick_of model table batch)
  tick_made book batch B early =
      choice_ticks book batch B early (chosen table.rule table.tasks batch.jobs) (chosen_best table.rule table.tasks batch.jobs)

  tick_fits : (book : Book) (batch : Batch) (low : Bool) → BatchAgrees model table book batch → ltb batch.clock 1000000000 ≡ low
      → AnswerFits model table book (tick_answer (unless (asked low ClockEnd) (tick_of model table batch).answer))
  tick_fits book batch true B e = (omega (arith, B.clock_is, ltb-true batch.clock 1000000000 e), (tick_made book batch B (ltb-true batch.clock 1000000000 e)).fits)
  tick_fits book batch false B e = (omega (arith, B.clock_is, ltb-false batch.clock 1000000000 e), refl)

  tick_next : (book : Book) (batch : Batch) (low : Bool) → good_in hs ≡ 1 → BatchAgrees model table book batch → ltb batch.clock 1000000000 ≡ low
      → Agrees (feed_tick (ledger_of (at (Some batch)) (Some book) hs) (tick_answer (unless (asked low ClockEnd) (tick_of model table batch).answer)))
      (cond low (record { model = (tick_of model table batch).model; table = table; batch = Some (tick_of model table batch).batch }) (at (Some batch))) hs
  tick_next book batch true g B e = (tick_made book batch B (ltb-true batch.clock 1000000000 e)).next g
  tick_next book batch false g B e = same (Some book) (Some batch) (g, B)

  tick_at : (book : Option Book) (batch : Option Batch) → BookAgrees model table hs book batch → Stepping (ledger_of (at batch) book hs) (at batch) hs ticks
  tick_at None None B = record { fits = refl; lists = refl; next = same None None B }
  tick_at None (Some batch) B = absurd B
  tick_at (Some book) None B = absurd B
  tick_at (Some book) (Some batch) B =
      record {
        fits = tick_fits book batch (ltb batch.clock 1000000000) B.1 refl;
        lists = refl;
        next = tick_next book batch (ltb batch.clock 1000000000) B.0 B.1 refl;
      }

  step_at_lem : (e : Entry) (book : Option Book) (batch : Option Batch) → BookAgrees model table hs book batch → Stepping (ledger_of (at batch) book hs) (at batch) hs e
  step_at_lem (adopts rule tasks segments) book batch B = adopt_at rule tasks segments book batch B
  step_at_lem opens book batch B = open_at book batch B
  step_at_lem (releases place) book batch B = release_at place book batch B
  step_at_lem ticks book batch B = tick_at book batch B
  step_at_lem (closes i) book batch B =
      record {
        fits = close_fits_book i (ltb i (length hs)) (get_or hs i false) book batch B;
        lists = refl;
        next = close_next i (ltb i (length hs)) (get_or hs i false) book batch refl refl B;
      }
  step_at_lem (reads object) book batch B = record { fits = refl; lists = refl; next = same book batch B }
  step_at_lem (demands place t) book batch B = record { fits = refl; lists = refl; next = same book batch B }

pub step : (L : Ledger) (m : Machine) (hs : List Bool) (e : Entry) → Agrees L m hs → Stepping L m hs e
step L m hs e A =
    rw A.is (step_at_lem m.model m.table hs A.sound e A.book m.batch A.agrees)
