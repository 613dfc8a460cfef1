-- A table that is taken is sound: it meets its inequality, its plans fit it, and their objects exist.
use Rattle.std.proofs.Common.{◌≡◌, ℕ, zero, suc, ◌+◌, ◌<◌, ◌≤◌, true, false, ◌&&◌, eqb, leb, List, [], ◌∷◌, map, length, get_or, Some, None, Ok, Err, Option, sym, refl, ap, ◌∙◌, inl, inr, arith}
use Rattle.std.proofs.lemmas.List.{get_or-map}
use Rattle.std.proofs.lemmas.Bool.{cases_Bool, and_parts, leb-true}
use Rattle.shelf.specs.Models.{Rules}
use Rattle.admission.specs.declared.task.Segment.{Segment}
use Rattle.admission.specs.declared.task.Task.{Task}
use Rattle.admission.specs.declared.plan.Rule.{Rule}
use Rattle.admission.specs.declared.plan.Rule.TheVariants.{RateMonotonic, DeadlineMonotonic, EarliestDeadlineFirst}
use Rattle.admission.specs.declared.plan.AdoptedTask.{AdoptedTask}
use Rattle.admission.specs.declared.refusal.Refusal.TheVariants.{TaskCount, PeriodOrDeadline, SegmentRange, KindOrSize, AccessObject}
use Rattle.admission.specs.Lengths.{attempt_of, cost, longest, owned, longest_attempt_of}
use Rattle.admission.specs.Tables.{Table, empty_table, goes_by_rank, no_task, no_segment, step_of, plan_at, plans_of_tasks, adopted_tasks_of}
use Rattle.admission.specs.Limits.{SegmentLimits, TableLimits, AdoptedLimits}
use Rattle.admission.specs.Tests.{Ranked}
use Rattle.admission.specs.Verdicts.{asked, rule_of_number, has_fit_times, has_fit_range, has_fit_size, has_object, segments_no, task_no, tasks_no, test_no, witnesses_of, table_of, table_no, verdict_under, verdict}
use Rattle.admission.proofs.Questions.{unless_ok}
use Rattle.admission.proofs.Exact.{unless_value, first_no_left, first_no_right, asked_yes}
use Rattle.admission.proofs.Parts.{owned_length}
use Rattle.admission.proofs.Limited.{table_limits, adopted_limits, all_lawful, attempt_some}
use Rattle.admission.proofs.Rankings.{adopted_at, adopted_length, ranked}
use Rattle.admission.proofs.Deciding.{meets_by_rank, meets_by_deadline}
use Rattle.schedule.specs.Batches.{task_at}
use Rattle.schedule.specs.Jobs.{StepsFit, total}
use Rattle.schedule.specs.Theorems.{Admitted, PlansFit}
use Rattle.runs.specs.Ledger.{is_done}
use Rattle.runs.proofs.Views.{ObjectsExist}

pub record TableSound (rules : Rules) (table : Table) : Type 0 where
  pub admitted : Admitted table.rule table.attempt table.tasks
  pub plans : PlansFit table.attempt table.tasks (plan_at table.plans)
  pub few : length table.tasks ≤ 32
  pub periods : (a : ℕ) → a < length table.tasks → 1 ≤ (task_at table.tasks a).period
  pub apart : goes_by_rank table.rule ≡ true → Ranked table.tasks
  pub objects : (a : ℕ) → a < length table.tasks → ObjectsExist rules.exists (plan_at table.plans a)
  pub some : (a : ℕ) → a < length table.tasks → is_done (plan_at table.plans a) ≡ false

pub empty_sound : (rules : Rules) → TableSound rules empty_table
empty_sound rules =
    record {
      admitted = record { periods = λ a l. absurd (omega arith); witnesses = []; meets = λ a l. absurd (omega arith) };
      plans = record { lengths = λ a l. absurd (omega arith); costs = λ a l. absurd (omega arith) };
      few = omega arith;
      periods = λ a l. absurd (omega arith);
      apart = λ _. record { below = λ a l. absurd (omega arith); apart = λ a b l. absurd (omega arith) };
      objects = λ a l. absurd (omega arith);
      some = λ a l. absurd (omega arith);
    }

-- the segments of a task as steps
steps_fit : (attempt : ℕ) (xs : List Segment) → ((k : ℕ) → k < length xs → SegmentLimits (get_or xs k no_segment)) → longest xs ≤ attempt → StepsFit attempt (map step_of xs)
steps_fit attempt [] h l = tt
steps_fit attempt (s ∷ ss) h l =
    let z = h 0 (omega arith) in
    let rest = steps_fit attempt ss (λ k b. h (suc k) (omega arith)) (omega arith) in
    elim (cases_Bool (eqb s.kind 0)) [
      | inl e ↦ rw e (rw e at z.some, rest)
      | inr e ↦ rw e (attempt_some s.size, (let m : attempt_of s ≤ attempt = omega arith in rw e at m), rest)
    ]

total_cost : (xs : List Segment) → total (map step_of xs) ≡ cost xs
total_cost [] = refl
total_cost (s ∷ ss) =
    elim (cases_Bool (eqb s.kind 0)) [
      | inl e ↦ rw (e, total_cost ss) refl
      | inr e ↦ rw (e, total_cost ss) refl
    ]

longest_of : (segments : List Segment) (tasks : List Task) (a : ℕ) → a < length tasks → longest (owned segments (get_or tasks a no_task)) ≤ longest_attempt_of segments tasks
longest_of segments [] a l = absurd (omega arith)
longest_of segments (task ∷ tasks) zero l = omega arith
longest_of segments (task ∷ tasks) (suc a) l = omega (arith, longest_of segments tasks a (omega arith))

objects_of : (rules : Rules) (place : ℕ) (xs : List Segment) → segments_no rules place xs ≡ None → ObjectsExist rules.exists (map step_of xs)
objects_of rules place [] h = tt
objects_of rules place (s ∷ ss) h =
    let two = first_no_right (asked (has_fit_size s) (KindOrSize place)) _ h in
    let rest = objects_of rules place ss (first_no_right (asked (has_object rules s) (AccessObject place)) _ two) in
    let o = asked_yes (has_object rules s) (AccessObject place) (first_no_left _ (segments_no rules place ss) two) in
    elim (cases_Bool (eqb s.kind 0)) [
      | inl e ↦ rw e rest
      | inr e ↦ rw e ((rw e at o), rest)
    ]

segments_fine : (rules : Rules) (segments : List Segment) (place : ℕ) (tasks : List Task) → tasks_no rules segments place tasks ≡ None → (a : ℕ) → a < length tasks → (q : ℕ) × (segments_no rules q (owned segments (get_or tasks a no_task)) ≡ None)
segments_fine rules segments place [] h a l = absurd (omega arith)
segments_fine rules segments place (task ∷ tasks) h zero l =
    let t = first_no_left (task_no rules segments place task) (tasks_no rules segments (place + 1) tasks) h in
    let r = first_no_right (asked (has_fit_times task) (PeriodOrDeadline place)) _ t in
    (place, first_no_right (asked (has_fit_range segments task) (SegmentRange place)) _ r)
segments_fine rules segments place (task ∷ tasks) h (suc a) l =
    segments_fine rules segments (place + 1) tasks (first_no_right (task_no rules segments place task) _ h) a (omega arith)

some_steps : (xs : List Segment) → 1 ≤ length xs → is_done (map step_of xs) ≡ false
some_steps [] h = absurd (omega arith)
some_steps (s ∷ ss) h = refl

module _ (rules : Rules) (rule : Rule) (tasks : List Task) (segments : List Segment)
    (few : length tasks ≤ 32) (fit : tasks_no rules segments 0 tasks ≡ None)
    (test : test_no rule (longest_attempt_of segments tasks) (adopted_tasks_of rule segments tasks) ≡ None) where
  abbrev A : List AdoptedTask
  A = adopted_tasks_of rule segments tasks

  abbrev s : ℕ
  s = longest_attempt_of segments tasks

  limits : TableLimits segments tasks
  limits = table_limits rules segments 0 tasks fit

  inside : (a : ℕ) → a < length A → a < length tasks
  inside a l = omega (arith, adopted_length rule segments tasks)

  numbers : AdoptedLimits A
  numbers = adopted_limits rule segments tasks limits

  plan_is : (a : ℕ) → a < length A → plan_at (plans_of_tasks segments tasks) a ≡ map step_of (owned segments (get_or tasks a no_task))
  plan_is a l = get_or-map (λ (task : Task). map step_of (owned segments task)) tasks a no_task [] (inside a l)

  owns : (a : ℕ) → a < length A → (k : ℕ) → k < length (owned segments (get_or tasks a no_task)) → SegmentLimits (get_or (owned segments (get_or tasks a no_task)) k no_segment)
  owns a l k b =
      let t = limits a (inside a l) in
      t.each k (omega (arith, owned_length segments (get_or tasks a no_task) t.owns_these))

  admitted_by : (r : Rule) → r ≡ rule → Admitted r s A
  admitted_by RateMonotonic e =
      record { periods = λ a l. (numbers a l).0.0; witnesses = witnesses_of rule s A; meets = meets_by_rank rule s A test (ap goes_by_rank (sym e)) }
  admitted_by DeadlineMonotonic e =
      record { periods = λ a l. (numbers a l).0.0; witnesses = witnesses_of rule s A; meets = meets_by_rank rule s A test (ap goes_by_rank (sym e)) }
  admitted_by EarliestDeadlineFirst e =
      record { periods = λ a l. (numbers a l).0.0; deadlines = λ a l. (numbers a l).1.0; meets = meets_by_deadline rule s A (all_lawful A numbers) test (ap goes_by_rank (sym e)) }

  pub taken_sound : TableSound rules (table_of rule tasks segments)
  taken_sound =
      record {
        admitted = admitted_by rule refl;
        plans =
            record {
              lengths = λ a l. rw (plan_is a l) (steps_fit s (owned segments (get_or tasks a no_task)) (owns a l) (longest_of segments tasks a (inside a l)));
              costs = λ a l. omega (arith, ap total (plan_is a l), total_cost (owned segments (get_or tasks a no_task)), ap (λ (x : AdoptedTask). x.cost) (adopted_at rule segments tasks a (inside a l)));
            };
        few = omega (arith, adopted_length rule segments tasks);
        periods = λ a l. (numbers a l).0.0;
        apart = λ r. ranked rule segments tasks r;
        objects = λ a l.
            let q = segments_fine rules segments 0 tasks fit a (inside a l) in
            rw (plan_is a l) (objects_of rules q.0 (owned segments (get_or tasks a no_task)) q.1);
        some = λ a l.
            let t = limits a (inside a l) in
            ap is_done (plan_is a l) ∙ some_steps (owned segments (get_or tasks a no_task)) (omega (arith, owned_length segments (get_or tasks a no_task) t.owns_these, t.owns_some));
      }

-- what a verdict of a table that is taken rests on
pub record Taken (rules : Rules) (number : ℕ) (tasks : List Task) (segments : List Segment) (table : Table) : Type 0 where
  pub rule : Rule
  pub known : rule_of_number number ≡ Some rule
  pub is : table ≡ table_of rule tasks segments
  pub sound : TableSound rules table

under : (rules : Rules) (number : ℕ) (tasks : List Task) (segments : List Segment) (table : Table) (o : Option Rule) → length tasks ≤ 32 → rule_of_number number ≡ o → verdict_under rules tasks segments o ≡ Ok table → Taken rules number tasks segments table
under rules number tasks segments table None few e h = cc
under rules number tasks segments table (Some rule) few e h =
    let no = unless_ok (table_no rules tasks segments rule) (table_of rule tasks segments) table h in
    let is = unless_value (table_no rules tasks segments rule) (table_of rule tasks segments) table h in
    let test = test_no rule (longest_attempt_of segments tasks) (adopted_tasks_of rule segments tasks) in
    let sound = taken_sound rules rule tasks segments few (first_no_left (tasks_no rules segments 0 tasks) test no) (first_no_right (tasks_no rules segments 0 tasks) test no) in
    record { rule = rule; known = e; is = is; sound = rw is sound }

pub verdict_taken : (rules : Rules) (number : ℕ) (tasks : List Task) (segments : List Segment) (table : Table) → verdict rules number tasks segments ≡ Ok table → Taken rules number tasks segments table
verdict_taken rules number tasks segments table h =
    elim (cases_Bool (leb 1 (length tasks) && leb (length tasks) 32)) [
      | inl e ↦
          let few = leb-true (length tasks) 32 (and_parts (leb 1 (length tasks)) (leb (length tasks) 32) e).1 in
          under rules number tasks segments table (rule_of_number number) few refl (rw e at h)
      | inr e ↦ (let no : Err TaskCount ≡ Ok table = rw e at h in cc)
    ]
