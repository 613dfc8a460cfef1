-- From the answers of the questions to the verdict, and to the inequality that a table that is taken meets.
use Rattle.std.proofs.Common.{◌≡◌, ℕ, ◌≤◌, ◌≢◌, Bool, true, false, ◌&&◌, eqb, leb, List, map, length, is_some, Some, None, Ok, Err, Option, sym, ap, ◌∙◌, subst, inl, inr, arith}
use Rattle.std.proofs.lemmas.Bool.{cases_Bool, eqb-false, le-leb, and_from, cond-true, cond-false}
use Rattle.shelf.specs.Models.{Rules}
use Rattle.admission.specs.declared.task.Segment.{Segment}
use Rattle.admission.specs.declared.task.Task.{Task}
use Rattle.admission.specs.declared.lists.Lists.{Lists}
use Rattle.admission.specs.declared.plan.Rule.{Rule}
use Rattle.admission.specs.declared.plan.Plan.{Plan}
use Rattle.admission.specs.declared.plan.AdoptedTask.{AdoptedTask}
use Rattle.admission.specs.declared.refusal.Refusal.{Refusal}
use Rattle.admission.specs.declared.refusal.Refusal.TheVariants.{TaskCount, LongHyperperiod}
use Rattle.admission.specs.Lengths.{longest_attempt_of}
use Rattle.admission.specs.declared.test.Passed.{Passed}
use Rattle.admission.specs.Passing.{Passes}
use Rattle.admission.specs.Tables.{Table, goes_by_rank, adopted_tasks_of, plans_of_tasks, steps_in}
use Rattle.admission.specs.Limits.{AdoptedLimits, AllLawful}
use Rattle.admission.specs.Tests.{Ranked, MeetsByRank, MeetsByDeadline, hyperperiod_of}
use Rattle.admission.specs.Verdicts.{first_no, unless, rule_of_number, tasks_no, ranks_no, deadlines_no, hyperperiod_no, test_no, witnesses_of, table_of, verdict_under, verdict}
use Rattle.admission.proofs.Firsts.{none≢some, none_from}
use Rattle.admission.proofs.Rankings.{adopted_length, ranked}
use Rattle.admission.proofs.Limited.{adopted_limits}
use Rattle.admission.proofs.Exact.{rank_exact, deadline_exact}

-- a table that passes the test by deadline has a hyperperiod
has_hyperperiod : (attempt : ℕ) (tasks : List AdoptedTask) → deadlines_no attempt tasks ≡ None → is_some (hyperperiod_of tasks) ≡ true
has_hyperperiod attempt tasks h =
    elim (cases_Bool (is_some (hyperperiod_of tasks))) [
      | inl e ↦ e
      | inr e ↦ absurd (none≢some LongHyperperiod (sym h ∙ ap (hyperperiod_no attempt tasks) (none_from _ e)))
    ]

-- a table that passes meets its inequality
pub meets_by_rank : (rule : Rule) (attempt : ℕ) (tasks : List AdoptedTask) → test_no rule attempt tasks ≡ None → goes_by_rank rule ≡ true → MeetsByRank attempt tasks (witnesses_of rule attempt tasks)
meets_by_rank rule attempt tasks h r =
    (rank_exact rule attempt tasks r).0 (sym (cond-true (goes_by_rank rule) (ranks_no attempt tasks) (deadlines_no attempt tasks) r) ∙ h)

pub meets_by_deadline : (rule : Rule) (attempt : ℕ) (tasks : List AdoptedTask) → AllLawful tasks → test_no rule attempt tasks ≡ None → goes_by_rank rule ≡ false → MeetsByDeadline attempt tasks
meets_by_deadline rule attempt tasks lawful h r =
    let d = sym (cond-false (goes_by_rank rule) (ranks_no attempt tasks) (deadlines_no attempt tasks) r) ∙ h in
    (deadline_exact attempt tasks lawful (has_hyperperiod attempt tasks d)).0 d

-- what the test asks of the tasks
abbrev pub Ready : Rule → List AdoptedTask → Type 0
Ready rule tasks = (length tasks ≤ 32) × AdoptedLimits tasks × (goes_by_rank rule ≡ true → Ranked tasks)

module _ (rules : Rules) (number : ℕ) (tasks : List Task) (segments : List Segment) (rule : Rule)
    (some : 1 ≤ length tasks) (few : length tasks ≤ 32) (known : rule_of_number number ≡ Some rule) (fit : tasks_no rules segments 0 tasks ≡ None) where
  abbrev adopted : List AdoptedTask
  adopted = adopted_tasks_of rule segments tasks

  abbrev attempt : ℕ
  attempt = longest_attempt_of segments tasks

  -- the questions before the test are answered yes
  to_test : verdict rules number tasks segments ≡ unless (test_no rule attempt adopted) (table_of rule tasks segments)
  to_test =
      cond-true (leb 1 (length tasks) && leb (length tasks) 32) _ (Err TaskCount) (and_from _ _ (le-leb 1 (length tasks) some) (le-leb (length tasks) 32 few))
      ∙ ap (verdict_under rules tasks segments) known
      ∙ ap (λ (o : Option Refusal). unless (first_no o (test_no rule attempt adopted)) (table_of rule tasks segments)) fit

  pub verdict_taken : test_no rule attempt adopted ≡ None → verdict rules number tasks segments ≡ Ok (table_of rule tasks segments)
  verdict_taken h = to_test ∙ ap (λ (o : Option Refusal). unless o (table_of rule tasks segments)) h

pub ready : (rule : Rule) (lists : Lists) (xs : List AdoptedTask) → xs ≡ adopted_tasks_of rule lists.segments.now lists.tasks.now → Ready rule xs
ready rule lists xs e =
    let segments = lists.segments.now in
    let tasks = lists.tasks.now in
    subst (λ (ys : List AdoptedTask). Ready rule ys) (sym e)
    (omega (arith, lists.few, adopted_length rule segments tasks), adopted_limits rule segments tasks lists.limits, λ r. ranked rule segments tasks r)

-- what is computed of lists that were checked is computed of the caller's lists
pub of_lists : {X : Type 0} (f : List Segment → List Task → X) (lists : Lists) (segments : List Segment) (tasks : List Task) (x : X)
    → (lists.segments.now ≡ segments) × (lists.tasks.now ≡ tasks) → x ≡ f lists.segments.now lists.tasks.now → x ≡ f segments tasks
of_lists f lists segments tasks x e h =
    h ∙ ap (λ (ss : List Segment). f ss lists.tasks.now) e.0 ∙ ap (λ (ts : List Task). f segments ts) e.1

pub some_tasks : (tasks : List Task) (b : Bool) → b ≡ eqb (length tasks) 0 → b ≡ false → 1 ≤ length tasks
some_tasks tasks b e h = let n : length tasks ≢ 0 = eqb-false (length tasks) 0 (sym e ∙ h) in omega arith

-- what was tested under other names for the same numbers
pub passes_as : (rule : Rule) (s s' : ℕ) (xs ys : List AdoptedTask) (p : Passed) → s ≡ s' → xs ≡ ys → Passes rule s xs p → Passes rule s' ys p
passes_as rule s s' xs ys p e f h = subst (λ (k : ℕ). Passes rule k ys p) e (subst (λ (zs : List AdoptedTask). Passes rule s zs p) f h)

-- the table that is made of the parts is the defined one
pub table_is : (rule : Rule) (segments : List Segment) (tasks : List Task) (s : ℕ) (xs : List AdoptedTask) (ws : List ℕ) (plans : List Plan)
    → s ≡ longest_attempt_of segments tasks
    → xs ≡ adopted_tasks_of rule segments tasks
    → ws ≡ witnesses_of rule (longest_attempt_of segments tasks) (adopted_tasks_of rule segments tasks)
    → map steps_in plans ≡ plans_of_tasks segments tasks
    → ◌≡◌ {A = Table}
    (record { rule = rule; attempt = s; tasks = xs; witnesses = ws; plans = map steps_in plans })
    (table_of rule tasks segments)
table_is rule segments tasks s xs ws plans a b c d = cc
