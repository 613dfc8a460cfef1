-- What the limits give: lists that pass their questions are within bounds.
use Rattle.std.proofs.Common.{◌≡◌, ℕ, zero, suc, ◌+◌, ◌*◌, ◌<◌, ◌≤◌, Bool, true, false, ◌&&◌, eqb, leb, List, [], ◌∷◌, length, get_or, None, sym, refl, subst, inl, inr, arith}
use Rattle.std.proofs.lemmas.Bool.{cases_Bool, and_parts, leb-true, false≢true}
use Rattle.shelf.specs.Models.{Rules}
use Rattle.admission.specs.declared.task.Segment.{Segment}
use Rattle.admission.specs.declared.task.Task.{Task}
use Rattle.admission.specs.declared.plan.Rule.{Rule}
use Rattle.admission.specs.declared.plan.AdoptedTask.{AdoptedTask}
use Rattle.admission.specs.declared.refusal.Refusal.TheVariants.{PeriodOrDeadline, SegmentRange, KindOrSize, AccessObject}
use Rattle.admission.specs.Lengths.{attempt_ticks_of, cost, owned}
use Rattle.admission.specs.Tables.{no_task, no_segment, adopted_tasks_of}
use Rattle.admission.specs.Limits.{SegmentLimits, TaskLimits, TableLimits, NumberLimits, AdoptedLimits, AllLawful}
use Rattle.admission.specs.Verdicts.{asked, first_no, has_fit_times, has_fit_range, has_fit_size, has_object, segments_no, task_no, tasks_no}
use Rattle.admission.proofs.Exact.{first_no_left, first_no_right, asked_yes}
use Rattle.admission.proofs.Parts.{owned_length}
use Rattle.admission.proofs.Rankings.{adopted_at, adopted_length}

-- the laws of the length of an attempt that are used
pub attempt_some : (n : ℕ) → 1 ≤ attempt_ticks_of n
unfolding attempt_ticks_of
attempt_some n = omega arith

pub attempt_most : (n : ℕ) → n ≤ 255 → attempt_ticks_of n ≤ 65
unfolding attempt_ticks_of
attempt_most n h = omega arith

-- the parts of several questions in one
all_three : (a b c : Bool) → (a && b && c) ≡ true → (a ≡ true) × (b ≡ true) × (c ≡ true)
all_three true true true h = (refl, refl, refl)
all_three true true false h = absurd (false≢true h)
all_three true false c h = absurd (false≢true h)
all_three false b c h = absurd (false≢true h)

all_four : (a b c d : Bool) → (a && b && c && d) ≡ true → (a ≡ true) × (b ≡ true) × (c ≡ true) × (d ≡ true)
all_four true b c d h = let p = all_three b c d h in (refl, p.0, p.1, p.2)
all_four false b c d h = absurd (false≢true h)

segment_limits : (s : Segment) → has_fit_size s ≡ true → SegmentLimits s
segment_limits s h =
    elim (cases_Bool (eqb s.kind 0)) [
      | inl e ↦
          let p = and_parts (leb 1 s.size) (leb s.size 100000) (rw e at h) in
          record {
            some = rw e (leb-true 1 s.size p.0);
            few = rw e (leb-true s.size 100000 p.1);
            short = rw e (omega arith);
          }
      | inr e ↦
          let p = and_parts (leb s.kind 2) (leb s.size 255) (rw e at h) in
          let m = attempt_most s.size (leb-true s.size 255 p.1) in
          record { some = rw e (attempt_some s.size); few = rw e (omega arith); short = rw e m }
    ]

segments_limits : (rules : Rules) (place : ℕ) (xs : List Segment) → segments_no rules place xs ≡ None → (k : ℕ) → k < length xs → SegmentLimits (get_or xs k no_segment)
segments_limits rules place [] h k l = absurd (omega arith)
segments_limits rules place (s ∷ ss) h zero l =
    segment_limits s (asked_yes (has_fit_size s) (KindOrSize place) (first_no_left _ (first_no (asked (has_object rules s) (AccessObject place)) (segments_no rules place ss)) h))
segments_limits rules place (s ∷ ss) h (suc k) l =
    segments_limits rules place ss
    (first_no_right (asked (has_object rules s) (AccessObject place)) _ (first_no_right (asked (has_fit_size s) (KindOrSize place)) _ h))
    k (omega arith)

task_limits : (rules : Rules) (segments : List Segment) (place : ℕ) (task : Task) → task_no rules segments place task ≡ None → TaskLimits segments task
task_limits rules segments place task h =
    let times = asked_yes (has_fit_times task) (PeriodOrDeadline place) (first_no_left _ (first_no (asked (has_fit_range segments task) (SegmentRange place)) (segments_no rules place (owned segments task))) h) in
    let rest = first_no_right (asked (has_fit_times task) (PeriodOrDeadline place)) _ h in
    let range = asked_yes (has_fit_range segments task) (SegmentRange place) (first_no_left _ (segments_no rules place (owned segments task)) rest) in
    let each = segments_limits rules place (owned segments task) (first_no_right (asked (has_fit_range segments task) (SegmentRange place)) _ rest) in
    let a = all_four (leb 1 task.period) (leb task.period 1000000) (leb 1 task.deadline) (leb task.deadline task.period) times in
    let b = all_three (leb 1 task.count) (leb task.count 8) (leb (task.first + task.count) (length segments)) range in
    let these = leb-true (task.first + task.count) (length segments) b.2 in
    record {
      period_some = leb-true 1 task.period a.0;
      period_most = leb-true task.period 1000000 a.1;
      deadline_some = leb-true 1 task.deadline a.2;
      deadline_most = leb-true task.deadline task.period a.3;
      owns_some = leb-true 1 task.count b.0;
      owns_few = leb-true task.count 8 b.1;
      owns_these = these;
      each = λ k l. each k (omega (arith, owned_length segments task these));
    }

pub table_limits : (rules : Rules) (segments : List Segment) (place : ℕ) (tasks : List Task) → tasks_no rules segments place tasks ≡ None → TableLimits segments tasks
table_limits rules segments place [] h k l = absurd (omega arith)
table_limits rules segments place (task ∷ tasks) h zero l = task_limits rules segments place task (first_no_left _ (tasks_no rules segments (place + 1) tasks) h)
table_limits rules segments place (task ∷ tasks) h (suc k) l =
    table_limits rules segments (place + 1) tasks (first_no_right (task_no rules segments place task) _ h) k (omega arith)

-- a job takes a tick for each segment at least, and 100,000 at most
cost_limits : (xs : List Segment) → ((k : ℕ) → k < length xs → SegmentLimits (get_or xs k no_segment)) → (length xs ≤ cost xs) × (cost xs ≤ length xs * 100000)
cost_limits [] h = (omega arith, omega arith)
cost_limits (s ∷ ss) h =
    let i = cost_limits ss (λ k l. h (suc k) (omega arith)) in
    let z = h 0 (omega arith) in
    (omega (arith, i.0, z.some), omega (arith, i.1, z.few))

pub adopted_limits : (rule : Rule) (segments : List Segment) (tasks : List Task) → TableLimits segments tasks → AdoptedLimits (adopted_tasks_of rule segments tasks)
adopted_limits rule segments tasks limits place l =
    let i : place < length tasks = omega (arith, adopted_length rule segments tasks) in
    let t = limits place i in
    let n = owned_length segments (get_or tasks place no_task) t.owns_these in
    let c = cost_limits (owned segments (get_or tasks place no_task)) (λ k b. t.each k (omega arith)) in
    subst (λ (x : AdoptedTask). NumberLimits x) (sym (adopted_at rule segments tasks place i))
    ((t.period_some, t.period_most), (t.deadline_some, t.deadline_most), (omega (arith, c.0, n, t.owns_some), omega (arith, c.1, n, t.owns_few)))

pub all_lawful : (tasks : List AdoptedTask) → AdoptedLimits tasks → AllLawful tasks
all_lawful tasks limits place l =
    let t = limits place l in
    record { period_some = t.0.0; deadline_some = t.1.0; deadline_most = t.1.1 }
