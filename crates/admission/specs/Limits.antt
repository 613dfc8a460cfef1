-- What holds of lists that pass the limits, as facts that inner functions ask for.
use Rattle.std.specs.Prelude.{ℕ, ◌+◌, ◌<◌, ◌≤◌, List, length, slice_index_or}
use Rattle.admission.specs.declared.task.Segment.{Segment}
use Rattle.admission.specs.declared.task.Task.{Task}
use Rattle.admission.specs.declared.plan.AdoptedTask.{AdoptedTask}
use Rattle.admission.specs.Lengths.{ticks_of, attempt_of, owned}
use Rattle.admission.specs.Tables.{no_task, no_segment, no_adopted_task}

pub record SegmentLimits (s : Segment) : Type 0 where
  pub some : 1 ≤ ticks_of s
  pub few : ticks_of s ≤ 100000
  pub short : attempt_of s ≤ 65

abbrev pub EachSegment : List Segment → Type 0
EachSegment segments = (k : ℕ) → k < length segments → SegmentLimits (slice_index_or segments k no_segment)

pub record TaskLimits (segments : List Segment) (task : Task) : Type 0 where
  pub period_some : 1 ≤ task.period
  pub period_most : task.period ≤ 1000000
  pub deadline_some : 1 ≤ task.deadline
  pub deadline_most : task.deadline ≤ task.period
  pub owns_some : 1 ≤ task.count
  pub owns_few : task.count ≤ 8
  pub owns_these : task.first + task.count ≤ length segments
  pub each : (k : ℕ) → k < task.count → SegmentLimits (slice_index_or (owned segments task) k no_segment)

abbrev pub TableLimits : List Segment → List Task → Type 0
TableLimits segments tasks = (place : ℕ) → place < length tasks → TaskLimits segments (slice_index_or tasks place no_task)

-- times that make sense: a job can be due before the next may come
pub record TimesLawful (task : AdoptedTask) : Type 0 where
  pub period_some : 1 ≤ task.period
  pub deadline_some : 1 ≤ task.deadline
  pub deadline_most : task.deadline ≤ task.period

abbrev pub AllLawful : List AdoptedTask → Type 0
AllLawful tasks = (place : ℕ) → place < length tasks → TimesLawful (slice_index_or tasks place no_adopted_task)

-- the numbers that the tests count
abbrev pub PeriodFits : AdoptedTask → Type 0
PeriodFits task = (1 ≤ task.period) × (task.period ≤ 1000000)

abbrev pub DeadlineFits : AdoptedTask → Type 0
DeadlineFits task = (1 ≤ task.deadline) × (task.deadline ≤ task.period)

abbrev pub CostFits : AdoptedTask → Type 0
CostFits task = (1 ≤ task.cost) × (task.cost ≤ 800000)

abbrev pub NumberLimits : AdoptedTask → Type 0
NumberLimits task = PeriodFits task × DeadlineFits task × CostFits task

-- a fact of each task of a table
abbrev pub EachTask : (AdoptedTask → Type 0) → List AdoptedTask → Type 0
EachTask Fact tasks = (place : ℕ) → place < length tasks → Fact (slice_index_or tasks place no_adopted_task)

abbrev pub AdoptedLimits : List AdoptedTask → Type 0
AdoptedLimits tasks = EachTask NumberLimits tasks
