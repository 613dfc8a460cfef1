-- What is proved of every batch.
use Rattle.std.specs.Prelude.{◌≡◌, ℕ, ◌+◌, ◌<◌, ◌≤◌, List, length}
use Rattle.admission.specs.declared.plan.Rule.{Rule}
use Rattle.admission.specs.declared.plan.Rule.TheVariants.{RateMonotonic, DeadlineMonotonic, EarliestDeadlineFirst}
use Rattle.admission.specs.declared.plan.AdoptedTask.{AdoptedTask}
use Rattle.admission.specs.declared.plan.Step.{Step}
use Rattle.admission.specs.Tests.{MeetsByRank, MeetsByDeadline}
use Rattle.schedule.specs.Batches.{Batch, Order, MayRelease, Released, Idled, Worked, Run, task_at, released_at, releases_of}
use Rattle.schedule.specs.Jobs.{Machine, MachineReleased, MachineIdled, MachineTicked, MachineRun, JobFits, StepsFit, batch_of, bit, needs, refused, total}

-- what is asked of a table, given the longest attempt
abbrev pub Test : Type 1
Test = ℕ → List AdoptedTask → Type 0

-- by rank: every period is positive, and each task has a witness
pub record AdmittedByRank (attempt : ℕ) (tasks : List AdoptedTask) : Type 0 where
  pub periods : (a : ℕ) → a < length tasks → 0 < (task_at tasks a).period
  pub witnesses : List ℕ
  pub meets : MeetsByRank attempt tasks witnesses

-- by deadline: every period and deadline is positive, and no time is too short for what is due within it
pub record AdmittedByDeadline (attempt : ℕ) (tasks : List AdoptedTask) : Type 0 where
  pub periods : (a : ℕ) → a < length tasks → 0 < (task_at tasks a).period
  pub deadlines : (a : ℕ) → a < length tasks → 0 < (task_at tasks a).deadline
  pub meets : MeetsByDeadline attempt tasks

-- the test of a rule
abbrev pub Admitted : Rule → Test
Admitted RateMonotonic = AdmittedByRank
Admitted DeadlineMonotonic = AdmittedByRank
Admitted EarliestDeadlineFirst = AdmittedByDeadline

-- every pending job has time left until its deadline
abbrev pub InTime : List AdoptedTask → Batch → Type 0
InTime tasks v = (a : ℕ) → a < length tasks → 0 < v.left a → v.clock < released_at v a + (task_at tasks a).deadline

-- In every run of a table that passes the test, every pending job has time left until its deadline.
abbrev pub KeepsDeadlines : Test → (List AdoptedTask → Order) → Type 0
KeepsDeadlines Passes order =
    (attempt : ℕ) (tasks : List AdoptedTask) → Passes attempt tasks → (v : Batch) → Run attempt tasks (order tasks) v
    → InTime tasks v

-- In every run of a table that passes the test, the last job of a task has finished
-- once the gap has gone by since its release, if the deadline is no later than the period.
abbrev pub FinishesBeforeNext : Test → (List AdoptedTask → Order) → (AdoptedTask → ℕ) → Type 0
FinishesBeforeNext Passes order gap =
    (attempt : ℕ) (tasks : List AdoptedTask) → Passes attempt tasks → (v : Batch) → Run attempt tasks (order tasks) v
    → (a : ℕ) → a < length tasks → (task_at tasks a).deadline ≤ (task_at tasks a).period
    → MayRelease (gap (task_at tasks a)) v.clock (v.releases a) → v.left a ≡ 0

-- In every run of any table there are at most as many retries as preemptions, and as many preemptions as releases.
abbrev pub BoundsRetries : (List AdoptedTask → Order) → Type 0
BoundsRetries order =
    (attempt : ℕ) (tasks : List AdoptedTask) (v : Batch) → Run attempt tasks (order tasks) v
    → (v.retries ≤ v.preemptions) × (v.preemptions ≤ releases_of tasks v)

-- A tick of a pending job's record is a working tick of the batch, whatever the shelf, and leaves a record that fits.
abbrev pub RecordTicks : Type 0
RecordTicks =
    (attempt : ℕ) (tasks : List AdoptedTask) (k : ℕ) (m n : Machine) → JobFits attempt (m.jobs k) → 0 < needs (m.jobs k)
    → MachineTicked tasks k m n
    → Worked attempt tasks k (bit (refused m.readings (m.jobs k))) (batch_of m) (batch_of n) × JobFits attempt (n.jobs k)

-- A record that starts on steps no longer than the cost of its task is a release of the batch.
abbrev pub RecordStarts : Type 0
RecordStarts =
    (attempt : ℕ) (tasks : List AdoptedTask) (steps : List Step) (a : ℕ) (m n : Machine)
    → StepsFit attempt steps → total steps ≤ (task_at tasks a).cost → MachineReleased tasks steps a m n
    → Released tasks a (batch_of m) (batch_of n) × JobFits attempt (n.jobs a)

-- A tick with every record at rest is an idle tick of the batch.
abbrev pub RecordsIdle : Type 0
RecordsIdle = (tasks : List AdoptedTask) (m n : Machine) → MachineIdled tasks m n → Idled tasks (batch_of m) (batch_of n)

-- the steps of each task fit the longest attempt and the cost
pub record PlansFit (attempt : ℕ) (tasks : List AdoptedTask) (plans : ℕ → List Step) : Type 0 where
  pub lengths : (a : ℕ) → a < length tasks → StepsFit attempt (plans a)
  pub costs : (a : ℕ) → a < length tasks → total (plans a) ≤ (task_at tasks a).cost

-- every record fits
abbrev pub AllFit : ℕ → List AdoptedTask → Machine → Type 0
AllFit attempt tasks m = (a : ℕ) → a < length tasks → JobFits attempt (m.jobs a)

-- So a run of records is a run of the batch, in which every record fits.
abbrev pub RecordsRun : (List AdoptedTask → Order) → Type 0
RecordsRun order =
    (attempt : ℕ) (tasks : List AdoptedTask) (plans : ℕ → List Step) → PlansFit attempt tasks plans
    → (m : Machine) → MachineRun tasks plans (order tasks) m → Run attempt tasks (order tasks) (batch_of m) × AllFit attempt tasks m
