-- A batch seen place by place, and the steps that it is made of.
use Rattle.std.specs.Prelude.{◌≡◌, ℕ, ◌+◌, ◌*◌, ◌<◌, ◌≤◌, cond, ◌⊎◌, List, [], ◌∷◌, length, Some, None, Option, ◌==◌, ◌≢◌, nat_lt, slice_index_or}
use Rattle.admission.specs.declared.plan.Rule.{Rule}
use Rattle.admission.specs.declared.plan.Rule.TheVariants.{RateMonotonic, DeadlineMonotonic, EarliestDeadlineFirst}
use Rattle.admission.specs.declared.plan.AdoptedTask.{AdoptedTask}
use Rattle.admission.specs.Search.{sum_below}
use Rattle.admission.specs.Tables.{no_adopted_task}

-- A batch at a moment. Each place has at most one unfinished job, its latest.
pub record Batch : Type 0 where
  pub clock : ℕ
  -- when the jobs of a place were released, newest first
  pub releases : ℕ → List ℕ
  -- the ticks that the latest job of a place needs if its attempts succeed from now on; 0 if it has finished or there is none
  pub left : ℕ → ℕ
  -- 1 if that job may lose the attempt that it is in, since another job has worked after its look; else 0
  pub flag : ℕ → ℕ
  -- the place of the job that worked on the last tick, unless it finished
  pub last : Option ℕ
  pub retries : ℕ
  pub preemptions : ℕ

-- the task at a place
abbrev pub task_at : List AdoptedTask → ℕ → AdoptedTask
task_at tasks place = slice_index_or tasks place no_adopted_task

-- the newest of a list of releases
abbrev pub newest : List ℕ → ℕ
newest [] = 0
newest (r ∷ rs) = r

-- when the latest job of a place was released
abbrev pub released_at : Batch → ℕ → ℕ
released_at v place = newest (v.releases place)

-- how many jobs the batch has released
abbrev pub releases_of : List AdoptedTask → Batch → ℕ
releases_of tasks v = sum_below (length tasks) (λ a. length (v.releases a))

-- An order of urgency between jobs, each given by its place and its release.
abbrev pub Order : Type 1
Order = ℕ → ℕ → ℕ → ℕ → Type 0

-- the lower rank
abbrev pub ByRank : List AdoptedTask → Order
ByRank tasks a ra b rb = (task_at tasks a).rank < (task_at tasks b).rank

-- the earlier absolute deadline, then the earlier release, then the lower place
abbrev pub ByDeadline : List AdoptedTask → Order
ByDeadline tasks a ra b rb =
    let da = ra + (task_at tasks a).deadline in
    let db = rb + (task_at tasks b).deadline in
    (da < db) ⊎ ((da ≡ db) × ((ra < rb) ⊎ ((ra ≡ rb) × (a < b))))

-- the order that a rule makes
abbrev pub order_of : Rule → List AdoptedTask → Order
order_of RateMonotonic = ByRank
order_of DeadlineMonotonic = ByRank
order_of EarliestDeadlineFirst = ByDeadline

-- a release may come if it is the first of its place, or a gap after the last
abbrev pub MayRelease : ℕ → ℕ → List ℕ → Type 0
MayRelease gap clock releases = (releases ≡ []) ⊎ (newest releases + gap ≤ clock)

-- a tick of place k is a preemption if another job, which worked on the last tick, is unfinished
abbrev pub preemption : Option ℕ → ℕ → ℕ
preemption None k = 0
preemption (Some l) k = cond (l == k) 0 1

-- A batch just opened.
pub record Opened (tasks : List AdoptedTask) (v : Batch) : Type 0 where
  pub clock_is : v.clock ≡ 0
  pub releases_are : (a : ℕ) → a < length tasks → v.releases a ≡ []
  pub left_is : (a : ℕ) → a < length tasks → v.left a ≡ 0
  pub flag_is : (a : ℕ) → a < length tasks → v.flag a ≡ 0
  pub last_is : v.last ≡ None
  pub retries_is : v.retries ≡ 0
  pub preemptions_is : v.preemptions ≡ 0

-- The release of a job of place a. It needs no more than the cost of its task.
pub record Released (tasks : List AdoptedTask) (a : ℕ) (v w : Batch) : Type 0 where
  pub there : a < length tasks
  pub finished : v.left a ≡ 0
  pub spaced : MayRelease (task_at tasks a).period v.clock (v.releases a)
  pub clock_is : w.clock ≡ v.clock
  pub releases_are : w.releases a ≡ v.clock ∷ v.releases a
  pub left_fits : w.left a ≤ (task_at tasks a).cost
  pub flag_is : w.flag a ≡ 0
  pub last_is : w.last ≡ v.last
  pub releases_same : (b : ℕ) → b < length tasks → (b ≢ a) → w.releases b ≡ v.releases b
  pub left_same : (b : ℕ) → b < length tasks → (b ≢ a) → w.left b ≡ v.left b
  pub flag_same : (b : ℕ) → b < length tasks → (b ≢ a) → w.flag b ≡ v.flag b
  pub retries_is : w.retries ≡ v.retries
  pub preemptions_is : w.preemptions ≡ v.preemptions

-- A tick with no job pending.
pub record Idled (tasks : List AdoptedTask) (v w : Batch) : Type 0 where
  pub none_pending : (a : ℕ) → a < length tasks → v.left a ≡ 0
  pub clock_is : w.clock ≡ v.clock + 1
  pub last_is : w.last ≡ None
  pub releases_same : (b : ℕ) → b < length tasks → w.releases b ≡ v.releases b
  pub left_same : (b : ℕ) → b < length tasks → w.left b ≡ v.left b
  pub flag_same : (b : ℕ) → b < length tasks → w.flag b ≡ v.flag b
  pub retries_is : w.retries ≡ v.retries
  pub preemptions_is : w.preemptions ≡ v.preemptions

-- The job of place k is pending, and goes before every other pending job.
pub record MostUrgent (tasks : List AdoptedTask) (Before : Order) (k : ℕ) (v : Batch) : Type 0 where
  pub there : k < length tasks
  pub pending : 0 < v.left k
  pub first : (b : ℕ) → b < length tasks → (b ≢ k) → 0 < v.left b → Before k (released_at v k) b (released_at v b)

-- A tick on which the job of place k works; `retry` is 1 if it is a retry, else 0.
pub record Worked (attempt : ℕ) (tasks : List AdoptedTask) (k retry : ℕ) (v w : Batch) : Type 0 where
  pub clock_is : w.clock ≡ v.clock + 1
  pub last_is : w.last ≡ cond (nat_lt 0 (w.left k)) (Some k) None
  pub releases_same : (b : ℕ) → b < length tasks → w.releases b ≡ v.releases b
  pub left_same : (b : ℕ) → b < length tasks → (b ≢ k) → w.left b ≡ v.left b
  -- of the others, only the one that worked on the last tick can become flagged
  pub flag_same : (b : ℕ) → b < length tasks → (b ≢ k) → (v.last ≢ Some b) → w.flag b ≡ v.flag b
  pub flag_last : (l : ℕ) → v.last ≡ Some l → w.flag l ≤ 1
  pub flag_fits : w.flag k ≤ w.left k
  -- a tick's work is done, but a retry asks for an attempt again
  pub work : w.left k + 1 ≤ v.left k + retry * attempt
  -- only a flagged job retries, and the flag is spent by it
  pub spent : w.flag k + retry ≤ v.flag k
  pub retries_is : w.retries ≡ v.retries + retry
  pub preemptions_is : w.preemptions ≡ v.preemptions + preemption v.last k

-- What a batch can come to: any sequence of releases and ticks after its opening, each tick of the most urgent job.
pub data Run (attempt : ℕ) (tasks : List AdoptedTask) (Before : Order) : Batch → Type 0 where
  opened : {v : Batch} → Opened tasks v → Run attempt tasks Before v
  released : {v w : Batch} {a : ℕ} → Run attempt tasks Before v → Released tasks a v w → Run attempt tasks Before w
  idled : {v w : Batch} → Run attempt tasks Before v → Idled tasks v w → Run attempt tasks Before w
  worked : {v w : Batch} {k retry : ℕ} → Run attempt tasks Before v → MostUrgent tasks Before k v
      → Worked attempt tasks k retry v w → Run attempt tasks Before w
