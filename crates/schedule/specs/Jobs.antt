-- The job record that a controller keeps for each place, and one tick of it over the readings of any shelf.
use Rattle.std.specs.Prelude.{◌≡◌, ℕ, ◌+◌, ◌-◌, ◌<◌, ◌≤◌, Bool, true, false, cond, not, ◌&&◌, ◌||◌, List, [], ◌∷◌, length, Some, None, Option, ◌==◌, ◌≢◌, nat_lt}
use Rattle.admission.specs.declared.plan.AdoptedTask.{AdoptedTask}
use Rattle.admission.specs.declared.plan.Word.{Word}
use Rattle.admission.specs.declared.plan.Step.{Step}
use Rattle.admission.specs.declared.plan.Step.TheVariants.{Compute, Access}
use Rattle.schedule.specs.Batches.{Batch, Order, MayRelease, MostUrgent, task_at, preemption}

-- At rest; or computing, or attempting an access of so many ticks, with the ticks left of it and the steps that come later.
-- `seen` is the reading that the attempt's first tick has looked at.
pub data Job : Type 0 where
  resting : Job
  computing : (left : ℕ) (later : List Step) → Job
  attempting : (left : ℕ) (word : Word) (ticks object amount seen : ℕ) (later : List Step) → Job

-- the record of a job that has these steps to do
abbrev pub begun : List Step → Job
begun [] = resting
begun (Compute ticks ∷ later) = computing ticks later
begun (Access word ticks object amount ∷ later) = attempting ticks word ticks object amount 0 later

-- the ticks of a step whose attempt succeeds
abbrev pub duration : Step → ℕ
duration (Compute ticks) = ticks
duration (Access word ticks object amount) = ticks

-- the ticks of steps whose attempts all succeed
abbrev pub total : List Step → ℕ
total [] = 0
total (step ∷ later) = duration step + total later

-- the ticks that a job still needs if its attempts succeed from now on
abbrev pub needs : Job → ℕ
needs resting = 0
needs (computing left later) = left + total later
needs (attempting left word ticks object amount seen later) = left + total later

-- the job has finished, or there is none
abbrev pub is_at_rest : Job → Bool
is_at_rest resting = true
is_at_rest (computing left later) = false
is_at_rest (attempting left word ticks object amount seen later) = false

-- the job has looked and not yet committed
abbrev pub in_attempt : Job → Bool
in_attempt resting = false
in_attempt (computing left later) = false
in_attempt (attempting left word ticks object amount seen later) = nat_lt left ticks

-- the reading that it saw is not the present one
abbrev pub stale : (ℕ → ℕ) → Job → Bool
stale readings resting = false
stale readings (computing left later) = false
stale readings (attempting left word ticks object amount seen later) = not (seen == readings object)

-- the reading that an attempt goes by on a tick: its first tick looks, before anything else
abbrev pub goes_by : (ℕ → ℕ) → ℕ → ℕ → ℕ → ℕ → ℕ
goes_by readings left ticks object seen = cond (left == ticks) (readings object) seen

-- whether the next tick ends an attempt, and its commit is accepted
abbrev pub commits : (ℕ → ℕ) → Job → Bool
commits readings resting = false
commits readings (computing left later) = false
commits readings (attempting left word ticks object amount seen later) =
    not (nat_lt 1 left) && goes_by readings left ticks object seen == readings object

-- or it is refused, which is a retry
abbrev pub refused : (ℕ → ℕ) → Job → Bool
refused readings resting = false
refused readings (computing left later) = false
refused readings (attempting left word ticks object amount seen later) =
    not (nat_lt 1 left) && not (goes_by readings left ticks object seen == readings object)

-- the record after a tick of its job, where the shelf has these readings before it
abbrev pub after_tick : (ℕ → ℕ) → Job → Job
after_tick readings resting = resting
after_tick readings (computing left later) = cond (nat_lt 1 left) (computing (left - 1) later) (begun later)
after_tick readings (attempting left word ticks object amount seen later) =
    cond (nat_lt 1 left) (attempting (left - 1) word ticks object amount (goes_by readings left ticks object seen) later)
    (cond (goes_by readings left ticks object seen == readings object) (begun later)
    (attempting ticks word ticks object amount 0 later))

-- steps whose lengths are positive, with no attempt longer than the longest of the table
abbrev pub StepsFit : ℕ → List Step → Type 0
StepsFit attempt [] = Unit {0}
StepsFit attempt (Compute ticks ∷ later) = (0 < ticks) × StepsFit attempt later
StepsFit attempt (Access word ticks object amount ∷ later) = (0 < ticks) × (ticks ≤ attempt) × StepsFit attempt later

-- a record that such steps lead to
abbrev pub JobFits : ℕ → Job → Type 0
JobFits attempt resting = Unit {0}
JobFits attempt (computing left later) = (0 < left) × StepsFit attempt later
JobFits attempt (attempting left word ticks object amount seen later) =
    (0 < left) × (left ≤ ticks) × (ticks ≤ attempt) × StepsFit attempt later

-- A batch as a controller holds it: a job record for each place, and the readings of its shelf.
pub record Machine : Type 0 where
  pub clock : ℕ
  pub releases : ℕ → List ℕ
  pub jobs : ℕ → Job
  -- the place of the job that worked on the last tick, unless it finished
  pub last : Option ℕ
  pub readings : ℕ → ℕ
  pub retries : ℕ
  pub preemptions : ℕ

-- the job of a place worked on the last tick
abbrev pub is_last : Option ℕ → ℕ → Bool
is_last None place = false
is_last (Some l) place = place == l

-- 1 for yes
abbrev pub bit : Bool → ℕ
bit b = cond b 1 0

-- A job inside an attempt is flagged, unless it worked on the last tick and its reading is still the present one.
abbrev pub flag_of : Option ℕ → (ℕ → ℕ) → ℕ → Job → ℕ
flag_of last readings place job = bit (in_attempt job && (not (is_last last place) || stale readings job))

-- the batch, place by place, as the records show it
abbrev pub batch_of : Machine → Batch
batch_of m =
    record {
      clock = m.clock;
      releases = m.releases;
      left = λ a. needs (m.jobs a);
      flag = λ a. flag_of m.last m.readings a (m.jobs a);
      last = m.last;
      retries = m.retries;
      preemptions = m.preemptions;
    }

-- Every record is at rest.
pub record MachineOpened (tasks : List AdoptedTask) (m : Machine) : Type 0 where
  pub clock_is : m.clock ≡ 0
  pub releases_are : (a : ℕ) → a < length tasks → m.releases a ≡ []
  pub jobs_are : (a : ℕ) → a < length tasks → m.jobs a ≡ resting
  pub last_is : m.last ≡ None
  pub retries_is : m.retries ≡ 0
  pub preemptions_is : m.preemptions ≡ 0

-- A job of place a starts on its steps.
pub record MachineReleased (tasks : List AdoptedTask) (steps : List Step) (a : ℕ) (m n : Machine) : Type 0 where
  pub there : a < length tasks
  pub at_rest : m.jobs a ≡ resting
  pub spaced : MayRelease (task_at tasks a).period m.clock (m.releases a)
  pub clock_is : n.clock ≡ m.clock
  pub releases_are : n.releases a ≡ m.clock ∷ m.releases a
  pub job_is : n.jobs a ≡ begun steps
  pub last_is : n.last ≡ m.last
  pub readings_same : (o : ℕ) → n.readings o ≡ m.readings o
  pub releases_same : (b : ℕ) → b < length tasks → (b ≢ a) → n.releases b ≡ m.releases b
  pub jobs_same : (b : ℕ) → b < length tasks → (b ≢ a) → n.jobs b ≡ m.jobs b
  pub retries_is : n.retries ≡ m.retries
  pub preemptions_is : n.preemptions ≡ m.preemptions

-- A tick with every record at rest.
pub record MachineIdled (tasks : List AdoptedTask) (m n : Machine) : Type 0 where
  pub at_rest : (a : ℕ) → a < length tasks → m.jobs a ≡ resting
  pub clock_is : n.clock ≡ m.clock + 1
  pub last_is : n.last ≡ None
  pub releases_same : (b : ℕ) → b < length tasks → n.releases b ≡ m.releases b
  pub jobs_same : (b : ℕ) → b < length tasks → n.jobs b ≡ m.jobs b
  pub retries_is : n.retries ≡ m.retries
  pub preemptions_is : n.preemptions ≡ m.preemptions

-- A tick of the job of place k. All that is asked of the shelf: while that job stays inside its attempt, no reading has changed.
pub record MachineTicked (tasks : List AdoptedTask) (k : ℕ) (m n : Machine) : Type 0 where
  pub clock_is : n.clock ≡ m.clock + 1
  pub job_is : n.jobs k ≡ after_tick m.readings (m.jobs k)
  pub last_is : n.last ≡ cond (is_at_rest (n.jobs k)) None (Some k)
  pub readings_same : in_attempt (n.jobs k) ≡ true → (o : ℕ) → n.readings o ≡ m.readings o
  pub releases_same : (b : ℕ) → b < length tasks → n.releases b ≡ m.releases b
  pub jobs_same : (b : ℕ) → b < length tasks → (b ≢ k) → n.jobs b ≡ m.jobs b
  pub retries_is : n.retries ≡ m.retries + bit (refused m.readings (m.jobs k))
  pub preemptions_is : n.preemptions ≡ m.preemptions + preemption m.last k

-- What the records of a batch can come to, where each place's jobs have the steps of its plan.
pub data MachineRun (tasks : List AdoptedTask) (plans : ℕ → List Step) (Before : Order) : Machine → Type 0 where
  opened : {m : Machine} → MachineOpened tasks m → MachineRun tasks plans Before m
  released : {m n : Machine} {a : ℕ} → MachineRun tasks plans Before m → MachineReleased tasks (plans a) a m n
      → MachineRun tasks plans Before n
  idled : {m n : Machine} → MachineRun tasks plans Before m → MachineIdled tasks m n → MachineRun tasks plans Before n
  ticked : {m n : Machine} {k : ℕ} → MachineRun tasks plans Before m → MostUrgent tasks Before k (batch_of m)
      → MachineTicked tasks k m n → MachineRun tasks plans Before n
