-- Two runs worked out call by call, so that the theorems speak of something.
use Rattle.std.specs.Prelude.{ℕ, ◌+◌, cond, List, [], ◌∷◌, Some, None, ◌==◌, slice_index_or}
use Rattle.admission.specs.declared.plan.AdoptedTask.{AdoptedTask}
use Rattle.admission.specs.declared.plan.Word.{Word}
use Rattle.admission.specs.declared.plan.Word.TheVariants.{Put, Add}
use Rattle.admission.specs.declared.plan.Step.{Step}
use Rattle.admission.specs.declared.plan.Step.TheVariants.{Compute, Access}
use Rattle.schedule.specs.Batches.{Order, preemption}
use Rattle.schedule.specs.Jobs.{Job, resting, computing, attempting, begun, is_at_rest, after_tick, commits, refused, Machine, MachineRun, bit}
use Rattle.schedule.specs.Theorems.{Test, PlansFit}

-- the release of a job of a place, or a tick on which the job of a place works
pub data Call : Type 0 where
  release : (place : ℕ) → Call
  tick : (place : ℕ) → Call

-- Each object holds one number: it is the reading, and a committed word, the amount put or added, replaces it.
abbrev pub word_from : Word → ℕ → ℕ → ℕ
word_from Put reading amount = amount
word_from Add reading amount = reading + amount

-- the readings after an accepted commit
abbrev pub committed_to : (ℕ → ℕ) → Job → ℕ → ℕ
committed_to readings resting o = readings o
committed_to readings (computing left later) o = readings o
committed_to readings (attempting left word ticks object amount seen later) o =
    cond (o == object) (word_from word (readings object) amount) (readings o)

-- the readings after a tick of a job
abbrev pub readings_after : (ℕ → ℕ) → Job → ℕ → ℕ
readings_after readings job o = cond (commits readings job) (committed_to readings job o) (readings o)

-- the batch after a call
abbrev pub performed : (ℕ → List Step) → Call → Machine → Machine
performed plans (release a) m =
    record {
      clock = m.clock;
      releases = λ b. cond (b == a) (m.clock ∷ m.releases a) (m.releases b);
      jobs = λ b. cond (b == a) (begun (plans a)) (m.jobs b);
      last = m.last;
      readings = m.readings;
      retries = m.retries;
      preemptions = m.preemptions;
    }
performed plans (tick k) m =
    record {
      clock = m.clock + 1;
      releases = m.releases;
      jobs = λ b. cond (b == k) (after_tick m.readings (m.jobs k)) (m.jobs b);
      last = cond (is_at_rest (after_tick m.readings (m.jobs k))) None (Some k);
      readings = readings_after m.readings (m.jobs k);
      retries = m.retries + bit (refused m.readings (m.jobs k));
      preemptions = m.preemptions + preemption m.last k;
    }

-- a batch just opened, over objects that hold 0
abbrev pub opening : Machine
opening =
    record { clock = 0; releases = λ _. []; jobs = λ _. resting; last = None; readings = λ _. 0; retries = 0; preemptions = 0 }

-- the batch after calls, the first of them first
abbrev pub played : (ℕ → List Step) → List Call → Machine → Machine
played plans [] m = m
played plans (call ∷ calls) m = played plans calls (performed plans call m)

-- A table that passes a test, and calls that make a run of it.
pub record RunOf (Passes : Test) (order : List AdoptedTask → Order) (attempt : ℕ) (tasks : List AdoptedTask)
    (plans : ℕ → List Step) (calls : List Call) : Type 0 where
  pub passes : Passes attempt tasks
  pub fit : PlansFit attempt tasks plans
  pub run : MachineRun tasks plans (order tasks) (played plans calls opening)

-- By rank: task 1 computes and looks; task 0 preempts it and commits, so task 1 has to retry.
abbrev pub ranked_tasks : List AdoptedTask
ranked_tasks =
    record { period = 5; deadline = 5; cost = 2; rank = 0 }
    ∷ record { period = 20; deadline = 15; cost = 3; rank = 1 }
    ∷ []

abbrev pub ranked_plans : ℕ → List Step
ranked_plans a = slice_index_or ((Access Add 1 0 1 ∷ Compute 1 ∷ []) ∷ (Compute 1 ∷ Access Add 2 0 10 ∷ []) ∷ []) a []

abbrev pub ranked_calls : List Call
ranked_calls = release 1 ∷ tick 1 ∷ tick 1 ∷ release 0 ∷ tick 0 ∷ tick 0 ∷ tick 1 ∷ tick 1 ∷ tick 1 ∷ []

-- By deadline: task 0 is due at 20, task 1 is released at 2 and due at 8; it preempts, and its word spoils the attempt of task 0.
abbrev pub due_tasks : List AdoptedTask
due_tasks =
    record { period = 20; deadline = 20; cost = 3; rank = 0 }
    ∷ record { period = 10; deadline = 6; cost = 1; rank = 0 }
    ∷ []

abbrev pub due_plans : ℕ → List Step
due_plans a = slice_index_or ((Compute 1 ∷ Access Add 2 0 10 ∷ []) ∷ (Access Put 1 0 7 ∷ []) ∷ []) a []

abbrev pub due_calls : List Call
due_calls = release 0 ∷ tick 0 ∷ tick 0 ∷ release 1 ∷ tick 1 ∷ tick 0 ∷ tick 0 ∷ tick 0 ∷ []
