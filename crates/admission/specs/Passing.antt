-- What a test that a table passes gives.
use Rattle.std.specs.Prelude.{◌≡◌, ℕ, cond, List, length, take, Some, None, Ok, Err, Result, slice_index}
use Rattle.std.specs.Option.{unwrap_or}
use Rattle.admission.specs.declared.plan.Rule.{Rule}
use Rattle.admission.specs.declared.plan.AdoptedTask.{AdoptedTask}
use Rattle.admission.specs.declared.refusal.Refusal.{Refusal}
use Rattle.admission.specs.declared.test.Passed.{Passed}
use Rattle.admission.specs.Search.{max_below}
use Rattle.admission.specs.Tables.{goes_by_rank}
use Rattle.admission.specs.Tests.{hyperperiod_of}
use Rattle.admission.specs.Verdicts.{test_no, witnesses_of}

-- the greatest witness, or the hyperperiod
abbrev pub answer_under : Rule → List AdoptedTask → List ℕ → ℕ
answer_under rule tasks witnesses =
    cond (goes_by_rank rule) (max_below (length tasks) (λ place. slice_index witnesses place)) (unwrap_or (hyperperiod_of tasks) 0)

pub record Passes (rule : Rule) (attempt : ℕ) (tasks : List AdoptedTask) (passed : Passed) : Type 0 where
  pub test : test_no rule attempt tasks ≡ None
  pub witnesses : take (length tasks) passed.witnesses ≡ witnesses_of rule attempt tasks
  pub answer : passed.answer ≡ answer_under rule tasks (witnesses_of rule attempt tasks)

abbrev pub Tested : Rule → ℕ → List AdoptedTask → Result Passed Refusal → Type 0
Tested rule attempt tasks (Ok passed) = Passes rule attempt tasks passed
Tested rule attempt tasks (Err refusal) = test_no rule attempt tasks ≡ Some refusal
