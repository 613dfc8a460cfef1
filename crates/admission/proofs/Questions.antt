-- The questions about the limits, as the loops that ask them meet them.
use Rattle.std.proofs.Common.{◌≡◌, ℕ, ◌+◌, ◌<◌, List, length, get_or, drop, Some, None, Ok, Err, Option, refl, ap, ◌∙◌, arith}
use Rattle.std.proofs.lemmas.List.{at_drop_more}
use Rattle.shelf.specs.Models.{Rules}
use Rattle.admission.specs.declared.task.Segment.{Segment}
use Rattle.admission.specs.declared.task.Task.{Task}
use Rattle.admission.specs.declared.refusal.Refusal.{Refusal}
use Rattle.admission.specs.Tables.{no_task}
use Rattle.admission.specs.Verdicts.{first_no, unless, task_no, tasks_no}

-- a refusal, or none, seen from the answer
pub unless_err : {X : Type 0} (o : Option Refusal) (x : X) (e : Refusal) → unless o x ≡ Err e → o ≡ Some e
unless_err None x e h = absurd (let z : ◌≡◌ {A = ℕ} 0 1 = cc in omega arith)
unless_err (Some d) x e h = cc

pub unless_ok : {X : Type 0} (o : Option Refusal) (x y : X) → unless o x ≡ Ok y → o ≡ None
unless_ok None x y h = refl
unless_ok (Some d) x y h = absurd (let z : ◌≡◌ {A = ℕ} 0 1 = cc in omega arith)

module _ (rules : Rules) (segments : List Segment) (place : ℕ) (tasks : List Task) (k : ℕ) (inside : k < length tasks) where
  pub tasks_refused : (e : Refusal) → task_no rules segments place (get_or tasks k no_task) ≡ Some e → tasks_no rules segments place (drop k tasks) ≡ Some e
  tasks_refused e h =
      at_drop_more (tasks_no rules segments place) tasks k no_task inside
      ∙ ap (λ (o : Option Refusal). first_no o (tasks_no rules segments (place + 1) (drop (k + 1) tasks))) h

  pub tasks_next : task_no rules segments place (get_or tasks k no_task) ≡ None → tasks_no rules segments place (drop k tasks) ≡ tasks_no rules segments (place + 1) (drop (k + 1) tasks)
  tasks_next h =
      at_drop_more (tasks_no rules segments place) tasks k no_task inside
      ∙ ap (λ (o : Option Refusal). first_no o (tasks_no rules segments (place + 1) (drop (k + 1) tasks))) h
