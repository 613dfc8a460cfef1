-- What a passed test gives, from what the search for witnesses and the test by deadline answer.
use Rattle.std.proofs.Common.{◌≡◌, ℕ, ◌<◌, ◌≤◌, true, false, cond, List, length, get_or, take, replicate, Some, None, Option, unwrap_or, sym, refl, ap, ◌∙◌, arith}
use Rattle.std.specs.Option.{option_map}
use Rattle.std.proofs.lemmas.List.{get_or-take, length-take-le, get_or-replicate}
use Rattle.std.proofs.lemmas.List.FromFn.{fill_by_all, length-map-range_with_len}
use Rattle.std.proofs.lemmas.Bool.{cond-true, cond-false}
use Rattle.admission.specs.declared.plan.Rule.{Rule}
use Rattle.admission.specs.declared.plan.AdoptedTask.{AdoptedTask}
use Rattle.admission.specs.declared.refusal.Refusal.TheVariants.{Unschedulable}
use Rattle.admission.specs.Search.{max_below}
use Rattle.admission.specs.Tables.{goes_by_rank}
use Rattle.admission.specs.Tests.{least_witness, lowest_unmet, hyperperiod_of}
use Rattle.admission.specs.Verdicts.{ranks_no, deadlines_no, witnesses_of}
use Rattle.admission.specs.Passing.{Passes}

module _ (rule : Rule) (attempt : ℕ) (tasks : List AdoptedTask) (few : length tasks ≤ 32) where
  abbrev witness : ℕ → ℕ
  witness place = cond (goes_by_rank rule) (unwrap_or (least_witness attempt tasks place) 0) 0

  -- an array that holds the witnesses in front
  front_is : (ws : List ℕ) → length ws ≡ 32 → ((place : ℕ) → place < length tasks → get_or ws place 0 ≡ witness place) → take (length tasks) ws ≡ witnesses_of rule attempt tasks
  front_is ws l h =
      fill_by_all witness (take (length tasks) ws) (length tasks) 0 (length-take-le (length tasks) ws (omega arith))
      (λ k b. get_or-take (length tasks) ws k 0 b ∙ h k b)

  pub passes_by_rank : (ws : List ℕ) (answer : ℕ) → goes_by_rank rule ≡ true → length ws ≡ 32 → lowest_unmet attempt tasks ≡ None
      → ((place : ℕ) → place < length tasks → least_witness attempt tasks place ≡ Some (get_or ws place 0))
      → answer ≡ max_below (length (take (length tasks) ws)) (λ k. get_or (take (length tasks) ws) k 0)
      → Passes rule attempt tasks (record { answer = answer; witnesses = ws })
  passes_by_rank ws answer r l u h a =
      let e = front_is ws l (λ place b. sym (cond-true (goes_by_rank rule) (unwrap_or (least_witness attempt tasks place) 0) 0 r ∙ ap (λ (o : Option ℕ). unwrap_or o 0) (h place b))) in
      record {
        test = cond-true (goes_by_rank rule) (ranks_no attempt tasks) (deadlines_no attempt tasks) r ∙ ap (option_map Unschedulable) u;
        witnesses = e;
        answer =
            a
            ∙ ap (λ (xs : List ℕ). max_below (length xs) (λ k. get_or xs k 0)) e
            ∙ ap (λ (n : ℕ). max_below n (λ k. get_or (witnesses_of rule attempt tasks) k 0)) (length-map-range_with_len witness 0 (length tasks))
            ∙ sym (cond-true (goes_by_rank rule) (max_below (length tasks) (λ k. get_or (witnesses_of rule attempt tasks) k 0)) (unwrap_or (hyperperiod_of tasks) 0) r);
      }

  pub passes_by_deadline : (answer : ℕ) → goes_by_rank rule ≡ false → deadlines_no attempt tasks ≡ None → answer ≡ unwrap_or (hyperperiod_of tasks) 0
      → Passes rule attempt tasks (record { answer = answer; witnesses = replicate 32 0 })
  passes_by_deadline answer r d a =
      record {
        test = cond-false (goes_by_rank rule) (ranks_no attempt tasks) (deadlines_no attempt tasks) r ∙ d;
        witnesses =
            front_is (replicate 32 0) refl (λ place b.
            get_or-replicate 32 place 0 0 (omega arith) ∙ sym (cond-false (goes_by_rank rule) (unwrap_or (least_witness attempt tasks place) 0) 0 r));
        answer = a ∙ sym (cond-false (goes_by_rank rule) (max_below (length tasks) (λ k. get_or (witnesses_of rule attempt tasks) k 0)) (unwrap_or (hyperperiod_of tasks) 0) r);
      }
