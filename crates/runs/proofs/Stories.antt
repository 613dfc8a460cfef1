-- A list of calls, and its law by one induction along it.
use Rattle.std.proofs.Common.{◌≡◌, ℕ, zero, suc, Bool, List, [], ◌∷◌, ◌++◌, take, sym, refl}
use Rattle.shelf.specs.Models.{Model}
use Rattle.controller.specs.Machines.{Machine, new_machine}
use Rattle.runs.specs.declared.calls.Answer.{Answer}
use Rattle.runs.specs.Entries.{Entry, answered, stepped, held_after, lists_after, answered_all, stepped_all, held_all, lists_all}
use Rattle.runs.specs.Ledger.{Ledger, start, feed}
use Rattle.runs.specs.Laws.{Law, after, written_all, TokensKept, RunLaw}
use Rattle.runs.proofs.Agree.{Agrees}
use Rattle.runs.proofs.Keeping.{kept, tokens_kept}
use Rattle.runs.proofs.Steps.{start_agrees, step}

-- wherever ledger and controller agree, every list of calls keeps the law
pub lawful : (L : Ledger) (m : Machine) (hs : List Bool) (es : List Entry) → Agrees L m hs → Law L es (answered_all m hs es)
lawful L m hs [] A = kept L m hs A
lawful L m hs (e ∷ es) A =
    let P = step L m hs e A in (
      kept L m hs A,
      P.fits,
      lawful (feed L e (answered m hs e)) (stepped m hs e) (held_after m hs e) es P.next,
    )

pub agrees_after : (L : Ledger) (m : Machine) (hs : List Bool) (es : List Entry) → Agrees L m hs → Agrees (after L es (answered_all m hs es)) (stepped_all m hs es) (held_all m hs es)
agrees_after L m hs [] A = A
agrees_after L m hs (e ∷ es) A =
    agrees_after (feed L e (answered m hs e)) (stepped m hs e) (held_after m hs e) es (step L m hs e A).next

-- and holds one good token while a batch is open, none else
tokens_after : (L : Ledger) (m : Machine) (hs : List Bool) (es : List Entry) → Agrees L m hs → TokensKept (after L es (answered_all m hs es))
tokens_after L m hs es A = tokens_kept (after L es (answered_all m hs es)) (stepped_all m hs es) (held_all m hs es) (agrees_after L m hs es A)

lists_are : (L : Ledger) (m : Machine) (hs : List Bool) (es : List Entry) → Agrees L m hs → lists_all m hs es ≡ written_all L es (answered_all m hs es)
lists_are L m hs [] A = refl
lists_are L m hs (e ∷ es) A =
    let P = step L m hs e A in
    rw (P.lists, lists_are (feed L e (answered m hs e)) (stepped m hs e) (held_after m hs e) es P.next) refl

-- the first answers are those to the first calls
answers_take : (m : Machine) (hs : List Bool) (es : List Entry) (k : ℕ) → answered_all m hs (take k es) ≡ take k (answered_all m hs es)
answers_take m hs es zero = refl
answers_take m hs [] (suc k) = refl
answers_take m hs (e ∷ es) (suc k) =
    rw (answers_take (stepped m hs e) (held_after m hs e) es k) refl

-- what a loop over the calls has done: nothing but the calls
pub record Story (m₀ : Machine) (es ds : List Entry) (rs : List Answer) (m : Machine) (hs : List Bool) : Type 0 where
  pub answers : rs ≡ answered_all m₀ [] es
  pub machine : m ≡ stepped_all m₀ [] es
  pub held : hs ≡ held_all m₀ [] es
  pub lists : ds ≡ lists_all m₀ [] es

-- one more call at the end
module _ (e : Entry) where
  answered_more : (m : Machine) (hs : List Bool) (es : List Entry) → answered_all m hs (es ++ e ∷ []) ≡ answered_all m hs es ++ answered (stepped_all m hs es) (held_all m hs es) e ∷ []
  answered_more m hs [] = refl
  answered_more m hs (d ∷ es) = rw (answered_more (stepped m hs d) (held_after m hs d) es) refl

  stepped_more : (m : Machine) (hs : List Bool) (es : List Entry) → stepped_all m hs (es ++ e ∷ []) ≡ stepped (stepped_all m hs es) (held_all m hs es) e
  stepped_more m hs [] = refl
  stepped_more m hs (d ∷ es) = stepped_more (stepped m hs d) (held_after m hs d) es

  held_more : (m : Machine) (hs : List Bool) (es : List Entry) → held_all m hs (es ++ e ∷ []) ≡ held_after (stepped_all m hs es) (held_all m hs es) e
  held_more m hs [] = refl
  held_more m hs (d ∷ es) = held_more (stepped m hs d) (held_after m hs d) es

  lists_more : (m : Machine) (hs : List Bool) (es : List Entry) → lists_all m hs (es ++ e ∷ []) ≡ lists_all m hs es ++ lists_after (stepped_all m hs es) e ∷ []
  lists_more m hs [] = refl
  lists_more m hs (d ∷ es) = rw (lists_more (stepped m hs d) (held_after m hs d) es) refl

pub story_more : (m₀ : Machine) (es ds : List Entry) (rs : List Answer) (m : Machine) (hs : List Bool) (e d : Entry) (a : Answer) (n : Machine) (gs : List Bool) → Story m₀ es ds rs m hs → a ≡ answered m hs e → n ≡ stepped m hs e → gs ≡ held_after m hs e → d ≡ lists_after m e → Story m₀ (es ++ e ∷ []) (ds ++ d ∷ []) (rs ++ a ∷ []) n gs
story_more m₀ es ds rs m hs e d a n gs T ea en eg ed =
    record {
      answers = rw (ea, T.answers, T.machine, T.held, answered_more e m₀ [] es) refl;
      machine = rw (en, T.machine, T.held, stepped_more e m₀ [] es) refl;
      held = rw (eg, T.machine, T.held, held_more e m₀ [] es) refl;
      lists = rw (ed, T.lists, T.machine, lists_more e m₀ [] es) refl;
    }

-- the whole promise, of the calls alone
run_law : (model : Model) (es : List Entry) → RunLaw model es (lists_all (new_machine model) [] es) (answered_all (new_machine model) [] es) (stepped_all (new_machine model) [] es) (held_all (new_machine model) [] es)
run_law model es =
    let A = start_agrees model in
    let m = new_machine model in
    let B = agrees_after (start model) m [] es A in
    record {
      law = lawful (start model) m [] es A;
      contents = sym B.model_is;
      throughout = λ k.
          rw (answers_take m [] es k) at (sym (agrees_after (start model) m [] (take k es) A).model_is);
      lists = lists_are (start model) m [] es A;
      tokens = sym B.held_is;
      tokens_throughout = λ k.
          rw (answers_take m [] es k) at (tokens_after (start model) m [] (take k es) A);
      answered_by = refl;
      left_by = refl;
      onward = λ more. lawful (after (start model) es (answered_all m [] es)) (stepped_all m [] es) (held_all m [] es) more B;
      tokens_onward = λ more. tokens_after (after (start model) es (answered_all m [] es)) (stepped_all m [] es) (held_all m [] es) more B;
    }

pub story_law : (model : Model) (es ds : List Entry) (rs : List Answer) (m : Machine) (hs : List Bool) → Story (new_machine model) es ds rs m hs → RunLaw model es ds rs m hs
story_law model es ds rs m hs T =
    rw (T.lists, T.answers, T.machine, T.held) (run_law model es)
