-- The story of a run over the caller's list, turn by turn.
use Rattle.std.proofs.Common.{◌≡◌, ℕ, ◌+◌, ◌<◌, ◌≤◌, Bool, List, [], ◌∷◌, ◌++◌, map, length, get_or, take, drop, set, sym, refl, ap, ◌∙◌}
use Rattle.std.proofs.lemmas.List.{map_more, map_push, take_more_set, take_all, drop_more}
use Rattle.shelf.specs.Models.{Model}
use Rattle.controller.specs.Machines.{Machine, new_machine}
use Rattle.runs.specs.declared.calls.Call.{Call}
use Rattle.runs.specs.declared.calls.Answer.{Answer}
use Rattle.runs.specs.Entries.{entry_of, answered, stepped, held_after, lists_after}
use Rattle.runs.specs.Laws.{RunLaw}
use Rattle.runs.proofs.Stories.{Story, story_more, story_law}

pub story_new : (m₀ : Machine) (rs : List Answer) (m : Machine) (hs : List Bool) → rs ≡ [] → m ≡ m₀ → hs ≡ [] → Story m₀ [] [] rs m hs
story_new m₀ rs m hs er em eh = record { answers = er; machine = em; held = eh; lists = refl }

-- the call at i is still the caller's own
same_call : (cs ds : List Call) (i : ℕ) (x : Call) → i < length cs → i < length ds → drop i ds ≡ drop i cs → x ≡ get_or ds i x → get_or cs i x ≡ x
same_call cs ds i x h l e v =
    let rest : get_or ds i x ∷ drop (i + 1) ds ≡ get_or cs i x ∷ drop (i + 1) cs = sym (drop_more ds i x l) ∙ e ∙ drop_more cs i x h in
    cc

pub loop_more : (m₀ : Machine) (cs ds : List Call) (rs us : List Answer) (m n : Machine) (hs gs : List Bool) (i : ℕ) (x y : Call) (a : Answer) → Story m₀ (map entry_of (take i cs)) (map entry_of (take i ds)) rs m hs → i < length cs → i < length ds → drop i ds ≡ drop i cs → x ≡ get_or ds i x → a ≡ answered m hs (entry_of x) → n ≡ stepped m hs (entry_of x) → gs ≡ held_after m hs (entry_of x) → entry_of y ≡ lists_after m (entry_of x) → us ≡ rs ++ a ∷ [] → Story m₀ (map entry_of (take (i + 1) cs)) (map entry_of (take (i + 1) (set ds i y))) us n gs
loop_more m₀ cs ds rs us m n hs gs i x y a T h l e v ea en eg ey eu =
    let T' = story_more m₀ (map entry_of (take i cs)) (map entry_of (take i ds)) rs m hs (entry_of x) (entry_of y) a n gs T ea en eg ey in
    let ec : map entry_of (take (i + 1) cs) ≡ map entry_of (take i cs) ++ entry_of x ∷ [] = rw (same_call cs ds i x h l e v) at (map_more entry_of cs i x h) in
    let ed : map entry_of (take (i + 1) (set ds i y)) ≡ map entry_of (take i ds) ++ entry_of y ∷ [] = ap (map entry_of) (take_more_set ds i y l) ∙ map_push entry_of (take i ds) y in
    rw (ec, ed, eu) T'

pub loop_end : (s : Model) (cs ds : List Call) (rs : List Answer) (m : Machine) (hs : List Bool) (i : ℕ) → length cs ≤ i → length ds ≤ i → Story (new_machine s) (map entry_of (take i cs)) (map entry_of (take i ds)) rs m hs → RunLaw s (map entry_of cs) (map entry_of ds) rs m hs
loop_end s cs ds rs m hs i h l T =
    story_law s (map entry_of cs) (map entry_of ds) rs m hs (rw (take_all i cs h, take_all i ds l) at T)
