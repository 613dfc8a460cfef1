-- Ticks that are added to a plan.
use Rattle.std.proofs.Common.{◌≡◌, ℕ, ◌+◌, List, [], ◌∷◌, ◌++◌, map, length, take, replicate, refl, ap, ◌∙◌, arith}
use Rattle.std.proofs.lemmas.List.{length-append, map-append, take_all}
use Rattle.std.specs.List.{AppendsResults, FoldsTo}
use Rattle.runs.specs.declared.calls.Call.{Call}
use Rattle.runs.specs.declared.calls.Call.TheVariants.{Tick}
use Rattle.runs.specs.Entries.{Entry, ticks, entry_of}
use Rattle.scanner.specs.Plans.{Draft}

-- the draft with other calls
abbrev pub with_entries : Draft → List Entry → Draft
with_entries d calls =
    record { rule = d.rule; tasks = d.tasks; segments = d.segments; tokens = d.tokens; calls = calls; charts = d.charts }

-- calls that are all ticks
ticks_of : {F : Type 0} (R : F → Call → F → Type 0) → ((p : F) (x : Call) (q : F) → R p x q → x ≡ Tick) → (p : F) (xs : List Call) (q : F) → FoldsTo R p xs q → map entry_of xs ≡ replicate (length xs) ticks
ticks_of R is p [] q h = refl
ticks_of R is p (x ∷ xs) q h =
    ap (λ (z : Call). entry_of z ∷ map entry_of xs) (is p x h.0 h.1) ∙ ap (λ (es : List Entry). ticks ∷ es) (ticks_of R is h.0 xs q h.2)

-- so many ticks more
pub ticks_more : {F : Type 0} (R : F → Call → F → Type 0) (f : F) (d : Draft) (xs ys : List Call) (n times : ℕ) → ((p : F) (x : Call) (q : F) → R p x q → x ≡ Tick) → AppendsResults R (take n xs) ys f → n ≡ length xs + times → length ys ≡ n → with_entries d (map entry_of ys) ≡ with_entries d (map entry_of xs ++ replicate times ticks)
ticks_more R f d xs ys n times is made at long =
    let new = made.0 in
    let all : take n xs ≡ xs = take_all n xs (omega arith) in
    let grown : ys ≡ xs ++ new = made.2 ∙ ap (λ (zs : List Call). zs ++ new) all in
    let many : length new ≡ times = omega (arith, ap (λ (zs : List Call). length zs) grown, length-append xs new) in
    ap (with_entries d)
    (ap (map entry_of) grown
    ∙ map-append entry_of xs new
    ∙ ap (λ (es : List Entry). map entry_of xs ++ es) (ticks_of R is f new made.1 made.3 ∙ ap (λ (k : ℕ). replicate k ticks) many))
