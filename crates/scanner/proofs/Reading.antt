-- The words of a line, one by one.
use Rattle.std.proofs.Common.{◌≡◌, ℕ, ◌<◌, ◌≤◌, List, [], ◌∷◌, ◌++◌, length, Some, None, Ok, Err, sym, refl, subst, arith}
use Rattle.std.specs.Char.{is_whitespace, is_not_whitespace}
use Rattle.std.specs.Str.{NoCharPasses, EmptyOrStartsWithPassing}
use Rattle.scanner.specs.Lines.{Uncommented, none, one, one_or, two, three, four, spelled, arity_of, line_of}
use Rattle.scanner.specs.Parsing.{First, Reads, ReadUpTo, Numbered, Verbed, WrongAfter, Wrong, Parsed}
use Rattle.scanner.specs.declared.script.Line.{Line}
use Rattle.scanner.specs.declared.script.LineError.{LineError}
use Rattle.scanner.specs.declared.script.LineError.TheVariants.{UnknownWord, NoNumber, TooFewNumbers, LeftOver}
use Rattle.scanner.specs.declared.script.Verb.{Verb}
use Rattle.scanner.specs.declared.script.Verb.TheVariants as verb

-- what `split_whitespace` says of an item
abbrev Item : List ℕ → List ℕ → List ℕ → Type 0
Item bs w rest =
    (gap : List ℕ) × (bs ≡ gap ++ (w ++ rest)) × (0 < length w) × NoCharPasses is_not_whitespace gap × NoCharPasses is_whitespace w × ((more : List ℕ) × EmptyOrStartsWithPassing is_whitespace rest more)

pub first_of : (bs w rest : List ℕ) → Item bs w rest → First bs w rest
first_of bs w rest cut = record { gap = cut.0; cut = cut.1; some = cut.2; blank = cut.3; solid = cut.4; ends = cut.5 }

-- one number more
pub read_more : (bs ns rest w next : List ℕ) (n : ℕ) → ReadUpTo bs ns rest → First rest w next → Reads w n → ReadUpTo bs (ns ++ n ∷ []) next
read_more bs [] rest w next n h first reads = (w, next, subst (λ x. First x w next) (sym h) first, reads, refl)
read_more bs (m ∷ ms) rest w next n h first reads =
    (h.0, h.1, h.2, h.3, read_more h.1 ms rest w next n h.4 first reads)

-- what is wrong after the verb is wrong with the line
pub wrong_after : (bs rest : List ℕ) (v : Verb) (e : LineError) → Verbed bs v rest → WrongAfter v rest e → Wrong bs e
wrong_after bs rest v (UnknownWord x) first h = absurd h
wrong_after bs rest v (NoNumber x) first h = (v, rest, first, h)
wrong_after bs rest v (TooFewNumbers u found) first h = absurd h
wrong_after bs rest v (LeftOver u x) first h = subst (λ y. Wrong bs (LeftOver y x)) (sym h.0) (rest, first, h.1)

-- lists that are not as long as they should be
none_short : (ns : List ℕ) (f : Line) → none ns f ≡ None → length ns ≤ 0 → length ns < 0
none_short [] f e h = let z : ◌≡◌ {A = ℕ} 0 1 = cc in omega arith
none_short (n ∷ ns) f e h = omega arith

one_short : (ns : List ℕ) (f : ℕ → Line) → one ns f ≡ None → length ns ≤ 1 → length ns < 1
one_short [] f e h = omega arith
one_short (n ∷ ns) f e h = omega (arith, none_short ns (f n) e (omega arith))

one_or_short : (ns : List ℕ) (absent : ℕ) (f : ℕ → Line) → one_or ns absent f ≡ None → length ns ≤ 1 → length ns < 1
one_or_short [] absent f e h = omega arith
one_or_short (n ∷ ns) absent f e h = omega (arith, none_short ns (f n) e (omega arith))

two_short : (ns : List ℕ) (f : ℕ → ℕ → Line) → two ns f ≡ None → length ns ≤ 2 → length ns < 2
two_short [] f e h = omega arith
two_short (n ∷ ns) f e h = omega (arith, one_short ns (f n) e (omega arith))

three_short : (ns : List ℕ) (f : ℕ → ℕ → ℕ → Line) → three ns f ≡ None → length ns ≤ 3 → length ns < 3
three_short [] f e h = omega arith
three_short (n ∷ ns) f e h = omega (arith, two_short ns (f n) e (omega arith))

four_short : (ns : List ℕ) (f : ℕ → ℕ → ℕ → ℕ → Line) → four ns f ≡ None → length ns ≤ 4 → length ns < 4
four_short [] f e h = omega arith
four_short (n ∷ ns) f e h = omega (arith, three_short ns (f n) e (omega arith))

-- numbers that make no line are too few, unless they are too many
pub short : (v : Verb) (ns : List ℕ) → line_of v ns ≡ None → length ns ≤ arity_of v → length ns < arity_of v
short verb.Rule ns e h = one_short ns _ e h
short verb.Task ns e h = four_short ns _ e h
short verb.Segment ns e h = four_short ns _ e h
short verb.Clear ns e h = none_short ns _ e h
short verb.Adopt ns e h = none_short ns _ e h
short verb.Open ns e h = none_short ns _ e h
short verb.Release ns e h = one_short ns _ e h
short verb.Tick ns e h = one_or_short ns _ _ e h
short verb.Close ns e h = none_short ns _ e h
short verb.Read ns e h = one_short ns _ e h
short verb.Demand ns e h = two_short ns _ e h
short verb.Chart ns e h = none_short ns _ e h

-- a text whose first word is a verb: `whole` is what is split, and `bs` what stands before the comment
module _ (text bs whole rest w : List ℕ) (v : Verb) (kept : Uncommented text bs) (same : whole ≡ bs) (item : Item whole w rest) (named : w ≡ spelled v) where
  verbed : Verbed bs v rest
  verbed = subst (λ x. First bs x rest) named (subst (λ x. First x w rest) same (first_of whole w rest item))

  -- a verb with numbers that make a line
  pub said : (ns : List ℕ) (line : Line) → Numbered rest ns → line_of v ns ≡ Some line → Parsed text (Ok (Some line))
  said ns line numbered made = (bs, kept, (v, rest, ns, verbed, numbered, made))

  -- with numbers that make none
  pub too_few : (ns : List ℕ) (found : ℕ) → Numbered rest ns → line_of v ns ≡ None → length ns ≡ found → found ≤ arity_of v → Parsed text (Err (TooFewNumbers v found))
  too_few ns found numbered made long most =
      (bs, kept, (rest, ns, verbed, numbered, long, subst (λ k. k < arity_of v) long (short v ns made (subst (λ k. k ≤ arity_of v) (sym long) most))))

  -- with a word that is wrong
  pub broken : (e : LineError) → WrongAfter v rest e → Parsed text (Err e)
  broken e wrong = (bs, kept, wrong_after bs rest v e verbed wrong)
