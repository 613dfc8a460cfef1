-- What a text says: its words, the numbers among them, the line, and what is wrong with it.
use Rattle.std.specs.Prelude.{◌≡◌, ℕ, ◌^◌, ◌<◌, List, [], ◌∷◌, ◌++◌, length, Some, None, Option, Result, MatchResult, ◌≢◌}
use Rattle.std.specs.Str.Parse.{IsNumeral, without_leading_plus, digits_value}
use Rattle.std.specs.Char.{is_whitespace, is_not_whitespace}
use Rattle.std.specs.Str.{NoCharPasses, EmptyOrStartsWithPassing}
use Rattle.scanner.specs.Lines.{Uncommented, spelled, arity_of, line_of}
use Rattle.scanner.specs.declared.script.Line.{Line}
use Rattle.scanner.specs.declared.script.LineError.{LineError}
use Rattle.scanner.specs.declared.script.LineError.TheVariants.{UnknownWord, NoNumber, TooFewNumbers, LeftOver}
use Rattle.scanner.specs.declared.script.Verb.{Verb}

-- bs is white space, the word w, and rest, which is empty or begins with white space
pub record First (bs w rest : List ℕ) : Type 0 where
  pub gap : List ℕ
  pub cut : bs ≡ gap ++ (w ++ rest)
  pub some : 0 < length w
  pub blank : NoCharPasses is_not_whitespace gap
  pub solid : NoCharPasses is_whitespace w
  pub ends : (more : List ℕ) × EmptyOrStartsWithPassing is_whitespace rest more

-- w is a number that fits, in base ten, perhaps after a plus
abbrev pub IsNumber : List ℕ → Type 0
IsNumber w = IsNumeral 10 (without_leading_plus w) × (digits_value 10 (without_leading_plus w) < 2 ^ 32)

abbrev pub Reads : List ℕ → ℕ → Type 0
Reads w n = IsNumber w × (n ≡ digits_value 10 (without_leading_plus w))

abbrev pub Misread : List ℕ → LineError → Type 0
Misread w (UnknownWord x) = ⊥
Misread w (NoNumber x) = (x.now ≡ w) × (IsNumber w → ⊥)
Misread w (TooFewNumbers v found) = ⊥
Misread w (LeftOver v x) = ⊥

-- the words of bs that stand before rest are the numbers ns
abbrev pub ReadUpTo : List ℕ → List ℕ → List ℕ → Type 0
ReadUpTo bs [] rest = bs ≡ rest
ReadUpTo bs (n ∷ ns) rest = (w : List ℕ) × (next : List ℕ) × First bs w next × Reads w n × ReadUpTo next ns rest

-- the words of bs are the numbers ns
abbrev pub Numbered : List ℕ → List ℕ → Type 0
Numbered bs ns = (rest : List ℕ) × ReadUpTo bs ns rest × NoCharPasses is_not_whitespace rest

-- a verb, and what follows it
abbrev pub Verbed : List ℕ → Verb → List ℕ → Type 0
Verbed bs v rest = First bs (spelled v) rest

-- after fewer numbers than v takes, w is none
abbrev pub BadNumber : Verb → List ℕ → List ℕ → Type 0
BadNumber v bs w =
    (ns : List ℕ) × (rest : List ℕ) × (next : List ℕ) × ReadUpTo bs ns rest × (length ns < arity_of v) × First rest w next × (IsNumber w → ⊥)

-- after as many numbers as v takes, there is w
abbrev pub OneMore : Verb → List ℕ → List ℕ → Type 0
OneMore v bs w =
    (ns : List ℕ) × (rest : List ℕ) × (next : List ℕ) × ReadUpTo bs ns rest × (length ns ≡ arity_of v) × First rest w next

-- what is wrong with what follows v
abbrev pub WrongAfter : Verb → List ℕ → LineError → Type 0
WrongAfter v bs (UnknownWord w) = ⊥
WrongAfter v bs (NoNumber w) = BadNumber v bs w.now
WrongAfter v bs (TooFewNumbers u found) = ⊥
WrongAfter v bs (LeftOver u w) = (u ≡ v) × OneMore v bs w.now

-- what is wrong with a text that has no comment
abbrev pub Wrong : List ℕ → LineError → Type 0
Wrong bs (UnknownWord w) = ((rest : List ℕ) × First bs w.now rest) × ((v : Verb) → w.now ≢ spelled v)
Wrong bs (NoNumber w) = (v : Verb) × (rest : List ℕ) × Verbed bs v rest × BadNumber v rest w.now
Wrong bs (TooFewNumbers v found) =
    (rest : List ℕ) × (ns : List ℕ) × Verbed bs v rest × Numbered rest ns × (length ns ≡ found) × (found < arity_of v)
Wrong bs (LeftOver v w) = (rest : List ℕ) × Verbed bs v rest × OneMore v rest w.now

-- what a text that has no comment says
abbrev pub Says : List ℕ → Option Line → Type 0
Says bs None = NoCharPasses is_not_whitespace bs
Says bs (Some line) =
    (v : Verb) × (rest : List ℕ) × (ns : List ℕ) × Verbed bs v rest × Numbered rest ns × (line_of v ns ≡ Some line)

-- what comes of a text
abbrev pub Parsed : List ℕ → Result (Option Line) LineError → Type 0
Parsed text r = (bs : List ℕ) × Uncommented text bs × MatchResult r (Says bs) (Wrong bs)
