-- The words of a script, and the line that a word and its numbers make.
use Rattle.std.specs.Prelude.{◌≡◌, ℕ, ◌<◌, ◌⊎◌, List, [], ◌∷◌, ◌++◌, length, Some, None, codes, Option, ◌≢◌, slice_index}
use Rattle.scanner.specs.declared.script.Line.{Line}
use Rattle.scanner.specs.declared.script.Line.TheVariants as line
use Rattle.scanner.specs.declared.script.Verb.{Verb}
use Rattle.scanner.specs.declared.script.Verb.TheVariants as verb

-- no byte is a number sign, which starts a comment
abbrev pub NoSign : List ℕ → Type 0
NoSign bs = (i : ℕ) → i < length bs → slice_index bs i ≢ 35

-- kept is the text up to the first number sign, or the whole text
abbrev pub Uncommented : List ℕ → List ℕ → Type 0
Uncommented text kept = NoSign kept × ((kept ≡ text) ⊎ ((comment : List ℕ) × (text ≡ kept ++ (35 ∷ comment))))

-- how a verb is written
abbrev pub spelled : Verb → List ℕ
spelled verb.Rule = codes "rule"
spelled verb.Task = codes "task"
spelled verb.Segment = codes "segment"
spelled verb.Clear = codes "clear"
spelled verb.Adopt = codes "adopt"
spelled verb.Open = codes "open"
spelled verb.Release = codes "release"
spelled verb.Tick = codes "tick"
spelled verb.Close = codes "close"
spelled verb.Read = codes "read"
spelled verb.Demand = codes "demand"
spelled verb.Chart = codes "chart"

-- how many numbers follow it; tick alone is one tick
abbrev pub arity_of : Verb → ℕ
arity_of verb.Rule = 1
arity_of verb.Task = 4
arity_of verb.Segment = 4
arity_of verb.Clear = 0
arity_of verb.Adopt = 0
arity_of verb.Open = 0
arity_of verb.Release = 1
arity_of verb.Tick = 1
arity_of verb.Close = 0
arity_of verb.Read = 1
arity_of verb.Demand = 2
arity_of verb.Chart = 0

-- lists of exactly so many numbers
abbrev pub none : List ℕ → Line → Option Line
none [] made = Some made
none (a ∷ more) made = None

abbrev pub one : List ℕ → (ℕ → Line) → Option Line
one [] made = None
one (a ∷ more) made = none more (made a)

abbrev pub two : List ℕ → (ℕ → ℕ → Line) → Option Line
two [] made = None
two (a ∷ more) made = one more (made a)

abbrev pub three : List ℕ → (ℕ → ℕ → ℕ → Line) → Option Line
three [] made = None
three (a ∷ more) made = two more (made a)

abbrev pub four : List ℕ → (ℕ → ℕ → ℕ → ℕ → Line) → Option Line
four [] made = None
four (a ∷ more) made = three more (made a)

-- a list of at most one number, with what stands for none
abbrev pub one_or : List ℕ → ℕ → (ℕ → Line) → Option Line
one_or [] absent made = Some (made absent)
one_or (a ∷ more) absent made = none more (made a)

-- the line of a verb and its numbers, if they are as many as it takes
abbrev pub line_of : Verb → List ℕ → Option Line
line_of verb.Rule ns = one ns line.Rule
line_of verb.Task ns =
    four ns (λ p d f m. line.Task (record { period = p; deadline = d; first = f; count = m; rank = 0; witness = 0 }))
line_of verb.Segment ns = four ns (λ k s o a. line.Segment (record { kind = k; size = s; object = o; amount = a }))
line_of verb.Clear ns = none ns line.Clear
line_of verb.Adopt ns = none ns line.Adopt
line_of verb.Open ns = none ns line.Open
line_of verb.Release ns = one ns line.Release
line_of verb.Tick ns = one_or ns 1 line.Tick
line_of verb.Close ns = none ns line.Close
line_of verb.Read ns = one ns line.Read
line_of verb.Demand ns = two ns line.Demand
line_of verb.Chart ns = none ns line.Chart
