-- What a queue means: object 0, whose content is the number of words missed and then the waiting words, oldest first.
use Rattle.std.specs.Prelude.{ℕ, ◌+◌, min, cond, List, [], ◌∷◌, ◌++◌, length, drop, ◌==◌, nat_lt}
use Rattle.shelf.specs.Models.{Rules, Model}

-- the reading is how many words wait
abbrev pub waiting_in : List ℕ → ℕ
waiting_in content = length (drop 1 content)

-- Word 0 removes the oldest word, if any waits. Another word goes last, unless 64 wait: then one more is missed.
abbrev pub queue_change : List ℕ → ℕ → List ℕ
queue_change [] word = []
queue_change (missed ∷ words) word =
    cond (word == 0) (missed ∷ drop 1 words)
    (cond (nat_lt (length words) 64) (missed ∷ (words ++ word ∷ [])) (min (missed + 1) 4294967295 ∷ words))

abbrev pub queue_rules : Rules
queue_rules = record { exists = λ object. (object == 0); reading = λ _. waiting_in; change = λ _. queue_change }

abbrev pub queue_model : ℕ → List ℕ → Model
queue_model missed words = record { rules = queue_rules; contents = λ object. cond (object == 0) (missed ∷ words) [] }
