-- What a cell means: object 0, whose content is one number. The number is the reading, and a word replaces it.
use Rattle.std.specs.Prelude.{ℕ, cond, [], ◌∷◌, ◌==◌, slice_index}
use Rattle.shelf.specs.Models.{Rules, Model}

abbrev pub cell_rules : Rules
cell_rules = record { exists = λ object. (object == 0); reading = λ _ content. slice_index content 0; change = λ _ _ word. word ∷ [] }

abbrev pub cell_model : ℕ → Model
cell_model value = record { rules = cell_rules; contents = λ object. cond (object == 0) (value ∷ []) [] }
