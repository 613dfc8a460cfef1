-- What two shelves side by side mean: number 2k names object k of the first, 2k + 1 names object k of the second.
use Rattle.std.specs.Prelude.{ℕ, ◌/◌, ◌%◌, cond, ◌&&◌, ◌==◌, nat_le}
use Rattle.shelf.specs.Models.{Rules, Model}

-- what the first shelf has for an even number, what the second has for an odd one
abbrev pub of_side : {X : Type 0} → ℕ → (ℕ → X) → (ℕ → X) → X
of_side object first second = cond (object % 2 == 0) (first (object / 2)) (second (object / 2))

abbrev pub pair_rules : Rules → Rules → Rules
pair_rules first second =
    record {
      exists = λ object. nat_le object 65535 && of_side object first.exists second.exists;
      reading = λ object. of_side object first.reading second.reading;
      change = λ object. of_side object first.change second.change;
    }

abbrev pub pair_model : Model → Model → Model
pair_model first second =
    record { rules = pair_rules first.rules second.rules; contents = λ object. of_side object first.contents second.contents }
