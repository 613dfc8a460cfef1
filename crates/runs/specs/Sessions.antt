-- What a session is to the law: the controller as plain lists and numbers, and which of the tokens held are good.
use Rattle.std.specs.Prelude.{◌≡◌, ◌+◌, ◌≤◌, Bool, List, vec_len, vec_capacity}
use Rattle.shelf.specs.Models.{Model}
use Rattle.controller.specs.Machines.{Machine, machine}
use Rattle.runs.specs.declared.session.Session.{Session}
use Rattle.runs.specs.Entries.{goods}

abbrev pub machine_of : {S : Type 0} → (S → Model) → Session S → Machine
machine_of model session = machine (model session.controller.shelf) session.controller.core

abbrev pub held_in : {S : Type 0} → Session S → List Bool
held_in session = goods session.tokens.items

-- at most one token more is held, in the same room
abbrev pub Grown : {S : Type 0} → Session S → Session S → Type 0
Grown old new =
    (vec_len new.tokens ≤ vec_len old.tokens + 1) × (vec_capacity new.tokens ≡ vec_capacity old.tokens)
