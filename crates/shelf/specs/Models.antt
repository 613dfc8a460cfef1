-- What a shelf of shared objects means.
use Rattle.std.specs.Prelude.{ℕ, Bool, cond, ◌&&◌, List, ◌==◌}

-- The rules of the objects, by their numbers. They never change.
pub record Rules : Type 0 where
  pub exists : ℕ → Bool
  -- the reading, worked out from the content alone
  pub reading : ℕ → List ℕ → ℕ
  -- the content after a committed word, worked out from content and word alone
  pub change : ℕ → List ℕ → ℕ → List ℕ

-- the content of each object, a list of numbers
abbrev pub Contents : Type 0
Contents = ℕ → List ℕ

pub record Model : Type 0 where
  pub rules : Rules
  pub contents : Contents

-- the present reading of an object, or 0 without it
abbrev pub reading_at : Model → ℕ → ℕ
reading_at m object = cond (m.rules.exists object) (m.rules.reading object (m.contents object)) 0

-- a commit is accepted exactly when the object exists and the reading brought is the present one
abbrev pub accepts : Model → ℕ → ℕ → Bool
accepts m object reading = m.rules.exists object && m.rules.reading object (m.contents object) == reading

-- the contents with one object's content replaced, every other staying
abbrev pub replaced : Contents → ℕ → List ℕ → Contents
replaced contents object content = λ other. cond (other == object) content (contents other)

-- the contents once the object has followed its change rule
abbrev pub changed : Model → ℕ → ℕ → Contents
changed m object word = replaced m.contents object (m.rules.change object (m.contents object) word)

-- the shelf after a commit, accepted or not
abbrev pub committed : Model → ℕ → ℕ → ℕ → Model
committed m object reading word =
    record { rules = m.rules; contents = cond (accepts m object reading) (changed m object word) m.contents }
