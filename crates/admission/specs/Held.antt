-- The table that a value holds, and what a decision about a table amounts to.
use Rattle.std.specs.Prelude.{◌≡◌, ℕ, map, length, Ok, Err, Result}
use Rattle.admission.specs.declared.refusal.Refusal.{Refusal}
use Rattle.admission.specs.declared.adopt.Decision.{Decision}
use Rattle.admission.specs.Verdicts.{answer_of}
use Rattle.admission.specs.declared.table.AdoptedTable.{AdoptedTable}
use Rattle.admission.specs.Tables.{Table, steps_in}

abbrev pub held : AdoptedTable → Table
held t =
    record {
      rule = t.rule;
      attempt = t.attempt;
      tasks = t.tasks.items;
      witnesses = t.witnesses.items;
      plans = map steps_in t.plans.items;
    }

-- a decision agrees with a verdict on lists with so many tasks
abbrev pub Decided : Result Table Refusal → ℕ → Result Decision Refusal → Type 0
Decided verdict count (Ok decision) =
    (verdict ≡ Ok (held decision.table)) × (decision.answer ≡ answer_of (held decision.table)) × (length decision.table.tasks.items ≡ count)
Decided verdict count (Err refusal) = verdict ≡ Err refusal
