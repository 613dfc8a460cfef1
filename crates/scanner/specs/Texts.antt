-- The text of an answer.
use Rattle.std.specs.Prelude.{ℕ, Bool, cond, List, ◌++◌, codes, decimal}
use Rattle.admission.specs.Refusals.{numbered}
use Rattle.controller.specs.Events.{event_number, event_object, event_word}
use Rattle.controller.specs.declared.job.Sums.{Sums}
use Rattle.controller.specs.declared.job.Ticked.{Ticked}
use Rattle.runs.specs.declared.calls.Answer.{Answer}
use Rattle.runs.specs.declared.calls.Answer.TheVariants.{Taken, Opened, Released, Worked, Closed, Reading, Demanded, NoToken, Refused}
use Rattle.scanner.specs.declared.print.Said.{Said}
use Rattle.scanner.specs.declared.print.Stamp.{Stamp}

-- a word, a number and what follows
abbrev field : List ℕ → ℕ → List ℕ → List ℕ
field name n more = name ++ (decimal n ++ more)

abbrev pub yes_no_text : Bool → List ℕ
yes_no_text b = cond b (codes "yes") (codes "no")

-- a tick, with the clock after it
abbrev pub tick_text : ℕ → Ticked → List ℕ
tick_text clock t =
    field (codes "tick ") clock
    (field (codes " place ") t.place
    (field (codes " event ") (event_number t.event)
    (field (codes " object ") (event_object t.event)
    (field (codes " word ") (event_word t.event) (codes " finished " ++ yes_no_text t.finished)))))

abbrev pub sums_text : Sums → List ℕ
sums_text s =
    field (codes "closed ticks ") s.ticks
    (field (codes " releases ") s.releases
    (field (codes " finished ") s.finished
    (field (codes " pending ") s.pending
    (field (codes " retries ") s.retries (codes " overtakings " ++ decimal s.preemptions)))))

abbrev pub answer_text : ℕ → Answer → List ℕ
answer_text clock (Taken answer) = codes "taken " ++ decimal answer
answer_text clock Opened = codes "opened"
answer_text clock (Released deadline) = codes "released " ++ decimal deadline
answer_text clock (Worked tick) = tick_text clock tick
answer_text clock (Closed sums) = sums_text sums
answer_text clock (Reading reading) = codes "reading " ++ decimal reading
answer_text clock (Demanded work charge) = field (codes "demand ") work (codes " " ++ decimal charge)
answer_text clock NoToken = codes "no token"
answer_text clock (Refused refusal) = field (codes "refused ") (numbered refusal).0 (codes " " ++ decimal (numbered refusal).1)

abbrev pub said_text : Said → List ℕ
said_text s = answer_text s.clock s.answer

abbrev pub stamp_text : Stamp → List ℕ
stamp_text s =
    field (codes "task ") s.place (field (codes " rank ") s.task.rank (codes " witness " ++ decimal s.task.witness))
