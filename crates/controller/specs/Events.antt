-- The number and the values of each event.
use Rattle.std.specs.Prelude.{ℕ}
use Rattle.controller.specs.declared.job.Event.{Event}
use Rattle.controller.specs.declared.job.Event.TheVariants.{Computed, Attempted, Committed, Retried, Idle}

abbrev pub event_number : Event → ℕ
event_number Computed = 0
event_number Attempted = 1
event_number (Committed object word) = 2
event_number (Retried object) = 3
event_number Idle = 4

abbrev pub event_object : Event → ℕ
event_object Computed = 0
event_object Attempted = 0
event_object (Committed object word) = object
event_object (Retried object) = object
event_object Idle = 0

abbrev pub event_word : Event → ℕ
event_word Computed = 0
event_word Attempted = 0
event_word (Committed object word) = word
event_word (Retried object) = 0
event_word Idle = 0
