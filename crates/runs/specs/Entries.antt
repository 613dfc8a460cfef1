-- A call with its lists as they stand, and what a controller makes of it and of a list of calls.
use Rattle.std.specs.Prelude.{ℕ, ◌+◌, Bool, true, false, cond, List, [], ◌∷◌, ◌++◌, map, length, take, drop, Ok, Err, vec_items, Result, nat_lt, slice_index_or}
use Rattle.admission.specs.declared.refusal.Refusal.{Refusal}
use Rattle.admission.specs.declared.task.Segment.{Segment}
use Rattle.admission.specs.declared.task.Task.{Task}
use Rattle.controller.specs.declared.job.Sums.{Sums}
use Rattle.controller.specs.declared.job.Ticked.{Ticked}
use Rattle.controller.specs.declared.token.BatchToken.{BatchToken}
use Rattle.controller.specs.Machines.{Machine, adopting, adopted, stamped_list, opening, opened, openable, releasing, released, ticking, ticked, closing, closed, reading_of, demand_of}
use Rattle.runs.specs.declared.calls.Call.{Call}
use Rattle.runs.specs.declared.calls.Call.TheVariants.{Adopt, Open, Release, Tick, Close, Read, Demand}
use Rattle.runs.specs.declared.calls.Answer.{Answer}
use Rattle.runs.specs.declared.calls.Answer.TheVariants.{Taken, Opened, Released, Worked, Closed, Reading, Demanded, NoToken, Refused}

pub data Entry : Type 0 where
  adopts : (rule : ℕ) (tasks : List Task) (segments : List Segment) → Entry
  opens : Entry
  releases : (place : ℕ) → Entry
  ticks : Entry
  closes : (which : ℕ) → Entry
  reads : (object : ℕ) → Entry
  demands : (place t : ℕ) → Entry

abbrev pub entry_of : Call → Entry
entry_of (Adopt rule tasks segments) = adopts rule (vec_items tasks) (vec_items segments)
entry_of Open = opens
entry_of (Release place) = releases place
entry_of Tick = ticks
entry_of (Close which) = closes which
entry_of (Read object) = reads object
entry_of (Demand place t) = demands place t

-- whether a call was granted
abbrev pub granted : Answer → Bool
granted (Taken answer) = true
granted Opened = true
granted (Released deadline) = true
granted (Worked tick) = true
granted (Closed sums) = true
granted (Reading reading) = true
granted (Demanded work charge) = true
granted NoToken = false
granted (Refused refusal) = false

-- which of the tokens are good
abbrev pub is_good : BatchToken → Bool
is_good token = token.good

abbrev pub goods : List BatchToken → List Bool
goods tokens = map is_good tokens

-- how many are good
abbrev pub good_in : List Bool → ℕ
good_in [] = 0
good_in (good ∷ held) = cond good 1 0 + good_in held

abbrev pub without : {X : Type 0} → List X → ℕ → List X
without xs i = take i xs ++ drop (i + 1) xs

-- the answer of each call
abbrev pub adopt_answer_of : Result ℕ Refusal → Answer
adopt_answer_of (Ok n) = Taken n
adopt_answer_of (Err e) = Refused e

abbrev pub open_answer_of : Result (Unit {0}) Refusal → Answer
open_answer_of (Ok u) = Opened
open_answer_of (Err e) = Refused e

abbrev pub release_answer_of : Result ℕ Refusal → Answer
release_answer_of (Ok n) = Released n
release_answer_of (Err e) = Refused e

abbrev pub tick_answer : Result Ticked Refusal → Answer
tick_answer (Ok t) = Worked t
tick_answer (Err e) = Refused e

abbrev pub close_answer_of : Result Sums Refusal → Answer
close_answer_of (Ok s) = Closed s
close_answer_of (Err e) = Refused e

abbrev pub read_answer_of : Result ℕ Refusal → Answer
read_answer_of (Ok n) = Reading n
read_answer_of (Err e) = Refused e

abbrev pub demand_answer_of : Result (ℕ × ℕ) Refusal → Answer
demand_answer_of (Ok p) = Demanded p.0 p.1
demand_answer_of (Err e) = Refused e

-- what a controller that holds such tokens answers, what it then is, and which tokens are then held
abbrev pub answered : Machine → List Bool → Entry → Answer
answered m hs (adopts rule tasks segments) = adopt_answer_of (adopting m rule tasks segments)
answered m hs opens = open_answer_of (opening m)
answered m hs (releases place) = release_answer_of (releasing m place)
answered m hs ticks = tick_answer (ticking m)
answered m hs (closes i) = cond (nat_lt i (length hs)) (close_answer_of (closing m (slice_index_or hs i false))) NoToken
answered m hs (reads object) = read_answer_of (reading_of m object)
answered m hs (demands place t) = demand_answer_of (demand_of m place t)

abbrev pub stepped : Machine → List Bool → Entry → Machine
stepped m hs (adopts rule tasks segments) = adopted m rule tasks segments
stepped m hs opens = opened m
stepped m hs (releases place) = released m place
stepped m hs ticks = ticked m
stepped m hs (closes i) = cond (nat_lt i (length hs)) (closed m (slice_index_or hs i false)) m
stepped m hs (reads object) = m
stepped m hs (demands place t) = m

abbrev pub held_after : Machine → List Bool → Entry → List Bool
held_after m hs (adopts rule tasks segments) = hs
held_after m hs opens = hs ++ openable m.batch ∷ []
held_after m hs (releases place) = hs
held_after m hs ticks = hs
held_after m hs (closes i) = cond (nat_lt i (length hs)) (without hs i) hs
held_after m hs (reads object) = hs
held_after m hs (demands place t) = hs

-- the call's lists afterwards
abbrev pub lists_after : Machine → Entry → Entry
lists_after m (adopts rule tasks segments) = adopts rule (stamped_list m rule tasks segments) segments
lists_after m opens = opens
lists_after m (releases place) = releases place
lists_after m ticks = ticks
lists_after m (closes i) = closes i
lists_after m (reads object) = reads object
lists_after m (demands place t) = demands place t

-- A list of calls, each made on what the one before it left: what they answer, what the controller then is, which tokens
-- are then held, and the lists of the calls afterwards.
abbrev pub answered_all : Machine → List Bool → List Entry → List Answer
answered_all m hs [] = []
answered_all m hs (e ∷ es) = answered m hs e ∷ answered_all (stepped m hs e) (held_after m hs e) es

abbrev pub stepped_all : Machine → List Bool → List Entry → Machine
stepped_all m hs [] = m
stepped_all m hs (e ∷ es) = stepped_all (stepped m hs e) (held_after m hs e) es

abbrev pub held_all : Machine → List Bool → List Entry → List Bool
held_all m hs [] = hs
held_all m hs (e ∷ es) = held_all (stepped m hs e) (held_after m hs e) es

abbrev pub lists_all : Machine → List Bool → List Entry → List Entry
lists_all m hs [] = []
lists_all m hs (e ∷ es) = lists_after m e ∷ lists_all (stepped m hs e) (held_after m hs e) es
