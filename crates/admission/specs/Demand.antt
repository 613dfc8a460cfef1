-- The time that jobs can ask for: work, and the charge for attempts that are made again.
use Rattle.std.specs.Prelude.{ℕ, ◌+◌, ◌-◌, ◌*◌, ◌/◌, cond, List, length, get_or, nat_le, nat_lt, slice_index_or}
use Rattle.admission.specs.declared.demand.Among.{Among}
use Rattle.admission.specs.declared.demand.Among.TheVariants.{RankedUpTo, All}
use Rattle.admission.specs.declared.plan.Rule.{Rule}
use Rattle.admission.specs.declared.plan.Rule.TheVariants.{RateMonotonic, DeadlineMonotonic, EarliestDeadlineFirst}
use Rattle.admission.specs.declared.plan.AdoptedTask.{AdoptedTask}
use Rattle.admission.specs.Search.{sum_below}
use Rattle.admission.specs.Tables.{goes_by_rank, no_adopted_task}

-- ⌈t / p⌉
abbrev pub ceiling : ℕ → ℕ → ℕ
ceiling t p = (t + (p - 1)) / p

-- By rank, within t ticks: ⌈t/p⌉ jobs of a task ranked up to `rank` are released,
-- and ⌈(t - 1)/p⌉ of one ranked before it can each spoil one attempt.
abbrev pub work_by_rank : ℕ → ℕ → AdoptedTask → ℕ
work_by_rank rank t task = cond (nat_le task.rank rank) (ceiling t task.period * task.cost) 0

abbrev pub charge_by_rank : ℕ → ℕ → ℕ → AdoptedTask → ℕ
charge_by_rank attempt rank t task = cond (nat_lt task.rank rank) (ceiling (t - 1) task.period * attempt) 0

-- By deadline, within t ticks: ⌊(t - d + p)/p⌋ jobs of a task are both released and due,
-- and ⌊(t - 1 - d + p)/p⌋ of them can each spoil one attempt.
abbrev pub work_by_deadline : ℕ → AdoptedTask → ℕ
work_by_deadline t task = (t + task.period - task.deadline) / task.period * task.cost

abbrev pub charge_by_deadline : ℕ → ℕ → AdoptedTask → ℕ
charge_by_deadline attempt t task = (t + task.period - task.deadline - 1) / task.period * attempt

-- what one task adds to the work and to the charge
abbrev pub work_share : Rule → ℕ → ℕ → AdoptedTask → ℕ
work_share rule rank t task = cond (goes_by_rank rule) (work_by_rank rank t task) (work_by_deadline t task)

abbrev pub charge_share : Rule → ℕ → ℕ → ℕ → AdoptedTask → ℕ
charge_share rule attempt rank t task = cond (goes_by_rank rule) (charge_by_rank attempt rank t task) (charge_by_deadline attempt t task)

-- the sums over all tasks of a table; under earliest deadline first the rank does not matter
abbrev pub work_within : Rule → List AdoptedTask → ℕ → ℕ → ℕ
work_within rule tasks rank t = sum_below (length tasks) (λ a. work_share rule rank t (slice_index_or tasks a no_adopted_task))

abbrev pub charge_within : Rule → ℕ → List AdoptedTask → ℕ → ℕ → ℕ
charge_within rule attempt tasks rank t =
    sum_below (length tasks) (λ a. charge_share rule attempt rank t (slice_index_or tasks a no_adopted_task))

-- whose jobs a rule counts for a task of a rank, and the other way round
abbrev pub among_of : Rule → ℕ → Among
among_of RateMonotonic rank = RankedUpTo rank
among_of DeadlineMonotonic rank = RankedUpTo rank
among_of EarliestDeadlineFirst rank = All

abbrev pub rule_among : Among → Rule
rule_among (RankedUpTo rank) = RateMonotonic
rule_among All = EarliestDeadlineFirst

abbrev pub rank_among : Among → ℕ
rank_among (RankedUpTo rank) = rank
rank_among All = 0

-- what the tasks ranked up to a rank can ask for within t ticks
abbrev pub demand_up_to_rank : ℕ → List AdoptedTask → ℕ → ℕ → ℕ
demand_up_to_rank attempt tasks rank t = work_within RateMonotonic tasks rank t + charge_within RateMonotonic attempt tasks rank t

-- what the task at a place and those ranked before it can ask for within t ticks
abbrev pub demand_by_rank : ℕ → List AdoptedTask → ℕ → ℕ → ℕ
demand_by_rank attempt tasks place t = demand_up_to_rank attempt tasks (get_or tasks place no_adopted_task).rank t

-- what the jobs released and due within t ticks can ask for
abbrev pub demand_by_deadline : ℕ → List AdoptedTask → ℕ → ℕ
demand_by_deadline attempt tasks t =
    work_within EarliestDeadlineFirst tasks 0 t + charge_within EarliestDeadlineFirst attempt tasks 0 t
