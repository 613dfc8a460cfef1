use Rattle.std.proofs.Common.{◌+◌, ◌-◌, mod-lt, arith}
use Rattle.admission.proofs.Plateaus.{steady_between, steady_tick}
use Rattle.admission.proofs.overrun.steady_until.Goals as goal

pub returns-then-past-eq0 : goal.returns-then-past-eq0
returns-then-past-eq0 c = record { later = omega arith; near = omega arith; steady = steady_tick c.args.task.now c.args.at.ticks }

pub returns-else-past-eq0 : goal.returns-else-past-eq0
returns-else-past-eq0 c =
    let task = c.args.task.now in
    let limits = c.requires in
    let l = mod-lt (c.args.at.ticks + task.period - task.deadline) limits.0.0 in
    record { later = omega arith; near = omega (arith, limits.0.1); steady = steady_between task limits c.args.at.ticks (omega arith) (omega arith) }
