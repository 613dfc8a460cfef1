use Rattle.std.proofs.Common.{sym, refl, arith}
use Rattle.admission.proofs.Quotients.{less_at_multiple, less_elsewhere}
use Rattle.admission.proofs.demand.periods_in.Goals as goal

pub returns-then-span-period-eq0 : goal.returns-then-span-period-eq0
returns-then-span-period-eq0 c =
    record {
      whole = refl;
      less = sym (less_at_multiple c.args.span c.args.period c.requires.0 c.requires.1 c.if-span-period-eq0.true);
    }

pub returns-else-span-period-eq0 : goal.returns-else-span-period-eq0
returns-else-span-period-eq0 c =
    record { whole = refl; less = sym (less_elsewhere c.args.span c.args.period c.requires.1 (omega (arith, c.if-span-period-eq0.false))) }
