use Rattle.std.proofs.Common.{rules}
use Rattle.admission.proofs.Divisors.{gcd_base, gcd_step}
use Rattle.admission.proofs.hyperperiod.+gcd.Goals as goal

pub returns-then-b-eq0 : goal.returns-then-b-eq0
returns-then-b-eq0 t c = gcd_base c.args.a c.args.b (search rules)

pub returns-else-b-eq0 : goal.returns-else-b-eq0
returns-else-b-eq0 t c = gcd_step c.args.a c.args.b c.gcd.result c.gcd.ensures
