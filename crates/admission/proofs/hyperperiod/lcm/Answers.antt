use Rattle.admission.proofs.Divisors.{gcd_pos, lcm_is, lcm_pos}
use Rattle.admission.proofs.hyperperiod.lcm.Goals as goal

pub nonzero_div-result : goal.nonzero_div-result
nonzero_div-result c = gcd_pos c.args.a c.args.b c.gcd.result c.requires.0 c.gcd.ensures

pub returns : goal.returns
returns c =
    record {
      positive = lcm_pos c.args.a c.args.b c.gcd.result c.requires.0 c.requires.1.0 c.gcd.ensures;
      is = lcm_is c.args.a c.args.b c.gcd.result c.requires.0 c.gcd.ensures;
    }
