use Rattle.admission.proofs.Divisors.{hyperperiod_found, hyperperiod_missing}
use Rattle.admission.proofs.law.hyperperiod_is_least_common_multiple.Goals as goal

pub returns : goal.returns
returns c tasks = (hyperperiod_found tasks, hyperperiod_missing tasks)
