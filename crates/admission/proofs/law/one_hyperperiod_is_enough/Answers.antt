use Rattle.admission.proofs.Loads.{one_hyperperiod}
use Rattle.admission.proofs.law.one_hyperperiod_is_enough.Goals as goal

pub returns : goal.returns
returns c attempt tasks p lawful some common = one_hyperperiod attempt tasks lawful p some common
