use Rattle.admission.proofs.Exact.{deadline_exact}
use Rattle.admission.proofs.law.test_by_deadline_is_exact.Goals as goal

pub returns : goal.returns
returns c = deadline_exact
