use Rattle.admission.proofs.Exact.{rank_exact}
use Rattle.admission.proofs.law.test_by_rank_is_exact.Goals as goal

pub returns : goal.returns
returns c = rank_exact
