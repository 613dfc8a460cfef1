use Rattle.admission.proofs.Exact.{search_least}
use Rattle.admission.proofs.law.search_finds_the_least.Goals as goal

pub returns : goal.returns
returns c = search_least
