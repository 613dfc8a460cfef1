use Rattle.admission.proofs.Rankings.{ranked}
use Rattle.admission.proofs.law.ranks_are_apart.Goals as goal

pub returns : goal.returns
returns c = ranked
