use Rattle.schedule.proofs.Deadlines.{deadlines_earliest_first_lem}
use Rattle.schedule.proofs.deadlines_earliest_first.Goals as goal

pub returns : goal.returns
returns c attempt tasks ok v r = deadlines_earliest_first_lem attempt tasks ok v r
