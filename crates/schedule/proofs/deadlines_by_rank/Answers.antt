use Rattle.schedule.proofs.Ranks.{deadlines_by_rank_lem}
use Rattle.schedule.proofs.deadlines_by_rank.Goals as goal

pub returns : goal.returns
returns c attempt tasks ok v r = deadlines_by_rank_lem attempt tasks ok v r
