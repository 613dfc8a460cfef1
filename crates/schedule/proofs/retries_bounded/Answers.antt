use Rattle.schedule.proofs.Tallies.{retries_bounded_lem}
use Rattle.schedule.proofs.Proved.{order_asymmetric}
use Rattle.schedule.proofs.retries_bounded.Goals as goal

pub returns : goal.returns
returns c rule attempt tasks v r = retries_bounded_lem (order_asymmetric rule tasks) r
