use Rattle.std.proofs.Common.{arith}
use Rattle.schedule.proofs.Proved.{deadlines_kept, finished_after}
use Rattle.schedule.proofs.last_job_finished.Goals as goal

pub returns : goal.returns
returns c rule attempt tasks ok v r a l short = finished_after r (deadlines_kept rule attempt tasks ok v r) a _ l (omega arith)
