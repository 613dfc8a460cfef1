use Rattle.schedule.proofs.Proved.{runs_of_records}
use Rattle.schedule.proofs.records_run.Goals as goal

pub returns : goal.returns
returns c = runs_of_records
