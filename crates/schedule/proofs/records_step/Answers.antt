use Rattle.schedule.proofs.Records.{record_ticks, record_starts, records_idle}
use Rattle.schedule.proofs.records_step.Goals as goal

pub returns : goal.returns
returns c = record { ticks = record_ticks; starts = record_starts; idles = records_idle }
