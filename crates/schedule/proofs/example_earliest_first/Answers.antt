use Rattle.std.proofs.Common.{refl}
use Rattle.schedule.proofs.Examples.{due_run}
use Rattle.schedule.proofs.example_earliest_first.Goals as goal

pub returns : goal.returns
returns c = record { run = due_run; clock = refl; reading = refl; retries = refl; preemptions = refl }
