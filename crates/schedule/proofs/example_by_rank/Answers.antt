use Rattle.std.proofs.Common.{refl}
use Rattle.schedule.proofs.Examples.{ranked_run}
use Rattle.schedule.proofs.example_by_rank.Goals as goal

pub returns : goal.returns
returns c = record { run = ranked_run; clock = refl; reading = refl; retries = refl; preemptions = refl }
