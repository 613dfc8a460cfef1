use Rattle.std.proofs.Common.{rules}
use Rattle.std.proofs.iter.runs.Made.{chains}
use Rattle.admission.specs.Held.{held}
use Rattle.controller.proofs.Ordering.{first_ranked}
use Rattle.controller.proofs.batch.OpenBatch.lowest_ranked.Goals as goal

-- what is answered is the first pending job that the order comes to, whichever call gives it
pub returns-clause-is : goal.returns-clause-is
returns-clause-is c =
    let table = held c.args.table.now in
    first_ranked table.rule table.tasks c.order.result.now c.args.self.now.jobs c.requires (c.order.ensures.ordered c.requires) c.order.ensures.long _ (search (rules, chains))
