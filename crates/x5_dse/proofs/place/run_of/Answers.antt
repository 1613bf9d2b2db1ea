-- A run begins where an RDN without pairs below the node would stand.
use Rattle.x5_dse.specs.Inside.{spots_of}
use Rattle.x5_dse.proofs.Runs.{start_found, start_missing}
use Rattle.x5_dse.proofs.place.run_of.Goals as goal

pub returns-in-Ok : goal.returns-in-Ok
returns-in-Ok c = start_found (spots_of c.args.slots.now c.args.order.now) c.args.node c.in-Ok.at c.requires.in_order c.in-Ok.ensures

pub returns-in-Err : goal.returns-in-Err
returns-in-Err c = start_missing (spots_of c.args.slots.now c.args.order.now) c.args.node c.in-Err.at c.in-Err.ensures
