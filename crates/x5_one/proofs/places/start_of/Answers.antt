-- What isn't below the key begins at its place, or where it would go.
use Rattle.x5_one.proofs.Runs.{start_there, start_missing}
use Rattle.x5_one.proofs.places.start_of.Goals as goal

pub returns-in-Ok : goal.returns-in-Ok
returns-in-Ok c = start_there c.args.entries.now c.args.key.now c.in-Ok.at c.requires c.in-Ok.ensures

pub returns-in-Err : goal.returns-in-Err
returns-in-Err c = start_missing c.args.entries.now c.args.key.now c.in-Err.at c.in-Err.ensures
