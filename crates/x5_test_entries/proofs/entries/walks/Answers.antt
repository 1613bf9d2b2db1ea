-- A node that was found is live.
use Rattle.x5_model.specs.Values.{key_of}
use Rattle.x5_dse.proofs.Callers.{found_live}
use Rattle.x5_test_entries.proofs.entries.walks.Goals as goal

pub walk-walk-requires : goal.walk-walk-requires
walk-walk-requires c = found_live c.args.tree.now.nodes (key_of c.in_ok-named.named) c.in-Some.node c.in-Some.ensures
