-- A node that was found is live.
use Rattle.x5_model.specs.Values.{key_of}
use Rattle.x5_dse.proofs.Callers.{found_live}
use Rattle.x5_test_entries.proofs.entries.remove.Goals as goal

pub remove-requires-clause-live : goal.remove-requires-clause-live
remove-requires-clause-live c = found_live c.args.tree.now.nodes (key_of c.in_ok-named.named) c.in-Some.node c.in-Some.ensures
