-- The node is one of the nodes.
use Rattle.x5_dse.proofs.Spots.{in_get}
use Rattle.x5_eval.proofs.shown.infos_at.Goals as goal

pub info_at-requires : goal.info_at-requires
info_at-requires c = record {
  live = c.requires _ (in_get c.args.nodes.now c.loop-node.node-index (record { 0 = 0 }) c.loop-node-test.true);
}
