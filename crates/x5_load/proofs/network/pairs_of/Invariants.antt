-- The pairs of agents so far are those of the pairs of names before the place reached, in their order.
use Rattle.std.proofs.Common.{◌≡◌, take, map}
use Rattle.x5_model_world.specs.NetworkText as model
use Rattle.x5_load.specs.TextPairs.{texts_of}
use Rattle.x5_load.proofs.network.pairs_of.Given as goal

abbrev pub invariant-loop-a : goal.invariant-loop-a
invariant-loop-a l = l.pairs ≡ map (model.pair_of_agents l.names) (map texts_of (take l.a-index l.texts))
