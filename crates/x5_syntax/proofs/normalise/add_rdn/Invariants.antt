-- While an RDN's key is added as octets: the octets so far, then those of the normal pairs that are left, are the
-- octets at the start followed by those of all normal pairs.
use Rattle.std.proofs.Common.{◌≡◌, ◌++◌, flat_map, map, drop}
use Rattle.x5_model.specs.Normal as model
use Rattle.x5_syntax.proofs.normalise.add_rdn.Given as goal

abbrev pub invariant-loop-pair : goal.invariant-loop-pair
invariant-loop-pair l = l.out.items ++ flat_map model.pair_octets (map model.normal_pair (drop l.pair-index l.pairs)) ≡ l.fn.out.items ++ flat_map model.pair_octets (map model.normal_pair l.pairs)
