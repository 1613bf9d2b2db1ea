-- The octets so far, and those of the pairs that are left, are all.
use Rattle.std.proofs.Common.{◌≡◌, ◌++◌, flat_map, map, drop}
use Rattle.x5_model.specs.Normal as normal
use Rattle.x5_rules.proofs.value.add_rdn.Given as goal

abbrev pub invariant-loop-pair : goal.invariant-loop-pair
invariant-loop-pair l = l.out.items ++ flat_map normal.pair_octets (map normal.normal_pair (drop l.pair-index l.pair-items))
    ≡ l.fn.out.items ++ flat_map normal.pair_octets (map normal.normal_pair l.pair-items)
