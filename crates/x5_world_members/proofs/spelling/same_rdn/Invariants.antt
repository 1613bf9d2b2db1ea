-- The RDNs are the same where the pairs that are left of both are.
use Rattle.std.proofs.Common.{◌≡◌, drop}
use Rattle.std.specs.Cmp.Lexicographic.{pointwise}
use Rattle.x5_model_tree.specs.Described.{same_pair_spelled}
use Rattle.x5_world_members.proofs.spelling.same_rdn.Given as goal

abbrev pub invariant-loop-pair : goal.invariant-loop-pair
invariant-loop-pair l =
    pointwise same_pair_spelled (drop l.pair-index l.pair-items) l.left ≡ pointwise same_pair_spelled l.a l.b
