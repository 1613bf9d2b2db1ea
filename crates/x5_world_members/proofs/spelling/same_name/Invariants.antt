-- The names are the same where the RDNs that are left of both are.
use Rattle.std.proofs.Common.{◌≡◌, drop}
use Rattle.std.specs.Cmp.Lexicographic.{pointwise}
use Rattle.x5_model_tree.specs.Described.{same_pair_spelled, same_spelling}
use Rattle.x5_world_members.proofs.spelling.same_name.Given as goal

abbrev pub invariant-loop-rdn : goal.invariant-loop-rdn
invariant-loop-rdn l =
    pointwise (pointwise same_pair_spelled) (drop l.rdn-index l.a) l.left ≡ same_spelling l.a l.b
