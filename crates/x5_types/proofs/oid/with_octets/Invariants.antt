-- The arcs so far and the octets that are left.
use Rattle.std.proofs.Common.{◌≡◌, ◌^◌, ◌++◌, nat_lt, drop}
use Rattle.std.specs.List.{list_all}
use Rattle.x5_model_typed.specs.Leaves as leaves
use Rattle.x5_types.proofs.oid.with_octets.Given as goal

abbrev pub invariant-loop-octet : goal.invariant-loop-octet
invariant-loop-octet l =
    leaves.where_so (list_all (λ n. nat_lt n (2 ^ 32)) (drop l.octet-index l.others))
    (l.arcs.items ++ drop l.octet-index l.others)
    ≡ leaves.where_so (list_all (λ n. nat_lt n (2 ^ 32)) l.others) (l.fn.arcs.items ++ l.others)
