-- The octets so far, and those of the RDNs that are left, are all.
use Rattle.std.proofs.Common.{◌≡◌, ◌++◌, drop}
use Rattle.x5_model.specs.Normal as normal
use Rattle.x5_rules.proofs.value.octets_of_name.Given as goal

abbrev pub invariant-loop-rdn : goal.invariant-loop-rdn
invariant-loop-rdn l = l.out.items ++ normal.key_octets (normal.written_key (drop l.rdn-index l.rdn-items))
    ≡ normal.key_octets (normal.written_key l.rdn-items)
