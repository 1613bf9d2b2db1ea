-- While a name's key is written as octets: the octets so far, then those of the key of the RDNs that are left, are the
-- octets of the name's key.
use Rattle.std.proofs.Common.{◌≡◌, ◌++◌, drop}
use Rattle.x5_model.specs.Normal as model
use Rattle.x5_syntax.proofs.normalise.name_normal.Given as goal

abbrev pub invariant-loop-rdn : goal.invariant-loop-rdn
invariant-loop-rdn l = l.out.items ++ model.key_octets (model.written_key (drop l.rdn-index l.rdns)) ≡ model.key_octets (model.written_key l.rdns)
