-- While what is written of a name is gathered: the RDN values so far, then what is written of the RDNs that are left,
-- are what is written of the whole name.
use Rattle.std.proofs.Common.{◌≡◌, ◌++◌, drop}
use Rattle.x5_model.specs.Values.{written}
use Rattle.x5_names.proofs.spelled.values_of.Given as goal

abbrev pub invariant-loop-rdn : goal.invariant-loop-rdn
invariant-loop-rdn l = l.values.items ++ written (drop l.rdn-index l.rdns) ≡ written l.rdns
