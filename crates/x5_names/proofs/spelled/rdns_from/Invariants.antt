-- While a written name is stored: the RDNs made so far, then the stored form of the written RDNs that are left, are the
-- stored form of the whole name.
use Rattle.std.proofs.Common.{◌≡◌, ◌++◌, drop}
use Rattle.x5_model.specs.Normal.{stored}
use Rattle.x5_names.proofs.spelled.rdns_from.Given as goal

abbrev pub invariant-loop-value : goal.invariant-loop-value
invariant-loop-value l = l.rdns.items ++ stored (drop l.value-index l.values) ≡ stored l.values
