-- The RDNs behind their keys so far, with those that are left put behind theirs, are all RDNs behind their keys.
use Rattle.std.proofs.Common.{◌≡◌, ◌++◌, map, drop}
use Rattle.x5_report.specs.Order.{keyed}
use Rattle.x5_report.proofs.order.keyed.Given as goal

abbrev pub invariant-loop-rdn : goal.invariant-loop-rdn
invariant-loop-rdn l = l.keyed.items ++ map keyed (drop l.rdn-index l.rdns) ≡ map keyed l.rdns
