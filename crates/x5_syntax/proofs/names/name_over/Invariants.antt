-- While a name is checked against the limits: none is passed so far, so the first limit that the name passes is the
-- first that the RDNs that are left pass, counted behind those before them.
use Rattle.std.proofs.Common.{◌≡◌, drop}
use Rattle.x5_model.specs.Normal as model
use Rattle.x5_syntax.proofs.names.name_over.Given as goal

abbrev pub invariant-loop-i : goal.invariant-loop-i
invariant-loop-i l = model.name_over l.i (drop l.i l.rdns) ≡ model.name_over 0 l.rdns
