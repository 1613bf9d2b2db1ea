-- While an RDN is checked against the limits: none is passed so far, so the first limit that the RDN passes is the
-- first that the pairs that are left pass, counted behind those before them.
use Rattle.std.proofs.Common.{◌≡◌, drop}
use Rattle.x5_model.specs.Normal as model
use Rattle.x5_syntax.proofs.names.rdn_over.Given as goal

abbrev pub invariant-loop-i : goal.invariant-loop-i
invariant-loop-i l = model.rdn_over l.i (drop l.i l.pairs) ≡ model.rdn_over 0 l.pairs
