-- While the RDNs of a name are sorted one by one: those done so far, then each that is left with its pairs sorted, are
-- all RDNs with their pairs sorted.
use Rattle.std.proofs.Common.{◌≡◌, ◌++◌, map, drop}
use Rattle.x5_model_text.specs.NameText as text_of
use Rattle.x5_syntax.proofs.names.sorted_copies.Given as goal

abbrev pub invariant-loop-rdn : goal.invariant-loop-rdn
invariant-loop-rdn l = l.done.items ++ map text_of.sorted (drop l.rdn-index l.rdns) ≡ map text_of.sorted l.rdns
