-- While the RDNs of a name are printed: the text so far, then a `/` and the RDN's text for each RDN that is left, is
-- the text at the start followed by all of them.
use Rattle.std.proofs.Common.{◌≡◌, ◌++◌, flat_map, drop, string_bytes}
use Rattle.x5_model_text.specs.NameText.{slash_and_pairs}
use Rattle.x5_syntax.proofs.names.add_rdns.Given as goal

abbrev pub invariant-loop-rdn : goal.invariant-loop-rdn
invariant-loop-rdn l = string_bytes l.out ++ flat_map slash_and_pairs (drop l.rdn-index l.rdns) ≡ string_bytes l.fn.out ++ flat_map slash_and_pairs l.rdns
