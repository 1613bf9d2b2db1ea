-- While the further pairs of an RDN are printed: the text so far, then a `+` and the pair's text for each pair that is
-- left, is the text at the start followed by all of them.
use Rattle.std.proofs.Common.{◌≡◌, ◌++◌, flat_map, drop, string_bytes}
use Rattle.x5_syntax.specs.Dotted.{plus_and_pair}
use Rattle.x5_syntax.proofs.names.add_others.Given as goal

abbrev pub invariant-loop-pair : goal.invariant-loop-pair
invariant-loop-pair l = string_bytes l.out ++ flat_map plus_and_pair (drop l.pair-index l.pairs) ≡ string_bytes l.fn.out ++ flat_map plus_and_pair l.pairs
