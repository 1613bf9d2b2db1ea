-- While the pairs of an RDN are sorted by insertion: inserting the pairs that are left into those in order so far gives
-- the sorted RDN.
use Rattle.std.proofs.Common.{◌≡◌, drop}
use Rattle.x5_model_text.specs.NameText as text_of
use Rattle.x5_syntax.proofs.names.sorted.Given as goal

abbrev pub invariant-loop-pair : goal.invariant-loop-pair
invariant-loop-pair l = text_of.sorted_onto l.done.items (drop l.pair-index l.pairs) ≡ text_of.sorted l.pairs
