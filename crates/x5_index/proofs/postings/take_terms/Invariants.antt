-- The terms before the index have been taken away.
use Rattle.std.proofs.Common.{◌≡◌, ◌≤◌, map, take, vec_len, vec_capacity}
use Rattle.x5_index.specs.Places.{AreTaken}
use Rattle.x5_index.proofs.Taking.{term_with}
use Rattle.x5_index.proofs.postings.take_terms.Given as goal

abbrev pub invariant-loop-value : goal.invariant-loop-value
invariant-loop-value l = record {
  taken : AreTaken l.initial.postings.items l.node (map (term_with l.attribute.kind) (take l.value-index l.value-items)) l.kept l.postings.items;
  len : vec_len l.postings ≤ vec_len l.initial.postings;
  capacity : vec_capacity l.postings ≡ vec_capacity l.initial.postings;
}
