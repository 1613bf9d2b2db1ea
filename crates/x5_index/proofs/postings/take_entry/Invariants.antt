-- The terms of the attributes before the index have been taken away.
use Rattle.std.proofs.Common.{◌≡◌, ◌≤◌, take, vec_len, vec_capacity}
use Rattle.std.specs.List.{flat_map}
use Rattle.x5_index.specs.Index.{terms_in}
use Rattle.x5_index.specs.Places.{AreTaken}
use Rattle.x5_index.proofs.postings.take_entry.Given as goal

abbrev pub invariant-loop-attribute : goal.invariant-loop-attribute
invariant-loop-attribute l = record {
  taken : AreTaken l.initial.postings.items l.node (flat_map terms_in (take l.attribute-index l.attribute-items)) l.kept l.postings.items;
  len : vec_len l.postings ≤ vec_len l.initial.postings;
  capacity : vec_capacity l.postings ≡ vec_capacity l.initial.postings;
}
