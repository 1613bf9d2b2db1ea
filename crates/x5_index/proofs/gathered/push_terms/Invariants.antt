-- The postings of the terms that were taken are behind those of before, and there is room for the others.
use Rattle.std.proofs.Common.{◌≡◌, ◌+◌, ◌≤◌, ◌++◌, length, vec_len, vec_capacity}
use Rattle.std.specs.Vec.Iter.{into_iter_items, into_iter_len}
use Rattle.x5_index.specs.Places.{postings_for}
use Rattle.x5_index.proofs.gathered.push_terms.Given as goal

abbrev pub invariant-loop-term : goal.invariant-loop-term
invariant-loop-term l = record {
  all : l.yielded ++ into_iter_items l.term-iterator ≡ into_iter_items l.initial.term-iterator;
  left : into_iter_len l.term-iterator ≡ length (into_iter_items l.term-iterator);
  items : l.postings.items ≡ l.initial.postings.items ++ postings_for l.node l.yielded;
  len : vec_len l.postings ≡ vec_len l.initial.postings + length l.yielded;
  capacity : vec_capacity l.initial.postings ≤ vec_capacity l.postings;
}
