-- The terms that were put and those still to come are all terms, and there is room for them.
use Rattle.std.proofs.Common.{◌≡◌, ◌+◌, ◌≤◌, ◌++◌, false, length, vec_len, vec_capacity}
use Rattle.std.specs.Vec.Iter.{into_iter_items, into_iter_len}
use Rattle.x5_index.specs.Index.{is_there}
use Rattle.x5_index.specs.Places.{AreAdded}
use Rattle.x5_index.proofs.postings.put_terms.Given as goal

abbrev pub invariant-loop-term : goal.invariant-loop-term
invariant-loop-term l = record {
  all : l.yielded ++ into_iter_items l.term-iterator ≡ into_iter_items l.initial.term-iterator;
  left : into_iter_len l.term-iterator ≡ length (into_iter_items l.term-iterator);
  added : AreAdded l.initial.postings.items l.node l.yielded l.postings.items;
  most : vec_len l.postings ≤ vec_len l.initial.postings + length l.yielded;
  absent : is_there l.initial.postings.items l.node ≡ false → vec_len l.postings ≡ vec_len l.initial.postings + length l.yielded;
  capacity : vec_capacity l.postings ≡ vec_capacity l.initial.postings;
}
