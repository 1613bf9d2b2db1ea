-- While the pieces of a substrings value are read: the place and the span of the parts that are left still end where
-- all parts end, and reading these parts behind the pieces so far gives what reading all parts gives, faults included.
use Rattle.std.proofs.Common.{◌≡◌, ◌+◌, map, drop}
use Rattle.x5_model_text.specs.Filters as text_of
use Rattle.x5_syntax.specs.Escapes.{span}
use Rattle.x5_match.proofs.parse.pieces_at.Given as goal

abbrev pub invariant-loop-i : goal.invariant-loop-i
invariant-loop-i l = record {
  in_range : l.place + span (map (λ x. x.now) (drop l.i l.parts)) ≡ l.fn.at + span (map (λ x. x.now) l.parts);
  read : text_of.pieces_at l.pieces l.place (map (λ x. x.now) (drop l.i l.parts)) ≡ text_of.pieces_at l.fn.before l.fn.at (map (λ x. x.now) l.parts);
}
