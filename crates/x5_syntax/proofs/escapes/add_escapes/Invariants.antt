-- While escapes are resolved: the place and the span of the parts left end where all parts end, and the octets so far
-- with what these parts give are the octets at the start with what all parts give, faults included.
use Rattle.std.proofs.Common.{◌≡◌, ◌+◌, Ok, map, drop}
use Rattle.x5_model_text.specs.ValueText.{joined, escapes_at}
use Rattle.x5_syntax.specs.Escapes.{span}
use Rattle.x5_syntax.proofs.escapes.add_escapes.Given as goal

abbrev pub invariant-loop-part : goal.invariant-loop-part
invariant-loop-part l = record {
  in_range : l.place + span (map (λ x. x.now) (drop l.part-index l.parts)) ≡ l.fn.at + span (map (λ x. x.now) l.parts);
  read : joined (Ok l.out.items) (escapes_at l.place (map (λ x. x.now) (drop l.part-index l.parts))) ≡ joined (Ok l.fn.out.items) (escapes_at l.fn.at (map (λ x. x.now) l.parts));
}
