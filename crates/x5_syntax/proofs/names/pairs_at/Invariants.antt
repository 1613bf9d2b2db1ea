-- While the pairs of an RDN's text are read: the place and the span of the parts that are left still end where all
-- parts end, and reading these parts behind the pairs so far gives what reading all parts gives, faults included.
use Rattle.std.proofs.Common.{◌≡◌, ◌+◌, [], map, drop}
use Rattle.x5_model_text.specs.NameText as text_of
use Rattle.x5_syntax.specs.Escapes.{span}
use Rattle.x5_syntax.proofs.names.pairs_at.Given as goal

abbrev pub invariant-loop-part : goal.invariant-loop-part
invariant-loop-part l = record {
  in_range : l.place + span (map (λ x. x.now) (drop l.part-index l.parts)) ≡ l.fn.at + span (map (λ x. x.now) l.parts);
  read : text_of.pairs_at l.limited l.place l.pairs.items (map (λ x. x.now) (drop l.part-index l.parts)) ≡ text_of.pairs_at l.limited l.fn.at [] (map (λ x. x.now) l.parts);
}
