-- While the arcs of dotted decimals are read: the arcs so far in front of what the parts that are left spell, if each
-- spells an arc, are what all parts spell.
use Rattle.std.proofs.Common.{◌≡◌, map, drop}
use Rattle.x5_model_text.specs.TypeText.{arcs_of}
use Rattle.x5_syntax.proofs.OidLemmas.{behind}
use Rattle.x5_syntax.proofs.oid.arcs_from.Given as goal

abbrev pub invariant-loop-part : goal.invariant-loop-part
invariant-loop-part l = behind l.arcs.items (arcs_of (map (λ x. x.now) (drop l.part-index l.parts))) ≡ arcs_of (map (λ x. x.now) l.parts)
