-- While a text is escaped: what is printed so far, then the octets that are left in their escaped form, are the whole
-- escaped text.
use Rattle.std.proofs.Common.{◌≡◌, ◌++◌, flat_map, drop}
use Rattle.x5_model_text.specs.ValueText.{escaped_octet}
use Rattle.x5_syntax.proofs.escapes.escaped.Given as goal

abbrev pub invariant-loop-octet : goal.invariant-loop-octet
invariant-loop-octet l = l.text.items ++ flat_map escaped_octet (drop l.octet-index l.octets) ≡ flat_map escaped_octet l.octets
