-- The text so far, with the lines of the attributes that are left, is the lines of all attributes of the entry.
use Rattle.std.proofs.Common.{◌≡◌, ◌++◌, drop, string_bytes}
use Rattle.std.specs.List.{flat_map}
use Rattle.x5_report.specs.Spelled as spelled
use Rattle.x5_report.proofs.replies.attributes.Given as goal

abbrev pub invariant-loop-one : goal.invariant-loop-one
invariant-loop-one l = string_bytes l.text ++ flat_map spelled.attribute_text (drop l.one-index l.attributes) ≡ flat_map spelled.attribute_text l.attributes
