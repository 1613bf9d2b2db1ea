-- The text so far, with the lines of the values that are left, is the lines of all values of the attribute.
use Rattle.std.proofs.Common.{◌≡◌, ◌++◌, drop, string_bytes}
use Rattle.std.specs.List.{flat_map}
use Rattle.x5_report.specs.Spelled as spelled
use Rattle.x5_report.proofs.replies.values.Given as goal

abbrev pub invariant-loop-value : goal.invariant-loop-value
invariant-loop-value l = string_bytes l.text ++ flat_map (spelled.value_text l.kind) (drop l.value-index l.values) ≡ flat_map (spelled.value_text l.kind) l.values
