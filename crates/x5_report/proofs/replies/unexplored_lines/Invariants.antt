-- The text so far, with the lines of the references that are left, is the lines of all unexplored references in the
-- order given.
use Rattle.std.proofs.Common.{◌≡◌, ◌++◌, drop, string_bytes}
use Rattle.std.specs.List.{flat_map}
use Rattle.x5_report.specs.Spelled as spelled
use Rattle.x5_report.proofs.replies.unexplored_lines.Given as goal

abbrev pub invariant-loop-one : goal.invariant-loop-one
invariant-loop-one l = string_bytes l.text ++ flat_map spelled.unexplored_text (drop l.one-index l.references) ≡ flat_map spelled.unexplored_text l.references
