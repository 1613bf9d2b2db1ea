-- The text so far, with the lines of the entries that are left, each copy marked as one, is the lines of all entries
-- found.
use Rattle.std.proofs.Common.{◌≡◌, ◌++◌, drop, string_bytes}
use Rattle.std.specs.List.{flat_map}
use Rattle.x5_report.specs.Spelled as spelled
use Rattle.x5_report.proofs.replies.entries.Given as goal

abbrev pub invariant-loop-one : goal.invariant-loop-one
invariant-loop-one l = string_bytes l.text ++ flat_map spelled.entry_text (drop l.one-index l.entries) ≡ flat_map spelled.entry_text l.entries
