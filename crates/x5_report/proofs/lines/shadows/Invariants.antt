-- The text so far, with what the journal's lines left give of messages of a refresh, is that of all lines.
use Rattle.std.proofs.Common.{◌≡◌, ◌++◌, drop, string_bytes}
use Rattle.std.specs.List.{flat_map}
use Rattle.x5_report.specs.Spelled as spelled
use Rattle.x5_report.proofs.lines.shadows.Given as goal

abbrev pub invariant-loop-line : goal.invariant-loop-line
invariant-loop-line l = string_bytes l.text ++ flat_map spelled.shadow_text (drop l.line-index l.lines) ≡ flat_map spelled.shadow_text l.lines
