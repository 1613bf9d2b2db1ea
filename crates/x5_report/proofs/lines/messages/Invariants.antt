-- The text so far, with what the journal's lines left give of messages of a request, is that of all lines.
use Rattle.std.proofs.Common.{◌≡◌, ◌++◌, drop, string_bytes}
use Rattle.std.specs.List.{flat_map}
use Rattle.x5_report.specs.Spelled as spelled
use Rattle.x5_report.proofs.lines.messages.Given as goal

abbrev pub invariant-loop-line : goal.invariant-loop-line
invariant-loop-line l = string_bytes l.text ++ flat_map spelled.message_text (drop l.line-index l.lines) ≡ flat_map spelled.message_text l.lines
