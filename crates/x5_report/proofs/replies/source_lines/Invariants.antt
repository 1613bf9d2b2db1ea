-- The text so far, with the lines of the sources that are left, is the lines of all sources in the order given.
use Rattle.std.proofs.Common.{◌≡◌, ◌++◌, drop, string_bytes}
use Rattle.std.specs.List.{flat_map}
use Rattle.x5_report.specs.Spelled as spelled
use Rattle.x5_report.proofs.replies.source_lines.Given as goal

abbrev pub invariant-loop-one : goal.invariant-loop-one
invariant-loop-one l = string_bytes l.text ++ flat_map (spelled.source_text l.start) (drop l.one-index l.sources) ≡ flat_map (spelled.source_text l.start) l.sources
