-- The text so far, with the lines of the subordinates left, each copy marked as one, is the lines of all that were
-- listed.
use Rattle.std.proofs.Common.{◌≡◌, ◌++◌, drop, string_bytes}
use Rattle.std.specs.List.{flat_map}
use Rattle.x5_model_output.specs.Output as print
use Rattle.x5_ops.specs.AnswerViews.{sub_view}
use Rattle.x5_report.proofs.replies.subs.Given as goal

abbrev pub invariant-loop-sub : goal.invariant-loop-sub
invariant-loop-sub l = string_bytes l.text ++ flat_map (λ s. print.sub_line (sub_view s)) (drop l.sub-index l.subs) ≡ flat_map (λ s. print.sub_line (sub_view s)) l.subs
