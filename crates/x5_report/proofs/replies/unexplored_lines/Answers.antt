-- Each line stands behind those before it.
use Rattle.std.proofs.Common.{◌++◌, string_bytes, ◌∙◌, ap}
use Rattle.x5_report.specs.Spelled.{unexplored_text}
use Rattle.x5_report.proofs.Joined.{next_piece}
use Rattle.x5_report.proofs.replies.unexplored_lines.Goals as goal

pub loop-one-preserved : goal.loop-one-preserved
loop-one-preserved c =
    let line = c.as_str.ensures.value ∙ c.in_ok-line.ensures in
    next_piece unexplored_text c.args.references.now c.loop-one.one-index c.one-item.result (string_bytes c.loop-one.text) (string_bytes c.push_str.new.self) c.loop-one-test.true c.one-item.is c.loop-one.invariant (c.in_ok-push_str.ensures.bytes ∙ ap (λ t. string_bytes c.loop-one.text ++ t) line)
