-- The rows of all contexts.
use Rattle.std.proofs.Common.{ap, ◌∙◌}
use Rattle.std.proofs.lemmas.Result.{IfOk-weaker}
use Rattle.std.specs.List.{enumerate_from}
use Rattle.x5_check.specs.Numbers.{prefix_key, rows_by}
use Rattle.x5_check.specs.Rows.{numbers_of}
use Rattle.x5_check.proofs.Tables.{all_placed, prefixes_by_place}
use Rattle.x5_check.proofs.known.prefixes_by_place.Goals as goal

pub returns : goal.returns
returns c =
    let all = all_placed prefix_key c.args.held.now c.loop-place.place c.loop-place.rows.items
    (rows_by (λ p. p.0) (λ p. prefix_key p.1) (enumerate_from 0 c.args.held.now)) c.loop-place-test.false c.loop-place.invariant in
    IfOk-weaker c.of.result _ _
    (λ index e. e ∙ ap numbers_of (c.as_slice.ensures.value ∙ all) ∙ prefixes_by_place c.args.held.now) c.of.ensures
