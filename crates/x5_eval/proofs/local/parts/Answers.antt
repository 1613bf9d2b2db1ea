-- The number is one of those, and its part is one more.
use Rattle.std.proofs.Common.{◌≡◌, ◌∷◌, ℕ, true, get_or, map, sym, ap, ◌∙◌}
use Rattle.x5_dse.proofs.Spots.{in_get}
use Rattle.x5_model_serve.specs.Answering.{is_in_order}
use Rattle.x5_ops.specs.AnswerViews.{answer_view}
use Rattle.x5_ops.specs.ReferenceViews.{chained_view}
use Rattle.x5_ops.specs.RequestViews.{body_view}
use Rattle.x5_holdings.specs.State.{holdings_view}
use Rattle.x5_eval.specs.Parts.{part_shown}
use Rattle.x5_eval.specs.Shown.{nothing_by}
use Rattle.x5_eval.proofs.Joined.{more_shown, more_so, seen_more}
use Rattle.x5_eval.proofs.local.parts.Goals as goal

pub part_at-requires-clause-held : goal.part_at-requires-clause-held
part_at-requires-clause-held c = c.requires.held _ (in_get c.args.numbers.now c.loop-number.number-index 0 c.loop-number-test.true)

pub loop-number-preserved : goal.loop-number-preserved
loop-number-preserved c = record {
  so_far = more_shown c.args.numbers.now c.loop-number.number-index c.loop-number-test.true
      (part_shown (body_view c.args.message.now.request.body) (chained_view c.args.names.now c.args.message.now) (holdings_view c.args.state.now))
      (map (answer_view c.args.names.now) c.loop-number.parts) (map (answer_view c.args.names.now) c.push-in-loop-number.new.self)
      (nothing_by (body_view c.args.message.now.request.body)
      ∷ map (part_shown (body_view c.args.message.now.request.body) (chained_view c.args.names.now c.args.message.now) (holdings_view c.args.state.now)) c.args.numbers.now)
      c.loop-number.invariant.so_far
      (seen_more c.args.names.now c.loop-number.parts c.push-in-loop-number.new.self c.in_ok-part_at.field-0 _ c.in_ok-push-2.ensures.ok c.in_ok-part_at.ensures.part);
  ordered = more_so c.args.numbers.now c.loop-number.number-index c.loop-number-test.true
      (λ n. is_in_order (part_shown (body_view c.args.message.now.request.body) (chained_view c.args.names.now c.args.message.now) (holdings_view c.args.state.now) n) ≡ true)
      c.loop-number.invariant.ordered (ap is_in_order (sym c.in_ok-part_at.ensures.part) ∙ c.in_ok-part_at.ensures.order);
}
