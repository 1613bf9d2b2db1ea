-- Those so far, with what the rest shows, are all; and each so far is in order.
use Rattle.std.proofs.Common.{◌≡◌, ◌∷◌, ◌++◌, ℕ, drop, take, map, true}
use Rattle.x5_model.specs.Members.{In}
use Rattle.x5_model_serve.specs.Answering.{is_in_order}
use Rattle.x5_ops.specs.AnswerViews.{answer_view}
use Rattle.x5_ops.specs.ReferenceViews.{chained_view}
use Rattle.x5_ops.specs.RequestViews.{body_view}
use Rattle.x5_holdings.specs.State.{holdings_view}
use Rattle.x5_eval.specs.Parts.{part_shown}
use Rattle.x5_eval.specs.Shown.{nothing_by}
use Rattle.x5_eval.proofs.local.parts.Given as goal

abbrev pub invariant-loop-number : goal.invariant-loop-number
invariant-loop-number l = record {
  so_far : map (answer_view l.names) l.parts ++ map (part_shown (body_view l.message.request.body) (chained_view l.names l.message) (holdings_view l.state)) (drop l.number-index l.numbers)
      ≡ nothing_by (body_view l.message.request.body) ∷ map (part_shown (body_view l.message.request.body) (chained_view l.names l.message) (holdings_view l.state)) l.numbers;
  ordered : (n : ℕ) → In n (take l.number-index l.numbers)
      → is_in_order (part_shown (body_view l.message.request.body) (chained_view l.names l.message) (holdings_view l.state) n) ≡ true;
}
