-- An agent that may not chain replies with its part.
use Rattle.std.proofs.Common.{sym, ap, subst, ◌∙◌}
use Rattle.x5_model.specs.Answers.{Answered}
use Rattle.x5_model_serve.specs.Answering.{with_unexplored}
use Rattle.x5_model_serve.specs.Serving.{hand, Serves, Does, at_limit, gives_parts}
use Rattle.x5_ops.specs.ReferenceViews.{chained_view}
use Rattle.x5_ops.specs.AnswerViews.{answer_view}
use Rattle.x5_serve.proofs.arrival.parted.Goals as goal

pub returns-then-idle : goal.returns-then-idle
returns-then-idle c = λ s most names j me idle arrives own.
    let k = hand me (chained_view names c.args.message.now) in
    let a = answer_view names c.args.answer in
    subst (λ y. Does s most (Serves (hand me (chained_view names c.args.message.now)) y) j j)
    (ap (λ rs. Answered (at_limit (hand me (chained_view names c.args.message.now)) (with_unexplored rs
    (answer_view names c.args.answer)))) own.rest
    ∙ sym (c.in_ok-with_rest.ensures names me))
    (gives_parts (answer_view names c.args.answer) arrives own.begins (idle ∙ c.if-idle.true) own.part)
