-- The references that nobody tried are what is left to follow.
use Rattle.std.proofs.Common.{not, sym, ap, ◌∙◌, map}
use Rattle.std.specs.List.{filter}
use Rattle.std.proofs.lemmas.Result.{IfOk-weaker}
use Rattle.x5_model_serve.specs.Answering.{to_follow}
use Rattle.x5_ops.specs.AnswerViews.{answer_view}
use Rattle.x5_ops.specs.ReferenceViews.{reference_view}
use Rattle.x5_serve.proofs.Values.{untried_view}
use Rattle.x5_serve.proofs.parts.left_to_follow.Goals as goal

pub returns-in-Listed-clause-view : goal.returns-in-Listed-clause-view
returns-in-Listed-clause-view c =
    IfOk-weaker c.untried.result _ _
    (λ left e names. ap (map (reference_view names)) (e ∙ ap (filter (λ r. not r.tried)) c.as_slice.ensures)
    ∙ untried_view names c.in-Listed.outcome.unexplored
    ∙ ap (λ a. to_follow (answer_view names a)) (sym c.in-Listed.is))
    c.untried.ensures

pub returns-in-Found-clause-view : goal.returns-in-Found-clause-view
returns-in-Found-clause-view c =
    IfOk-weaker c.untried-in-Found.result _ _
    (λ left e names. ap (map (reference_view names)) (e ∙ ap (filter (λ r. not r.tried)) c.as_slice-in-Found.ensures)
    ∙ untried_view names c.in-Found.outcome.unexplored
    ∙ ap (λ a. to_follow (answer_view names a)) (sym c.in-Found.is))
    c.untried-in-Found.ensures
