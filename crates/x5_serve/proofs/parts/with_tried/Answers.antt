-- What is kept are the references that somebody tried.
use Rattle.std.proofs.Common.{sym, ap, ◌∙◌, map}
use Rattle.x5_model.specs.Answers as model
use Rattle.x5_model_serve.specs.Answering.{passed_by, only_unexplored}
use Rattle.x5_ops.specs.AnswerViews.{answer_view, sub_view, info_view, source_view, outcome_view}
use Rattle.x5_serve.proofs.Values.{tried_view}
use Rattle.x5_serve.proofs.parts.with_tried.Goals as goal

pub returns-in_ok-with_tried_alone-in-Listed-clause-view : goal.returns-in_ok-with_tried_alone-in-Listed-clause-view
returns-in_ok-with_tried_alone-in-Listed-clause-view c = λ names.
    ap (λ o. model.Listed (map sub_view c.in-Listed.subs) (map (source_view names) c.in-Listed.sources)
    (outcome_view names o)) c.in_ok-with_tried_alone-in-Listed.ensures
    ∙ ap (λ us. model.Listed (map sub_view c.in-Listed.subs) (map (source_view names) c.in-Listed.sources)
    (record { limited = c.in-Listed.outcome.limited; unexplored = us }))
    (tried_view names c.in-Listed.outcome.unexplored)
    ∙ ap (λ a. only_unexplored (passed_by (answer_view names a)) (answer_view names a)) (sym c.in-Listed.is)

pub returns-in_ok-with_tried_alone-in-Found-clause-view : goal.returns-in_ok-with_tried_alone-in-Found-clause-view
returns-in_ok-with_tried_alone-in-Found-clause-view c = λ names.
    ap (λ o. model.Found (map info_view c.in-Found.entries) (map (source_view names) c.in-Found.sources)
    (outcome_view names o)) c.in_ok-with_tried_alone-in-Found.ensures
    ∙ ap (λ us. model.Found (map info_view c.in-Found.entries) (map (source_view names) c.in-Found.sources)
    (record { limited = c.in-Found.outcome.limited; unexplored = us }))
    (tried_view names c.in-Found.outcome.unexplored)
    ∙ ap (λ a. only_unexplored (passed_by (answer_view names a)) (answer_view names a)) (sym c.in-Found.is)
