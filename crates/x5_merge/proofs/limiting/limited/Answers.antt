-- The first members stand for the first of what all stand for.
use Rattle.std.proofs.Common.{sym, ap, ◌∙◌, Some}
use Rattle.x5_model_serve.specs.Answering.{limited_answer}
use Rattle.x5_ops.specs.AnswerViews.{answer_view}
use Rattle.x5_merge.proofs.Views.{list_limited, find_limited}
use Rattle.x5_merge.proofs.limiting.limited.Goals as goal

pub returns-in-Listed : goal.returns-in-Listed
returns-in-Listed c =
    λ names.
    list_limited c.in-Listed.subs c.front_of.result c.in-Listed.sources c.in-Listed.outcome c.marked.result c.args.count c.len.result c.len.ensures c.front_of.ensures c.marked.ensures names
    ∙ ap (λ a. limited_answer (Some c.args.count) (answer_view names a)) (sym c.in-Listed.is)

pub returns-in-Found : goal.returns-in-Found
returns-in-Found c =
    λ names.
    find_limited c.in-Found.entries c.front_of-in-Found.result c.in-Found.sources c.in-Found.outcome c.marked-in-Found.result c.args.count c.len-in-Found.result c.len-in-Found.ensures c.front_of-in-Found.ensures c.marked-in-Found.ensures names
    ∙ ap (λ a. limited_answer (Some c.args.count) (answer_view names a)) (sym c.in-Found.is)
