-- Members are joined by key, and the rest is put behind one another.
use Rattle.std.proofs.Common.{◌≡◌, ◌∷◌, [], sym, ◌∙◌}
use Rattle.x5_model.specs.Values.{key_of}
use Rattle.x5_model_serve.specs.Answering as model
use Rattle.x5_ops.specs.AnswerViews.{answer_view}
use Rattle.x5_ops.specs.declared.answers.Sub.{Sub}
use Rattle.x5_ops.specs.declared.answers.EntryInfo.{EntryInfo}
use Rattle.x5_merge.specs.Order.{below_by}
use Rattle.x5_merge.proofs.Views.{lists_merged, finds_merged}
use Rattle.x5_merge.proofs.merging.both.Goals as goal

pub returns-in_ok-both_outcomes-in-Listed-Listed-clause-merged :
    goal.returns-in_ok-both_outcomes-in-Listed-Listed-clause-merged
returns-in_ok-both_outcomes-in-Listed-Listed-clause-merged c =
    let w = c.in-Listed-Listed in
    let e : c.from_vec.result ≡ model.joined (below_by (λ (a : Sub). key_of (a.rdn ∷ []))) w.subs w.more =
    c.from_vec.ensures ∙ c.in_ok-joined-in-Listed-Listed.ensures
    ∙ (λ i. model.joined (below_by (λ (a : Sub). key_of (a.rdn ∷ []))) (c.into_vec.ensures i) (c.into_vec-in-Listed-Listed.ensures i)) in
    λ names.
    lists_merged w.subs w.more c.from_vec.result w.sources w.others c.in_ok-appended-in-Listed-Listed.field-0 w.outcome w.other c.in_ok-both_outcomes-in-Listed-Listed.field-0 e c.in_ok-appended-in-Listed-Listed.ensures c.in_ok-both_outcomes-in-Listed-Listed.ensures names
    ∙ (λ i. model.merged (answer_view names (sym w.is-0 i)) (answer_view names (sym w.is-1 i)))

pub returns-in_ok-both_outcomes-in-Found-Found-clause-merged :
    goal.returns-in_ok-both_outcomes-in-Found-Found-clause-merged
returns-in_ok-both_outcomes-in-Found-Found-clause-merged c =
    let w = c.in-Found-Found in
    let e : c.from_vec-in-Found-Found.result ≡ model.joined (below_by (λ (a : EntryInfo). key_of a.name)) w.entries w.more =
    c.from_vec-in-Found-Found.ensures ∙ c.in_ok-joined-in-Found-Found.ensures
    ∙ (λ i. model.joined (below_by (λ (a : EntryInfo). key_of a.name)) (c.into_vec-in-Found-Found.ensures i) (c.into_vec-in-Found-Found-2.ensures i)) in
    λ names.
    finds_merged w.entries w.more c.from_vec-in-Found-Found.result w.sources w.others c.in_ok-appended-in-Found-Found.field-0 w.outcome w.other c.in_ok-both_outcomes-in-Found-Found.field-0 e c.in_ok-appended-in-Found-Found.ensures c.in_ok-both_outcomes-in-Found-Found.ensures names
    ∙ (λ i. model.merged (answer_view names (sym w.is-0 i)) (answer_view names (sym w.is-1 i)))
