-- What stays unexplored is added to the last part.
use Rattle.std.proofs.Common.{rules, ◌≡◌, [], ◌∷◌, ◌++◌, true, sym, ap, ◌∙◌}
use Rattle.x5_model_serve.specs.Answering.{in_vain, with_unexplored}
use Rattle.x5_ops.specs.AnswerViews.{answer_view}
use Rattle.x5_ops.specs.ReferenceViews.{reference_view}
use Rattle.x5_merge.specs.Merging.{are_alike}
use Rattle.x5_serve.specs.Steps.{whole_view}
use Rattle.x5_serve.proofs.Values.{left_in_last}
use Rattle.x5_serve.proofs.parts.leave_out.Goals as goal

pub returns-clause-view : goal.returns-clause-view
returns-clause-view c = λ names.
    let old : c.args.parts.now.items ≡ c.pop.new.self.items ++ c.in-Some.last ∷ [] = search rules in
    let alike : are_alike (c.pop.new.self.items ++ c.in-Some.last ∷ []) ≡ true = ap are_alike (sym old) ∙
    c.requires.alike in
    let view : answer_view names c.in_ok-with_references.field-0
    ≡ with_unexplored (in_vain (reference_view names c.args.reference) ∷ []) (answer_view names c.in-Some.last) = search
    rules in
    ap (whole_view names) c.in_ok-push-2.ensures.items
    ∙ left_in_last names c.pop.new.self.items c.in-Some.last c.in_ok-with_references.field-0
    (in_vain (reference_view names c.args.reference) ∷ []) alike view
    ∙ ap (λ xs. with_unexplored (in_vain (reference_view names c.args.reference) ∷ []) (whole_view names xs)) (sym old)
