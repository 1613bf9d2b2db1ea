-- The closure compares by targets and kinds, and a stable sort has one outcome.
use Rattle.std.proofs.Common.{Bool, map, rules, of_calls, ap, ◌∙◌}
use Rattle.std.proofs.lemmas.Fn.{always_returns_same}
use Rattle.std.specs.Ordering.{is_lt}
use Rattle.x5_model.specs.Words.{sorted}
use Rattle.x5_model.specs.Values.{key_of}
use Rattle.x5_model_run.specs.Journal.{is_wide}
use Rattle.x5_model_serve.specs.Answering.{taken_before}
use Rattle.x5_ops.specs.ReferenceViews.{kind_view, reference_view}
use Rattle.x5_ops.specs.declared.references.Reference.{Reference}
use Rattle.x5_merge.proofs.Sorting.{stable_sort}
use Rattle.x5_eval.specs.Rest.{taken_cmp}
use Rattle.x5_eval.proofs.Ordered.{sorted_map, sorted_same}
use Rattle.x5_eval.proofs.Taking.{by_taken, code_weak, taken_same}
use Rattle.x5_eval.proofs.references.in_order.Goals as goal

abbrev by_code : Reference → Reference → Bool
by_code a b = is_lt (taken_cmp (key_of a.target) (key_of b.target) (is_wide (kind_view a.kind)) (is_wide (kind_view b.kind)))

pub returns : goal.returns
returns c names =
    ap (map (reference_view names)) (c.from_vec.ensures ∙ stable_sort by_code code_weak c.into_vec-all.result.items c.sort_by.new.self.items
    (c.in_ok-sort_by.ensures.sorted by_code code_weak (always_returns_same _ _ _ (λ a r f k. search (rules, of_calls))))
    (c.in_ok-sort_by.ensures.stable by_code code_weak (always_returns_same _ _ _ (λ a r f k. search (rules, of_calls))))
    ∙ ap (sorted by_code) c.into_vec-all.ensures)
    ∙ sorted_map by_taken (reference_view names) c.args.references
    ∙ sorted_same by_taken taken_before (map (reference_view names) c.args.references) (λ x y i j. taken_same y x)
