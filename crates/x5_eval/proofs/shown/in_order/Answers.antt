-- The closure compares by names' keys, and a stable sort has one outcome.
use Rattle.std.proofs.Common.{rules, of_calls, ap, ◌∙◌, map}
use Rattle.std.proofs.lemmas.Fn.{always_returns_same}
use Rattle.std.proofs.lemmas.List.MinMax.{ranks_by}
use Rattle.x5_model.specs.Keys.{key_below}
use Rattle.x5_model.specs.Values.{key_of}
use Rattle.x5_model.proofs.KeyLaws.{key_cmp_total}
use Rattle.x5_model_serve.specs.Answering.{before_info}
use Rattle.x5_ops.specs.AnswerViews.{info_view}
use Rattle.x5_ops.specs.declared.answers.EntryInfo.{EntryInfo}
use Rattle.x5_merge.proofs.Sorting.{stable_sort}
use Rattle.x5_eval.proofs.Ordered.{sorted_map}
use Rattle.x5_eval.proofs.shown.in_order.Goals as goal

pub returns : goal.returns
returns c =
    ap (map info_view) (stable_sort (λ (a b : EntryInfo). key_below (key_of a.name) (key_of b.name)) (ranks_by key_cmp_total (λ (a : EntryInfo). key_of a.name))
    c.args.infos.items c.sort_by.new.self.items
    (c.in_ok-sort_by.ensures.sorted (λ (a b : EntryInfo). key_below (key_of a.name) (key_of b.name)) (ranks_by key_cmp_total (λ (a : EntryInfo). key_of a.name))
    (always_returns_same _ _ _ (λ a r f k. search (rules, of_calls))))
    (c.in_ok-sort_by.ensures.stable (λ (a b : EntryInfo). key_below (key_of a.name) (key_of b.name)) (ranks_by key_cmp_total (λ (a : EntryInfo). key_of a.name))
    (always_returns_same _ _ _ (λ a r f k. search (rules, of_calls)))))
    ∙ sorted_map before_info info_view c.args.infos.items
