-- The run below the base has all that stands just below it, or anywhere below it.
use Rattle.std.proofs.Common.{◌≡◌, sym, ap, ◌∙◌}
use Rattle.std.specs.List.{filter}
use Rattle.x5_model.specs.Keys.{is_child}
use Rattle.x5_model.specs.Words.{ascending}
use Rattle.x5_model_tree.specs.Tree.{key_at, named_below}
use Rattle.x5_model_tree.specs.Ask.{in_subset}
use Rattle.x5_ops.specs.RequestViews.{subset_view}
use Rattle.x5_ops.specs.declared.requests.Subset.{Subset}
use Rattle.x5_one.specs.Scopes.{found_in}
use Rattle.x5_one.proofs.Scopes.{scope_in_order}
use Rattle.x5_one.proofs.Sound.{ok_by}
use Rattle.x5_one.proofs.Telling.{below_in_run}
use Rattle.x5_one.proofs.asking.in_scope.Goals as goal

pub just_below-requires : goal.just_below-requires
just_below-requires c = ap (ascending named_below) c.subtree.ensures ∙ scope_in_order c.args.entries.now c.args.base.now c.requires

pub returns-in-One : goal.returns-in-One
returns-in-One c =
    ok_by (λ found. found_in found.items ≡ filter (λ e. is_child c.args.base.now (key_at e)) c.subtree.result.now)
    (λ found. found_in found.items ≡ filter (λ e. in_subset (subset_view c.args.subset) c.args.base.now (key_at e))
    c.args.entries.now)
    (λ found e. e ∙ ap (filter (λ e. is_child c.args.base.now (key_at e))) c.subtree.ensures
    ∙ below_in_run c.args.entries.now c.args.base.now
    ∙ ap (λ (s : Subset). filter (λ e. in_subset (subset_view s) c.args.base.now (key_at e)) c.args.entries.now)
    (sym c.in-One.is))
    c.just_below.result c.just_below.ensures
