-- The prefix is in the subset, and the name above it is that of an entry.
use Rattle.std.proofs.Common.{sym, ◌∙◌}
use Rattle.x5_model.specs.Values.{key_of}
use Rattle.x5_model_tree.specs.Ask.{in_subset}
use Rattle.x5_ops.specs.RequestViews.{subset_view}
use Rattle.x5_eval.proofs.Numbered.{under_tested}
use Rattle.x5_eval.proofs.numbers.stands_under.Goals as goal

pub returns : goal.returns
returns c =
    under_tested c.args.state.now c.root-root.result c.root-root.ensures (key_of c.args.base.now) (subset_view c.args.subset) c.args.above
    c.args.number c.prefix_at-prefix.result.now c.in_ok-parent.field-0 c.prefix_at-prefix.ensures c.in_ok-parent.ensures
    (sym (c.is_in_subset.ensures ∙ (λ i. in_subset (subset_view c.args.subset) (c.key.ensures i) (c.key-2.ensures i)))
    ∙ c.if-not-is_in_subset.false)
    c.has_entry-2.result c.has_entry-2.ensures
