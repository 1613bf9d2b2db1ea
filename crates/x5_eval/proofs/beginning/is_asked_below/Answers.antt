-- Its last RDN is the one that counts.
use Rattle.std.proofs.Common.{sym, ◌∙◌}
use Rattle.x5_model.specs.Keys.{is_child}
use Rattle.x5_model.specs.Values.{key_of}
use Rattle.x5_model_tree.specs.Ask.{in_subset}
use Rattle.x5_model_run.specs.Needs.{is_excluded}
use Rattle.x5_ops.specs.RequestViews.{subset_view}
use Rattle.x5_eval.proofs.Begun.{excluded_is, left_in, left_out}
use Rattle.x5_eval.proofs.beginning.is_asked_below.Goals as goal

pub returns-then-is_excluded : goal.returns-then-is_excluded
returns-then-is_excluded c =
    let base = key_of c.args.base.now in
    let prefix = key_of c.args.prefix.now in
    let is = excluded_is c.args.exclusions.now c.args.prefix.now c.in-Some.last.now c.is_excluded.result c.in-Some.ensures c.is_excluded.ensures in
    left_out (is_child base prefix) (in_subset (subset_view c.args.subset) base prefix) (is_excluded c.args.exclusions.now c.args.prefix.now)
    (sym is ∙ c.if-is_excluded.true)

pub returns : goal.returns
returns c =
    let base = key_of c.args.base.now in
    let prefix = key_of c.args.prefix.now in
    let is = excluded_is c.args.exclusions.now c.args.prefix.now c.in-Some.last.now c.is_excluded.result c.in-Some.ensures c.is_excluded.ensures in
    left_in (is_child base prefix) (in_subset (subset_view c.args.subset) base prefix) (is_excluded c.args.exclusions.now c.args.prefix.now)
    c.is_just_below.result (sym is ∙ c.if-is_excluded.false) c.is_just_below.ensures
