-- The components are the argument.
use Rattle.x5_ops.specs.RequestViews.{controls_view, selection_view, subset_view}
use Rattle.x5_match.specs.FilterView.{filter_view}
use Rattle.x5_dapber.proofs.ArgumentsSpelled.{search_read}
use Rattle.x5_dapber.proofs.direct.search_of.Goals as goal

pub returns-in-Ok : goal.returns-in-Ok
returns-in-Ok c =
    search_read (controls_view c.in-Ok.controls) c.in_ok-base.base (subset_view c.in_ok-subset.subset)
    (filter_view c.in_ok-filter.filter) (selection_view c.in-Ok.selection) c.in_ok-content.content.now
    c.args.octets.now c.in_ok-base.second.now c.in_ok-subset.third.now c.in_ok-filter.fourth.now
    c.in-Ok.ensures.0 c.in_ok-content.ensures c.in_ok-base.ensures c.in_ok-subset.ensures
    c.in_ok-filter.ensures c.in-Ok.ensures.1 c.in-Ok.ensures.2
