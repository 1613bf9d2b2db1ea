-- The content is the item.
use Rattle.x5_match.specs.FilterView.{item_view}
use Rattle.x5_dapber.proofs.UsualFilters.{item_reads}
use Rattle.x5_dapber.proofs.usual_filters.item_filter_at.Goals as goal

pub returns-clause-reads : goal.returns-clause-reads
returns-clause-reads c =
    item_reads (item_view c.in_ok-usual_item.field-0) c.in_ok-content.content.now c.args.octets.now
    c.in_ok-content.rest.now c.in_ok-content.ensures.opens c.in_ok-usual_item.ensures
