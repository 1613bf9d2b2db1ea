-- The members are those of the filter.
use Rattle.x5_dapber.proofs.UsualFilters.{and_reads}
use Rattle.x5_dapber.proofs.usual_filters.all_items_in.Goals as goal

pub returns : goal.returns
returns c =
    and_reads c.in_ok-item_filters_in.field-0 c.in_ok-list.list.now c.in_ok-members.members.now c.args.octets.now
    c.in_ok-list.ensures c.in_ok-members.ensures c.in_ok-item_filters_in.ensures
