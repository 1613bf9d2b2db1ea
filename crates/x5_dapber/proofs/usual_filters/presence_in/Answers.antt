-- The content is the type.
use Rattle.x5_syntax.specs.TypeView.{type_view}
use Rattle.x5_dapber.proofs.UsualFilters.{presence_reads}
use Rattle.x5_dapber.proofs.usual_filters.presence_in.Goals as goal

pub returns : goal.returns
returns c =
    presence_reads (type_view c.in_ok-known_type_in.field-0) c.in_ok-content.content.now c.args.octets.now
    c.in_ok-content.ensures c.in_ok-known_type_in.ensures
