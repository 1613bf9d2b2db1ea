-- The filter is missing, or all of the content of the element.
use Rattle.std.proofs.Common.{ap, lit<, lit≤, map}
use Rattle.x5_match.specs.FilterView.{filter_view}
use Rattle.x5_match.specs.declared.filter.Filter.TheVariants.{And}
use Rattle.x5_model_messages.specs.FilterTerms.{filter_in}
use Rattle.x5_model_typed.specs.Forms.{Default}
use Rattle.x5_model_typed.specs.Layouts.{everything}
use Rattle.x5_model_typed.specs.Named as named
use Rattle.x5_model_typed.specs.Nodes.{Many, Nil}
use Rattle.x5_dapber.proofs.FilterMembers.{and_said}
use Rattle.x5_dapber.proofs.Sets.{next_given, next_missing}
use Rattle.x5_dapber.proofs.direct.filter_at.Goals as goal

pub returns-in_default : goal.returns-in_default
returns-in_default c =
    next_missing 49 2 (named.Filter 16) everything filter_in (filter_view (And c.new.result)) c.args.octets.now
    (and_said c.new.result (Many Nil) (ap (map filter_view) c.new.ensures.items))

pub returns : goal.returns
returns c =
    next_given 48 162 (named.Filter 16) (Default everything) filter_in (filter_view c.in_ok-filter_of.field-0)
    c.in_ok-content.content.now c.args.octets.now c.in_ok-content.rest.now (lit≤ tt) (lit< tt)
    c.in_ok-content.ensures.opens c.in_ok-filter_of.ensures
