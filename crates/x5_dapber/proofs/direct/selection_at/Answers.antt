-- The selection is missing, or all of the content of the element.
use Rattle.std.proofs.Common.{refl, ◌-◌}
use Rattle.x5_model.specs.Requests.{All}
use Rattle.x5_model_messages.specs.Requests as requests
use Rattle.x5_model_typed.specs.Forms.{Default}
use Rattle.x5_model_typed.specs.Layouts.{all_attributes}
use Rattle.x5_model_typed.specs.Named as named
use Rattle.x5_ops.specs.RequestViews.{selection_view}
use Rattle.x5_dapber.proofs.Sets.{next_given, next_missing}
use Rattle.x5_dapber.proofs.direct.selection_at.Goals as goal

pub returns-in_default : goal.returns-in_default
returns-in_default c =
    next_missing 49 (c.args.first - 160) named.Selection all_attributes requests.selection_in All c.args.octets.now refl

pub returns-then-octet-first : goal.returns-then-octet-first
returns-then-octet-first c =
    next_missing 49 (c.args.first - 160) named.Selection all_attributes requests.selection_in All c.args.octets.now refl

pub returns : goal.returns
returns c =
    next_given 48 c.args.first named.Selection (Default all_attributes) requests.selection_in
    (selection_view c.in_ok-selection_of.field-0) c.in_ok-content.content.now c.args.octets.now
    c.in_ok-content.rest.now c.requires.context c.requires.low c.in_ok-content.ensures.opens
    c.in_ok-selection_of.ensures
