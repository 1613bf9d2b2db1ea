-- The controls are missing, or all of the content of the element.
use Rattle.std.proofs.Common.{List, ℕ, [], false, refl, lit<, lit≤, sym, subst, ◌∙◌}
use Rattle.std.specs.declared.option.Option.TheVariants.{None}
use Rattle.x5_model.specs.Requests.{Controls}
use Rattle.x5_model_messages.specs.Requests as requests
use Rattle.x5_model_typed.specs.Forms.{Default}
use Rattle.x5_model_typed.specs.Layouts.{controls, no_controls}
use Rattle.x5_model_typed.specs.Named as named
use Rattle.x5_ops.specs.RequestViews.{controls_view}
use Rattle.x5_types.specs.NodeView.{node_view}
use Rattle.x5_direct.proofs.Heads.{nothing}
use Rattle.x5_dapber.specs.Direct.{ReadsNext}
use Rattle.x5_dapber.proofs.ReadIsSayable.{controls_fit}
use Rattle.x5_dapber.proofs.Sets.{next_given, next_missing}
use Rattle.x5_dapber.proofs.direct.controls_last.Goals as goal

abbrev none : Controls
none = record { nocopy = false; nochain = false; size = None }

pub controls_in-requires : goal.controls_in-requires
controls_in-requires c = controls_fit (node_view c.in_ok-node.node) c.in_ok-node.ensures.fits

pub returns-then-is_empty : goal.returns-then-is_empty
returns-then-is_empty c =
    subst (λ (l : List ℕ). ReadsNext 49 30 controls requests.controls_in none c.args.octets.now l)
    (nothing c.args.octets.now (sym c.is_empty.ensures ∙ c.if-is_empty.true))
    (next_missing 49 30 named.Controls no_controls requests.controls_in none c.args.octets.now refl)

pub returns : goal.returns
returns c =
    next_given 48 190 named.Controls (Default no_controls) requests.controls_in (controls_view c.controls_in.result)
    c.in_ok-content.content.now c.args.octets.now [] (lit≤ tt) (lit< tt) c.in_ok-content.ensures
    (node_view c.in_ok-node.node, c.in_ok-node.ensures.is, c.controls_in.ensures)
