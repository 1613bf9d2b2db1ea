-- The target of an addEntry is the entry above the new one.
use Rattle.std.proofs.Common.{◌≡◌, None, map, subst}
use Rattle.x5_model.specs.Keys.{Key}
use Rattle.x5_model.specs.Values.{key_of}
use Rattle.x5_model.specs.Statics.{fault_of}
use Rattle.x5_model_tree.proofs.Grown.{above_key}
use Rattle.x5_model_run.specs.Needs.{target_of}
use Rattle.x5_ops.specs.RequestViews.{attribute_view, body_view, request_view}
use Rattle.x5_ops.specs.declared.requests.Body.{Body}
use Rattle.x5_update.specs.Seats.{IsSeat}
use Rattle.x5_update.proofs.Repeats.{none_repeats}
use Rattle.x5_update.proofs.plans.planned.Goals as goal

pub add-requires-clause-seat : goal.add-requires-clause-seat
add-requires-clause-seat c =
    subst (λ (k : Key). IsSeat c.args.state.now (request_view c.args.request.now) k c.args.place.own c.args.place.node)
    (above_key c.in-Add.object)
    (subst (λ (b : Body). IsSeat c.args.state.now (request_view c.args.request.now) (key_of (target_of (body_view b))) c.args.place.own
    c.args.place.node) c.in-Add.is c.requires.seat)

pub add-requires-clause-apart : goal.add-requires-clause-apart
add-requires-clause-apart c =
    none_repeats c.in-Add.object (map attribute_view c.in-Add.attributes)
    (subst (λ (b : Body). fault_of (body_view b) ≡ None) c.in-Add.is c.requires.passed)
