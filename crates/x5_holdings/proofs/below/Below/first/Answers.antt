-- What stands at the first place of the pin is its first reference.
use Rattle.std.proofs.Common.{List, Option, sym, subst, ap, ◌∙◌}
use Rattle.std.specs.Prelude.{slice_get}
use Rattle.x5_model.specs.Values.{key_of}
use Rattle.x5_holdings.specs.declared.below.Spot.{Spot}
use Rattle.x5_holdings.specs.Spots.{Spotted, AreBelow, IsSpot}
use Rattle.x5_holdings.proofs.Holding.{item_got}
use Rattle.x5_holdings.proofs.Spotted.{no_spot, spot_within}
use Rattle.x5_holdings.proofs.below.Below.first.Goals as goal

pub returns-in_err-place : goal.returns-in_err-place
returns-in_err-place c = λ lists h.
    subst (λ (o : Option Spot). IsSpot lists (key_of c.args.rdns.now) o) (sym c.from_residual.ensures)
    (no_spot (record { rows = c.self.inside.pins; spots = c.self.inside.spots.items }) lists (key_of c.args.rdns.now)
    (subst (λ (b : Spotted). AreBelow b lists) (sym c.self.view_is) h) c.in_err-place.ensures)

pub returns : goal.returns
returns c = λ lists h.
    let w = spot_within (record { rows = c.self.inside.pins; spots = c.self.inside.spots.items }) lists
    (key_of c.args.rdns.now) (subst (λ (b : Spotted). AreBelow b lists) (sym c.self.view_is) h)
    c.in_ok-place.place c.in_ok-place.ensures in
    subst (λ (o : Option Spot). IsSpot lists (key_of c.args.rdns.now) o)
    (sym (c.copied.ensures ∙ (item_got c.deref.result.now c.in_ok-place.place c.get.result c.get.ensures.lookup ∙
    (ap (λ (l : List Spot). slice_get l c.in_ok-place.place) c.deref.ensures.value ∙ w.1.0)))) w.1.1
