-- The table gives where the first reference stands.
use Rattle.std.proofs.Common.{◌≡◌, List, Bor, sym, subst, ap, ◌∙◌}
use Rattle.std.specs.Prelude.{slice_get}
use Rattle.std.specs.Option.{option_map}
use Rattle.x5_model.specs.Values.{key_of}
use Rattle.x5_ops.specs.declared.knowledge.Specific.{Specific}
use Rattle.x5_holdings.specs.Spots.{joined, first_to}
use Rattle.x5_holdings.specs.State.{State, Kept}
use Rattle.x5_holdings.specs.Tables.{below_own}
use Rattle.x5_holdings.specs.Inside.{state_of}
use Rattle.x5_holdings.proofs.Holding.{never_lacking, at_spot, some_got, none_got}
use Rattle.x5_holdings.proofs.holdings.Holdings.below_own.Goals as goal

pub returns-in_err-spot : goal.returns-in_err-spot
returns-in_err-spot c =
    subst (λ (s : State). option_map (λ (k : Bor Specific). k.now) c.from_residual.result ≡ first_to
    (joined (below_own s)) (key_of c.args.pin.now)) c.self.view_is
    (ap (option_map (λ (k : Bor Specific). k.now)) c.from_residual.ensures ∙ sym
    (c.in_err-spot.ensures (below_own (state_of c.self.inside)) c.self.invariant.tables.below_own))

pub returns-in_err-held : goal.returns-in_err-held
returns-in_err-held c =
    absurd (never_lacking (λ (x : Kept). x.subordinate) c.self.inside.own.items (key_of c.args.pin.now)
    c.in_ok-spot.spot (c.in_ok-spot.ensures (below_own (state_of c.self.inside)) c.self.invariant.tables.below_own)
    (sym (ap (λ (l : List Kept). slice_get l c.in_ok-spot.spot.list) c.deref.ensures.value) ∙ none_got
    c.deref.result.now c.in_ok-spot.spot.list c.get.result c.get.ensures.lookup c.in_err-held.was))

pub returns : goal.returns
returns c =
    subst (λ (s : State). option_map (λ (k : Bor Specific). k.now) c.get-2.result ≡ first_to (joined (below_own s))
    (key_of c.args.pin.now)) c.self.view_is
    (at_spot (λ (x : Kept). x.subordinate) c.self.inside.own.items (key_of c.args.pin.now) c.in_ok-spot.spot
    (c.in_ok-spot.ensures (below_own (state_of c.self.inside)) c.self.invariant.tables.below_own)
    c.in_ok-held.held.now c.subordinate.result.now c.get-2.result
    (sym (ap (λ (l : List Kept). slice_get l c.in_ok-spot.spot.list) c.deref.ensures.value) ∙ some_got
    c.deref.result.now c.in_ok-spot.spot.list c.get.result c.in_ok-held.held c.get.ensures.lookup
    c.in_ok-held.was) c.subordinate.ensures c.get-2.ensures.lookup)
