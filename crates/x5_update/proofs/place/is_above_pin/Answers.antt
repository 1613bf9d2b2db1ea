-- A known pin, or an NSSR, at the name or below it.
use Rattle.std.proofs.Common.{Bool, not, ◌||◌, List, map, get_or, sym, ap, ◌∙◌}
use Rattle.std.specs.List.{list_any}
use Rattle.x5_model.specs.Keys.{is_prefix}
use Rattle.x5_model.specs.Values.{Name, key_of}
use Rattle.x5_holdings.specs.Runs.{run_of}
use Rattle.x5_holdings.specs.State.{Kept, holdings_view}
use Rattle.x5_holdings.proofs.Holding.{got}
use Rattle.x5_update.proofs.Committed.{pins_at}
use Rattle.x5_update.proofs.Testing.{above_by}
use Rattle.x5_update.proofs.place.is_above_pin.Goals as goal

pub returns-else-knows_under : goal.returns-else-knows_under
returns-else-knows_under c = λ r u is.
    ap (λ (b : Bool). b || not c.is_empty.result) (sym c.if-knows_under.false)
    ∙ above_by c.args.state.now r (key_of c.args.name.now) c.args.place.own c.args.place.node is c.index-own-place.result
    c.knows_under.result c.is_empty.result c.nssrs_under.result.now
    (got c.args.state.now.own c.args.place.own c.index-own-place.result c.requires
    (c.index-own-place.is ∙ ap (λ (l : List Kept). get_or l c.args.place.own c.index-own-place.result) c.own.ensures.own))
    (c.knows_under.ensures r u
    ∙ ap (λ (n : Name). list_any (is_prefix (key_of n)) (pins_at r (holdings_view c.args.state.now))) c.rdns.ensures)
    (c.nssrs_under.ensures
    ∙ ap (λ (n : Name). run_of (map (λ m. key_of m.at) c.index-own-place.result.nssrs) (key_of n)) c.rdns-else-knows_under.ensures)
    c.is_empty.ensures
