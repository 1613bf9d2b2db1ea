-- What stands at the place that the table gives is the context of the prefix.
use Rattle.std.proofs.Common.{List, Bor, sym, subst, ap, ◌∙◌}
use Rattle.std.specs.Option.{option_map}
use Rattle.std.specs.Slice.{IsItemAt}
use Rattle.x5_model.specs.Values.{Name, key_of}
use Rattle.x5_model_run.specs.Holdings.{Held}
use Rattle.x5_holdings.specs.State.{Kept, held_view}
use Rattle.x5_supply.specs.Supplied.{mastered_of}
use Rattle.x5_supply.proofs.Placed.{none_at, got_at}
use Rattle.x5_supply.proofs.sources.mastered.Goals as goal

pub returns-in_err-place : goal.returns-in_err-place
returns-in_err-place c =
    ap (option_map (λ (k : Bor Kept). k.now)) c.from_residual.ensures
    ∙ sym (none_at held_view (λ (h : Held). key_of h.prefix) (key_of c.rdns.result.now) c.args.state.now.own c.in_err-place.ensures)
    ∙ ap (λ (n : Name). mastered_of c.args.state.now (key_of n)) c.rdns.ensures

pub returns : goal.returns
returns c =
    got_at held_view (λ (h : Held). key_of h.prefix) (key_of c.rdns.result.now) c.args.state.now.own c.own.ensures.apart c.in_ok-place.place
    c.in_ok-place.ensures c.get.result
    (subst (λ (l : List Kept). IsItemAt l c.in_ok-place.place c.get.result) c.own.ensures.own c.get.ensures.lookup)
    ∙ ap (λ (n : Name). mastered_of c.args.state.now (key_of n)) c.rdns.ensures
