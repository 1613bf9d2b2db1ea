-- What stands at the place that the table gives is the copy of the context.
use Rattle.std.proofs.Common.{List, Bor, sym, subst, ap, ◌∙◌}
use Rattle.std.specs.Option.{option_map}
use Rattle.std.specs.Slice.{IsItemAt}
use Rattle.x5_model.specs.Values.{Name, key_of}
use Rattle.x5_model_run.specs.Holdings.{Copy}
use Rattle.x5_holdings.specs.State.{CopyKept, copy_view}
use Rattle.x5_supply.specs.Supplied.{copy_of}
use Rattle.x5_supply.proofs.Placed.{none_at, got_at}
use Rattle.x5_supply.proofs.sources.copied.Goals as goal

pub returns-in_err-place : goal.returns-in_err-place
returns-in_err-place c =
    ap (option_map (λ (k : Bor CopyKept). k.now)) c.from_residual.ensures
    ∙ sym (none_at copy_view (λ (h : Copy). key_of h.held.prefix) (key_of c.rdns.result.now) c.args.state.now.copies c.in_err-place.ensures)
    ∙ ap (λ (n : Name). copy_of c.args.state.now (key_of n)) c.rdns.ensures

pub returns : goal.returns
returns c =
    got_at copy_view (λ (h : Copy). key_of h.held.prefix) (key_of c.rdns.result.now) c.args.state.now.copies c.copies.ensures.once c.in_ok-place.place
    c.in_ok-place.ensures c.get.result
    (subst (λ (l : List CopyKept). IsItemAt l c.in_ok-place.place c.get.result) c.copies.ensures.copies c.get.ensures.lookup)
    ∙ ap (λ (n : Name). copy_of c.args.state.now (key_of n)) c.rdns.ensures
