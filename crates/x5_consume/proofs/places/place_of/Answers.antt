-- The table has it, since there is a copy.
use Rattle.std.proofs.Common.{subst, ap, ◌∙◌, Some, Option}
use Rattle.std.specs.Option.{is_some}
use Rattle.x5_model.specs.Values.{Name, key_of}
use Rattle.x5_model_run.specs.Holdings.{Copy, copy_at}
use Rattle.x5_holdings.specs.Known.{IsPlaceOf}
use Rattle.x5_holdings.specs.State.{copy_view, holdings_view}
use Rattle.x5_consume.proofs.places.place_of.Goals as goal

pub returns : goal.returns
returns c =
    subst (λ (n : Name). IsPlaceOf copy_view c.args.state.now.copies (copy_at (holdings_view c.args.state.now) (key_of n)) (Some c.in-Some.place))
    c.rdns.ensures c.in-Some.ensures

pub unreachable-requires : goal.unreachable-requires
unreachable-requires c =
    let e = ap (λ (o : Option Copy). is_some o) c.in-None.ensures in
    let t = ap (λ (n : Name). is_some (copy_at (holdings_view c.args.state.now) (key_of n))) c.rdns.ensures ∙ c.requires in cc
