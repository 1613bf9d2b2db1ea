-- The first agreement of the number is the one that is found.
use Rattle.std.proofs.Common.{◌≡◌, sym, ◌∙◌, Some, None}
use Rattle.std.proofs.lemmas.Option.{slice_get_within}
use Rattle.std.proofs.lemmas.Result.{IfOk-weaker}
use Rattle.x5_world.proofs.Arriving.{none_some}
use Rattle.x5_world.proofs.Stopping.{none_finds, place_finds}
use Rattle.x5_world.proofs.shadows.agreed.Goals as goal

pub agreement-requires : goal.agreement-requires
agreement-requires c =
    let w = place_finds c.args.world.now.agreements c.args.number c.in-Some.place (sym c.place_of.ensures ∙ c.in-Some.is) in
    slice_get_within c.args.world.now.agreements c.in-Some.place w.0 w.2

pub returns : goal.returns
returns c =
    let w = place_finds c.args.world.now.agreements c.args.number c.in-Some.place (sym c.place_of.ensures ∙ c.in-Some.is) in
    IfOk-weaker c.agreement.result _ _ (λ g at. w.1 ∙ sym w.2 ∙ at) c.agreement.ensures

pub unreachable-requires : goal.unreachable-requires
unreachable-requires c =
    none_some
    (sym (none_finds c.args.world.now.agreements c.args.number (sym c.place_of.ensures ∙ c.in-None.is)) ∙ c.requires.1)
