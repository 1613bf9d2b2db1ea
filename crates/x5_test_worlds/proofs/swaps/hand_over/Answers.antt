-- What the agent holds in the one network it can hold in the other, which has as many agents; and both keep their room.
use Rattle.std.proofs.Common.{◌≡◌, ℕ, length, subst, sym, ap, ◌∙◌}
use Rattle.x5_holdings.specs.State.{State}
use Rattle.x5_world.specs.Places.{FitsPlace}
use Rattle.x5_test_worlds.proofs.Handing.{nothing_fits, room_stays}
use Rattle.x5_test_worlds.proofs.swaps.hand_over.Goals as goal

pub swap_holdings-holdings-requires-clause-fits : goal.swap_holdings-holdings-requires-clause-fits
swap_holdings-holdings-requires-clause-fits c =
    subst (λ (s : State). FitsPlace (length c.args.from.now.names) c.args.agent s) (sym c.empty.ensures)
    (nothing_fits (length c.args.from.now.names) c.args.agent)

pub swap_holdings-requires-clause-fits : goal.swap_holdings-requires-clause-fits
swap_holdings-requires-clause-fits c =
    let alike : length c.args.from.now.names ≡ length c.args.to.now.names =
    sym (c.len-count.ensures.same ∙ ap length c.names.ensures) ∙ sym c.if-others-count.false
    ∙ c.len-others.ensures.same
    ∙ ap length c.names-2.ensures in
    subst (λ (k : ℕ). FitsPlace k c.args.agent c.swap_holdings-holdings.result) alike
    c.swap_holdings-holdings.ensures.fits

pub returns-clause-from_room : goal.returns-clause-from_room
returns-clause-from_room c =
    room_stays c.args.from.now c.swap_holdings-holdings.new.self _ _ c.swap_holdings-holdings.ensures.swapped

pub returns-clause-to_room : goal.returns-clause-to_room
returns-clause-to_room c = room_stays c.args.to.now c.swap_holdings.new.self _ _ c.swap_holdings.ensures.swapped
