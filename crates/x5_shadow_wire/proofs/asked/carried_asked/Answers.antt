-- What is asked or told is within the limits, and what is read of it is just that.
use Rattle.std.proofs.Common.{sym, ap, subst, ◌∙◌}
use Rattle.x5_model_shadowed.specs.Within.{ShadowWithin}
use Rattle.x5_types.specs.FormView.{world}
use Rattle.x5_shadow_wire.specs.Carried.{asked_of}
use Rattle.x5_shadow_wire.proofs.Telling.{asked_back, asking_within, none_some, some_is}
use Rattle.x5_shadow_wire.proofs.asked.carried_asked.Goals as goal

pub carried_alone-requires : goal.carried_alone-requires
carried_alone-requires c =
    let names = c.args.names.now in
    subst (ShadowWithin (world c.args.start.now names)) (sym (c.opening-message.ensures names))
    (asking_within c.args.start.now names c.args.push c.args.asked c.number.ensures c.moment.ensures)

pub returns : goal.returns
returns c =
    let names = c.args.names.now in
    some_is (sym c.in-Some.is ∙ c.asked_in-told.ensures names
    ∙ ap asked_of (c.in_ok-taken.ensures ∙ c.opening-message.ensures names)
    ∙ asked_back c.args.push c.args.asked)

pub unreachable-requires : goal.unreachable-requires
unreachable-requires c =
    let names = c.args.names.now in
    none_some (sym c.in-None.is ∙ c.asked_in-told.ensures names
    ∙ ap asked_of (c.in_ok-taken.ensures ∙ c.opening-message.ensures names)
    ∙ asked_back c.args.push c.args.asked)
