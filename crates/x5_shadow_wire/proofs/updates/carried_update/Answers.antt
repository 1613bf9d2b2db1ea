-- What is sent is within the limits, and what is read of it brings the same.
use Rattle.std.proofs.Common.{sym, subst, ◌∙◌}
use Rattle.x5_model_shadowed.specs.Within.{ShadowWithin}
use Rattle.x5_types.specs.FormView.{world}
use Rattle.x5_shadow_wire.specs.Carried.{IsUpdate, bringing}
use Rattle.x5_shadow_wire.proofs.Same.{same_brought}
use Rattle.x5_shadow_wire.proofs.Telling.{updating_within}
use Rattle.x5_shadow_wire.proofs.updates.carried_update.Goals as goal

pub carried_shadow-requires : goal.carried_shadow-requires
carried_shadow-requires c =
    let names = c.args.names.now in
    subst (ShadowWithin (world c.args.start.now names)) (sym (c.message_of-message.ensures names))
    (updating_within c.args.start.now names c.args.update.agreement c.args.update.stamp
    (bringing names c.args.update.brought) c.number.ensures c.moment.ensures c.requires.within)

pub returns : goal.returns
returns c =
    let names = c.args.names.now in
    let sent = c.args.update in
    let w = subst (IsUpdate names sent.agreement sent.stamp sent.brought) c.in-Some.is
    (c.update_in.ensures names sent.agreement sent.stamp sent.brought
    (c.in_ok-taken.ensures ∙ c.message_of-message.ensures names)) in (
      w.0,
      w.1,
      same_brought (world c.args.start.now names) names c.requires.agents c.in-Some.update.brought sent.brought c.requires.within
          w.2,
    )

pub unreachable-requires : goal.unreachable-requires
unreachable-requires c =
    let names = c.args.names.now in
    let sent = c.args.update in
    subst (IsUpdate names sent.agreement sent.stamp sent.brought) c.in-None.is
    (c.update_in.ensures names sent.agreement sent.stamp sent.brought
    (c.in_ok-taken.ensures ∙ c.message_of-message.ensures names))
