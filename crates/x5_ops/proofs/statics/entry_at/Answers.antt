-- The name's last RDN.
use Rattle.std.proofs.Common.{◌≡◌, IfOk, map, sym, ap, subst, ◌∙◌}
use Rattle.std.specs.Option.{option_copied}
use Rattle.x5_model.specs.Values.{Rdn}
use Rattle.x5_model.specs.Attributes.{added_entry}
use Rattle.x5_ops.specs.RequestViews.{attribute_view}
use Rattle.x5_ops.proofs.Refusals.{last_by_place}
use Rattle.x5_ops.proofs.Refusing.{none_by_place}
use Rattle.x5_ops.proofs.statics.entry_at.Goals as goal

pub returns-in-Some : goal.returns-in-Some
returns-in-Some c =
    subst (λ (r : Rdn). IfOk c.stored_entry.result (λ e. e ≡ added_entry r (map attribute_view c.args.attributes.now)))
    (sym (last_by_place c.args.object.now c.in-Some.rdn.now (sym c.last.ensures ∙ ap option_copied c.in-Some.is)))
    c.stored_entry.ensures

pub returns-in_ok-new-in-None : goal.returns-in_ok-new-in-None
returns-in_ok-new-in-None c =
    subst (λ (r : Rdn). IfOk c.stored_entry-in-None-2.result (λ e. e ≡ added_entry r (map attribute_view c.args.attributes.now)))
    (c.in_ok-new-in-None.ensures ∙ c.new.ensures.items ∙ sym (none_by_place c.args.object.now (sym c.last.ensures ∙ ap option_copied c.in-None.is)))
    c.stored_entry-in-None-2.ensures
