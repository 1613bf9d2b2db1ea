-- What is planned is made.
use Rattle.std.proofs.Common.{◌≡◌, List, length, drop, Ok, sym, ap, ◌∙◌}
use Rattle.std.proofs.lemmas.List.{take_at}
use Rattle.x5_model.specs.Entries.{Named}
use Rattle.x5_one.proofs.Outcomes.{planned_made}
use Rattle.x5_one.proofs.renaming.rename.Goals as goal

pub returns-in-Ok : goal.returns-in-Ok
returns-in-Ok c pins s above =
    let long : length c.settle.new.entries ≡ length c.args.entries.now.items = c.settle.auto.entries
    ∙ ap length c.deref_mut.ensures.value in
    planned_made c.in-Ok.moving c.deref.result.now c.deref_mut.result.now c.args.entries.now.items c.settle.new.entries pins
    c.args.object.now c.args.rdn.now c.args.drop_old c.args.above c.deref.ensures.value c.deref_mut.ensures.value
    c.in-Ok.ensures.made c.settle.ensures s above
    ∙ ap (λ (es : List Named). Ok es) (sym (take_at c.settle.new.entries
    (drop (length c.settle.new.entries) c.args.entries.now.items) c.args.entries.now.len
    (long ∙ sym c.args.entries.now.ok.0)))
