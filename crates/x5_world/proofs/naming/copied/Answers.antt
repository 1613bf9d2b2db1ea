-- The next name is added, since it stands nowhere before.
use Rattle.std.proofs.Common.{◌≡◌, sym, ap, ◌∙◌, slice_get, Some}
use Rattle.x5_world.proofs.Adding.{one_more}
use Rattle.x5_world.proofs.naming.copied.Goals as goal

pub loop-place-preserved : goal.loop-place-preserved
loop-place-preserved c =
    let e : slice_get c.args.names.now c.loop-place.place ≡ Some c.in_ok-name.name =
    c.name.ensures ∙ ap Some (sym c.in_ok-name.ensures.cases) in
    one_more c.args.names.now c.loop-place.copy c.add.new.self c.loop-place.place c.in_ok-name.name c.requires e
    c.loop-place.invariant c.in_ok-add.ensures.names
