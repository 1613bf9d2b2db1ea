-- What is read is what was written.
use Rattle.std.proofs.Common.{ℕ, List, sym, subst}
use Rattle.x5_dispber.specs.ShadowViews.{told_shadow}
use Rattle.x5_model_messages.specs.Shadows.{shadow_node}
use Rattle.x5_model_typed.specs.Named.{DispMessage}
use Rattle.x5_model_typed.specs.Typed.{Spells}
use Rattle.x5_types.specs.FormView.{world_table}
use Rattle.x5_shadow_wire.proofs.shadows.carried_shadow.Goals as goal

pub read-requires : goal.read-requires
read-requires c =
    let m = told_shadow c.args.names.now c.args.message.now in
    let table = world_table c.args.start.now c.args.names.now in
    record {
      spelled = (
        1,
        m,
        c.requires,
        subst (λ (os : List ℕ). Spells table DispMessage os (shadow_node 1 m)) (sym c.as_slice.ensures)
            c.in_ok-octets.ensures,
      );
    }

pub returns : goal.returns
returns c =
    let m = told_shadow c.args.names.now c.args.message.now in
    let table = world_table c.args.start.now c.args.names.now in
    c.read.ensures.read 1 m c.requires
    (subst (λ (os : List ℕ). Spells table DispMessage os (shadow_node 1 m)) (sym c.as_slice.ensures)
    c.in_ok-octets.ensures)
