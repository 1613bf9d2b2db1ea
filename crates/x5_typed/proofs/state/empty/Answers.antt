-- One empty slot more.
use Rattle.std.proofs.Common.{◌+◌, [], drop, slice_index_or, refl}
use Rattle.std.proofs.lemmas.List.{drop_more}
use Rattle.std.specs.declared.option.Option.TheVariants.{None}
use Rattle.x5_types.specs.declared.form.Component.{Component}
use Rattle.x5_types.specs.declared.form.Named.TheVariants.{DapRequest}
use Rattle.x5_types.specs.declared.form.Presence.TheVariants.{Required}
use Rattle.x5_typed.proofs.Lists.{put_next}
use Rattle.x5_typed.proofs.state.empty.Goals as goal
use Rattle.x5_types.specs.NodeView.{option_view}
use Rattle.x5_typed.specs.StateView.{no_node}

abbrev any : Component
any = record { tag = None; form = DapRequest; presence = Required }

pub loop-component-preserved : goal.loop-component-preserved
loop-component-preserved c =
    let cs = c.args.components.now in
    let i = c.loop-component._component-index in
    put_next option_view no_node c.push.new.self.items c.loop-component.slots.items [] None cs (drop (i + 1) cs) i
    (slice_index_or cs i any)
    c.in_ok-push.ensures.items refl (drop_more cs i any c.loop-component-test.true) c.loop-component.invariant
