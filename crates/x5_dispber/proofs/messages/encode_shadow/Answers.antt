-- The octets that are written are those of the message, and they spell it.
use Rattle.std.proofs.Common.{◌≡◌, ℕ, ◌<◌, ◌^◌, List, length, sym, subst, arith}
use Rattle.std.specs.declared.option.Option.TheVariants.{Some}
use Rattle.x5_model_messages.specs.Shadows.{shadow_node}
use Rattle.x5_model_typed.specs.Named as named
use Rattle.x5_model_typed.specs.Nodes as nodes
use Rattle.x5_model_typed.specs.Typed.{Spells}
use Rattle.x5_model_typed.specs.Written.{canonical_octets}
use Rattle.x5_types.specs.FormView.{world, world_table}
use Rattle.x5_dispber.specs.ShadowViews.{told_shadow}
use Rattle.x5_dispber.proofs.Clock.{clock}
use Rattle.x5_dispber.proofs.ShadowSpelled.{shadow_spelled}
use Rattle.x5_dispber.proofs.messages.encode_shadow.Goals as goal

pub returns-clause-spelled : goal.returns-clause-spelled
returns-clause-spelled c = λ fit.
    let start = c.args.start.now in
    let names = c.args.names.now in
    let m = told_shadow names c.args.message.now in
    let n = shadow_node c.args.id m in
    let table = world_table start names in
    let items = c.in_ok-write_shadow.field-0.items in
    let short : length items < 2 ^ 64 = omega (arith, c.in_ok-write_shadow.field-0.ok.0, c.in_ok-write_shadow.field-0.small) in
    subst (λ (os : List ℕ). Spells table named.DispMessage os n) (sym c.new.ensures)
    (shadow_spelled (world start names) (clock start names c.reads_back.ensures) c.args.id m items fit
    c.in_ok-write_shadow.ensures short)
