-- One component more is filled, or isn't.
use Rattle.std.proofs.Common.{◌≡◌, ◌+◌, ◌&&◌, ◌||◌, true, false, drop, map, ap, sym, ◌∙◌}
use Rattle.x5_model_typed.specs.Judged as judged
use Rattle.x5_types.specs.FormView.{component_view}
use Rattle.x5_types.specs.NodeView.{option_view}
use Rattle.x5_typed.specs.StateView.{left_view}
use Rattle.x5_typed.proofs.SlotLaws.{one_filled}
use Rattle.x5_typed.proofs.state.are_filled.Goals as goal

pub returns-then-not-either : goal.returns-then-not-either
returns-then-not-either c =
    let step = one_filled c.is_taken-taken.result c.may_be_missing-missing.result c.loop-i.i
    (drop c.loop-i.i (left_view c.args.left.now)) (drop (c.loop-i.i + 1) (left_view c.args.left.now))
    (component_view c.component.result) (map option_view c.args.slots.now)
    c.component.ensures c.is_taken-taken.ensures c.may_be_missing-missing.ensures in
    let none : (c.is_taken-taken.result || c.may_be_missing-missing.result) ≡ false =
    cc (c.either.ensures, c.if-not-either.true) in
    sym (ap (λ b. b && judged.all_filled (drop (c.loop-i.i + 1) (left_view c.args.left.now))
    (drop (c.loop-i.i + 1) (map option_view c.args.slots.now))) none) ∙ sym step ∙ c.loop-i.invariant

pub loop-i-preserved : goal.loop-i-preserved
loop-i-preserved c =
    let step = one_filled c.is_taken-taken.result c.may_be_missing-missing.result c.loop-i.i
    (drop c.loop-i.i (left_view c.args.left.now)) (drop (c.loop-i.i + 1) (left_view c.args.left.now))
    (component_view c.component.result) (map option_view c.args.slots.now)
    c.component.ensures c.is_taken-taken.ensures c.may_be_missing-missing.ensures in
    let some : (c.is_taken-taken.result || c.may_be_missing-missing.result) ≡ true =
    cc (c.either.ensures, c.if-not-either.false) in
    sym (ap (λ b. b && judged.all_filled (drop (c.loop-i.i + 1) (left_view c.args.left.now))
    (drop (c.loop-i.i + 1) (map option_view c.args.slots.now))) some) ∙ sym step ∙ c.loop-i.invariant
