-- One part more may follow, or may not.
use Rattle.std.proofs.Common.{◌≡◌, ◌+◌, ◌-◌, ◌&&◌, ℕ, Bool, drop, map, length-drop, ap, sym, ◌∙◌, arith}
use Rattle.x5_model_typed.specs.Rules as rules
use Rattle.x5_types.specs.NodeView.{node_view}
use Rattle.x5_rules.proofs.InOrder.{line_step, short_line}
use Rattle.x5_rules.proofs.pieces.in_line.Goals as goal

pub returns-then-not-may_follow : goal.returns-then-not-may_follow
returns-then-not-may_follow c =
    let parts = c.args.parts.now in
    let step = line_step node_view parts (c.loop-i.i - 1) c.loop-i.i c.index-parts-i.result
    c.index-parts-i-in-loop-i.result (omega (arith, c.loop-i.auto.i)) c.loop-i-test.true c.index-parts-i.is
    c.index-parts-i-in-loop-i.is in
    ap (λ (b : Bool). b && rules.in_line (map node_view (drop c.loop-i.i parts)))
    (sym c.if-not-may_follow.true ∙ c.may_follow.ensures) ∙ sym step ∙ c.loop-i.invariant

pub loop-i-preserved : goal.loop-i-preserved
loop-i-preserved c =
    let parts = c.args.parts.now in
    let step = line_step node_view parts (c.loop-i.i - 1) c.loop-i.i c.index-parts-i.result
    c.index-parts-i-in-loop-i.result (omega (arith, c.loop-i.auto.i)) c.loop-i-test.true c.index-parts-i.is
    c.index-parts-i-in-loop-i.is in
    let here : c.loop-i.i + 1 - 1 ≡ c.loop-i.i = omega arith in
    ap (λ (k : ℕ). rules.in_line (map node_view (drop k parts))) here
    ∙ ap (λ (b : Bool). b && rules.in_line (map node_view (drop c.loop-i.i parts)))
    (sym c.if-not-may_follow.false ∙ c.may_follow.ensures) ∙ sym step ∙ c.loop-i.invariant

pub returns : goal.returns
returns c = sym (short_line node_view (drop (c.loop-i.i - 1) c.args.parts.now)
    (omega (arith, length-drop (c.loop-i.i - 1) c.args.parts.now, c.loop-i-test.false))) ∙ c.loop-i.invariant
