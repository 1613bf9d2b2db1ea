-- Four components stay but for the second and third, and any other number is wrong.
use Rattle.std.proofs.Common.{ap, sym, ◌∙◌, refl, arith}
use Rattle.x5_model_typed.specs.Rules as rules
use Rattle.x5_types.specs.declared.node.Node.{Node}
use Rattle.x5_types.specs.NodeView.{node_view}
use Rattle.x5_rules.proofs.Controls.{controls_are, no_controls}
use Rattle.x5_rules.proofs.rule.controls.Goals as goal

pub returns-then-len-ne4 : goal.returns-then-len-ne4
returns-then-len-ne4 c = no_controls c.in-Many.parts (λ e. c.if-len-ne4.true (omega (arith, c.len.ensures, e)))
    ∙ sym (ap (λ (n : Node). rules.controls_rule (node_view n)) c.in-Many.is)

pub returns : goal.returns
returns c = controls_are c.in-Many.parts _ refl (omega (arith, c.len.ensures, c.if-len-ne4.false))
    ∙ sym (ap (λ (n : Node). rules.controls_rule (node_view n)) c.in-Many.is)
