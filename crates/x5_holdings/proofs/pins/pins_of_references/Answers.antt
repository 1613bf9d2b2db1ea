-- One row more is that of one member more.
use Rattle.x5_model.specs.Values.{key_of}
use Rattle.x5_ops.specs.declared.knowledge.Specific.{Specific}
use Rattle.x5_holdings.proofs.Numbered.{one_more}
use Rattle.x5_holdings.proofs.pins.pins_of_references.Goals as goal

pub loop-reference-preserved : goal.loop-reference-preserved
loop-reference-preserved c =
    one_more (λ (x : Specific). key_of x.pin) c.args.references.now c.loop-reference.reference-index
    c.reference-item.result c.loop-reference.rows.items c.add.new.rows.items c.loop-reference-test.true
    c.reference-item.is c.loop-reference.invariant
    c.in_ok-add.ensures
