-- One row more is that of one member more.
use Rattle.x5_model.specs.Values.{key_of}
use Rattle.x5_ops.specs.declared.knowledge.Nssr.{Nssr}
use Rattle.x5_holdings.proofs.Numbered.{one_more}
use Rattle.x5_holdings.proofs.pins.entries_of_nssrs.Goals as goal

pub loop-nssr-preserved : goal.loop-nssr-preserved
loop-nssr-preserved c =
    one_more (λ (x : Nssr). key_of x.at) c.args.nssrs.now c.loop-nssr.nssr-index c.nssr-item.result
    c.loop-nssr.rows.items c.add.new.rows.items c.loop-nssr-test.true c.nssr-item.is c.loop-nssr.invariant
    c.in_ok-add.ensures
