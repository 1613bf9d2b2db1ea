-- One row more is that of one member more.
use Rattle.std.proofs.Common.{◌≡◌, ◌++◌, ◌∷◌, [], length, subst}
use Rattle.x5_model.specs.Values.{Name, key_of}
use Rattle.x5_holdings.specs.State.{CopyKept}
use Rattle.x5_holdings.proofs.Numbered.{one_more}
use Rattle.x5_holdings.proofs.tables.prefixes_of_copies.Goals as goal

pub loop-copy-preserved : goal.loop-copy-preserved
loop-copy-preserved c =
    one_more (λ (x : CopyKept). key_of x.prefix) c.args.copies.now c.loop-copy.copy-index c.copy-item.result
    c.loop-copy.rows.items c.add.new.rows.items c.loop-copy-test.true c.copy-item.is c.loop-copy.invariant
    (subst (λ (n : Name). c.add.new.rows.items ≡ c.loop-copy.rows.items ++ (key_of n, length c.loop-copy.rows.items) ∷
    []) c.prefix.ensures.prefix c.in_ok-add.ensures)
