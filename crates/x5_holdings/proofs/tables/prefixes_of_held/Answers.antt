-- One row more is that of one member more.
use Rattle.std.proofs.Common.{◌≡◌, ◌++◌, ◌∷◌, [], length, subst}
use Rattle.x5_model.specs.Values.{Name, key_of}
use Rattle.x5_holdings.specs.State.{Kept}
use Rattle.x5_holdings.proofs.Numbered.{one_more}
use Rattle.x5_holdings.proofs.tables.prefixes_of_held.Goals as goal

pub loop-held-preserved : goal.loop-held-preserved
loop-held-preserved c =
    one_more (λ (x : Kept). key_of x.prefix) c.args.contexts.now c.loop-held.held-index c.held-item.result
    c.loop-held.rows.items c.add.new.rows.items c.loop-held-test.true c.held-item.is c.loop-held.invariant
    (subst (λ (n : Name). c.add.new.rows.items ≡ c.loop-held.rows.items ++ (key_of n, length c.loop-held.rows.items) ∷
    []) c.prefix.ensures.prefix c.in_ok-add.ensures)
