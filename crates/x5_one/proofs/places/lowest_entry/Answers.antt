-- Where no entry is at the beginning of the key, a shorter one is looked at.
use Rattle.std.proofs.Common.{◌≡◌, None, arith, sym, ap, ◌∙◌, take}
use Rattle.x5_model_tree.specs.Tree.{entry_at}
use Rattle.x5_one.proofs.Lowest.{pass_over, copied_none}
use Rattle.x5_one.proofs.places.lowest_entry.Goals as goal

pub loop-left-preserved-else-is_some : goal.loop-left-preserved-else-is_some
loop-left-preserved-else-is_some c =
    let none : entry_at c.args.entries.now (take c.loop-left.left c.args.key.now)
    ≡ None = ap (entry_at c.args.entries.now) (sym c.in_ok-front.ensures)
    ∙ copied_none c.entry_of-found.result _ c.entry_of-found.ensures (sym c.is_some.ensures
    ∙ c.if-is_some.false) in (
      omega (arith, c.loop-left.invariant),
      pass_over c.args.entries.now c.args.key.now c.loop-left.left
          c.loop-left-test.true none ∙ c.loop-left.invariant.1,
    )
