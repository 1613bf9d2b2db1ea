-- The rows of all members.
use Rattle.x5_model_tree.specs.Masters.{Mastered}
use Rattle.x5_check.specs.Numbers.{keyed, above_key}
use Rattle.x5_check.proofs.Steps.{grown}
use Rattle.x5_check.proofs.Tables.{tabled, parents_by_master}
use Rattle.x5_check.proofs.known.parents_by_master.Goals as goal

pub returns : goal.returns
returns c =
    tabled _ _ _ _ c.sorted.ensures (grown (λ (m : Mastered). keyed (m.master) (above_key m)) c.args.held.now c.loop-context.context-index c.loop-context.rows.items _ c.loop-context-test.false c.loop-context.invariant) (parents_by_master c.args.held.now)
