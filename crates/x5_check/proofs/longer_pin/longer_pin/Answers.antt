-- What is told first of the first member of which something is told.
use Rattle.std.proofs.Common.{sym, ◌∙◌}
use Rattle.std.specs.List.{flat_map}
use Rattle.x5_model_tree.specs.Masters.{Mastered, mastered}
use Rattle.x5_model_tree.specs.Consistent.{longer_pin}
use Rattle.x5_check.specs.Views.{breach_view}
use Rattle.x5_check.proofs.Steps.{stop}
use Rattle.x5_check.proofs.longer_pin.longer_pin.Goals as goal

pub returns-then-is_some : goal.returns-then-is_some
returns-then-is_some c =
    stop breach_view (λ (m : Mastered). flat_map (λ e. flat_map (longer_pin m e) (mastered c.args.known.now)) m.context.entries) c.held-held.result.now c.loop-context.context-index _ c.loop-context.invariant c.in_ok-told.told c.context-item.result c.loop-context-test.true c.context-item.is c.in_ok-told.ensures (sym c.is_some.ensures ∙ c.if-is_some.true)
