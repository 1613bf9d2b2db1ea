-- What is told first of the first member of which something is told.
use Rattle.std.proofs.Common.{sym, ◌∙◌}
use Rattle.std.specs.List.{flat_map}
use Rattle.x5_model.specs.Entries.{Named}
use Rattle.x5_model_tree.specs.Masters.{mastered}
use Rattle.x5_model_tree.specs.Consistent.{longer_pin}
use Rattle.x5_check.specs.Views.{breach_view}
use Rattle.x5_check.proofs.Steps.{stop}
use Rattle.x5_check.proofs.longer_pin.longer_pins_of.Goals as goal

pub returns-then-is_some : goal.returns-then-is_some
returns-then-is_some c =
    stop breach_view (λ (e : Named). flat_map (longer_pin c.args.context.now e) (mastered c.args.known.now)) c.entries-entries.result.now c.loop-entry.entry-index _ c.loop-entry.invariant c.in_ok-told.told c.entry-item.result c.loop-entry-test.true c.entry-item.is c.in_ok-told.ensures (sym c.is_some.ensures ∙ c.if-is_some.true)
