-- What agents hold can be sent by refreshes (X.525, sections 9 to 11): an entry within the limits of messages whose
-- types and values are in order and whose values are of their types' kinds, with their normal forms; and so a change.
use Rattle.std.specs.Prelude.{◌≡◌, true}
use Rattle.std.specs.List.{list_all}
use Rattle.x5_model.specs.Attributes.{is_ordered}
use Rattle.x5_model.specs.Entries.{Named}
use Rattle.x5_model_tree.specs.Described.{is_stored_attribute}
use Rattle.x5_model_limits.specs.Holding.{BoundedEntry}
use Rattle.x5_model_refreshed.specs.Steps as refreshed
use Rattle.x5_model_fitting.specs.Names.{NameWithin}
use Rattle.x5_model_messages.specs.Shadows as shadows
use Rattle.x5_model_shadowed.specs.Within.{EntryWithin, StepWithin}

-- An entry that can be sent: within the limits, in order, of values that are their types'.
pub record SendableEntry (e : Named) : Type 0 where
  pub bounded : BoundedEntry e
  pub kinds : list_all is_stored_attribute e.entry.attributes ≡ true
  pub ordered : is_ordered e.entry ≡ true

abbrev pub SendableStep : refreshed.Step → Type 0
SendableStep (refreshed.Add e) = SendableEntry e
SendableStep (refreshed.Remove name) = NameWithin name
SendableStep (refreshed.Modify e) = SendableEntry e
SendableStep (refreshed.Rename name e) = NameWithin name × SendableEntry e

-- a change as messages carry it
abbrev pub carried_step : refreshed.Step → shadows.Step
carried_step (refreshed.Add e) = shadows.Add e
carried_step (refreshed.Remove name) = shadows.Remove name
carried_step (refreshed.Modify e) = shadows.Modify e
carried_step (refreshed.Rename name e) = shadows.Rename name e

-- Then they are within the limits of messages of shadowing.
abbrev pub EntryIsWithin : Type 0
EntryIsWithin = (e : Named) → SendableEntry e → EntryWithin e

abbrev pub StepIsWithin : Type 0
StepIsWithin = (s : refreshed.Step) → SendableStep s → StepWithin (carried_step s)
