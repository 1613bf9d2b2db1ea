-- The changes that agents keep of their contexts and send by refreshes, within the limits of messages (X.525, sections
-- 9 and 11: incremental refreshes).
use Rattle.std.specs.Prelude.{◌≡◌, List}
use Rattle.std.specs.declared.option.Option.TheVariants.{None, Some}
use Rattle.x5_model.specs.Entries.{Named}
use Rattle.x5_model.specs.Requests.{Request}
use Rattle.x5_model.specs.Statics.{fault_of}
use Rattle.x5_model_refreshed.specs.Steps.{Step, Add, Remove, Modify, Rename, replayed, replay, step_of}
use Rattle.x5_model_fitting.specs.Names.{Each, NameWithin}
use Rattle.x5_model_fitting.specs.Requests.{RequestWithin}
use Rattle.x5_model_limits.specs.Holding.{BoundedEntry}

abbrev pub BoundedStep : Step → Type 0
BoundedStep (Add e) = BoundedEntry e
BoundedStep (Remove name) = NameWithin name
BoundedStep (Modify e) = BoundedEntry e
BoundedStep (Rename name new) = NameWithin name × BoundedEntry new

-- 10. What is noted of an update that is within the limits is within them,
abbrev pub NotedBounded : Type 0
NotedBounded =
    (entries : List Named) (r : Request) (s : Step) → Each BoundedEntry entries → RequestWithin r
    → fault_of r.body ≡ None → step_of entries r.body ≡ Some s → BoundedStep s

-- and so are the entries that steps within them make.
abbrev pub ReplayBounded : Type 0
ReplayBounded =
    (steps : List Step) (entries : List Named) → Each BoundedStep steps → Each BoundedEntry entries
    → Each BoundedEntry (replay steps entries)
