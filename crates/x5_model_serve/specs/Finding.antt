-- Where the resolution of a name ends at an agent (X.518, section 18: Find DSE). A function of what it holds and of the
-- message; static refusals, loops and long traces come before.
use Rattle.std.specs.Prelude.{◌≡◌, true, if◌then◌else◌, List, [], ◌∷◌}
use Rattle.std.specs.declared.option.Option.{Option}
use Rattle.std.specs.declared.option.Option.TheVariants.{None, Some}
use Rattle.x5_model.specs.Keys.{Key, is_root}
use Rattle.x5_model.specs.Values.{Name, key_of}
use Rattle.x5_model.specs.Entries.{Named}
use Rattle.x5_model.specs.References.{Progress, Start, Next, Done, Reference, Chained}
use Rattle.x5_model.specs.Statics.{fault_of}
use Rattle.x5_model_tree.specs.Tree.{lowest}
use Rattle.x5_model_run.specs.Journal.{same_name, is_wide}
use Rattle.x5_model_run.specs.Holdings.{Held, Copy, Holdings, held_at, copy_at, known_pin, holds_within}
use Rattle.x5_model_run.specs.Placed.{fits}
use Rattle.x5_model_run.specs.Needs.{superior_needs, multicast_needs, supplier_needs, copy_answers, specific_needs}
use Rattle.x5_model_run.specs.Needs.{copied_needs}

-- here: in a context that it masters; in a copy that answers; the root, at a first-level agent; or among the contexts
-- below an entry. Elsewhere: by this reference. Nowhere: with the lowest entry on the way. Or it can't go on from the
-- progress.
pub data Found : Type 0 where
  Here : Held → Found
  CopyHere : Copy → Found
  Root : Found
  Below : Found
  Onward : Reference → Found
  Nowhere : Name → Found
  Stuck : Found

abbrev pub by_first : List Reference → Found → Found
by_first [] other = other
by_first (r ∷ rs) other = Onward r

abbrev pub in_own : Holdings → Chained → Held → Found
in_own h m c = by (lowest c.entries (key_of m.target))
  where
    by : Option Named → Found
    by None = Nowhere []
    by (Some e) = if same_name e.name m.target then Here c else by_first (multicast_needs h m c) (Nowhere e.name)

abbrev pub in_copy : Holdings → Chained → Copy → Found
in_copy h m c = if copy_answers h m c then CopyHere c else by_first (supplier_needs h m c) Stuck

abbrev pub at_pin : Holdings → Chained → Option Key → Found
at_pin h m None = by_first (superior_needs h m) (if is_root (key_of m.target) then Root else Nowhere [])
at_pin h m (Some p) = by_own (held_at h.own p)
  where
    by_copy : Option Copy → Found
    by_copy None = by_first (specific_needs h m p) Stuck
    by_copy (Some c) = in_copy h m c

    by_own : Option Held → Found
    by_own None = by_copy (copy_at h p)
    by_own (Some c) = in_own h m c

abbrev pub resolved : Holdings → Chained → Found
resolved h m = at_pin h m (known_pin m.request h (key_of m.target))

-- what came by a reference to a pin: the context, a copy that may be used, or the supplier of one that may not
abbrev pub completed_copy : Holdings → Chained → Option Copy → Found
completed_copy h m None = Stuck
completed_copy h m (Some c) = by_first (copied_needs h m) (CopyHere c)

abbrev pub completed_own : Holdings → Chained → Option Held → Found
completed_own h m None = completed_copy h m (copy_at h (key_of m.target))
completed_own h m (Some c) = Here c

abbrev pub completed : Holdings → Chained → Found
completed h m = completed_own h m (held_at h.own (key_of m.target))

abbrev pub found_by : Holdings → Chained → Progress → Found
found_by h m Start = resolved h m
found_by h m (Next k) = if holds_within h (key_of m.target) k then resolved h m else Stuck
found_by h m Done = if is_wide m.kind then Below else completed h m

abbrev pub find : Holdings → Chained → Found
find h m = found_by h m m.progress

-- the message comes as far as name resolution: it isn't refused by the request alone, and it fits
abbrev pub IsLooked : Chained → Type 0
IsLooked m = (fault_of m.request.body ≡ None) × (fits m ≡ true)
