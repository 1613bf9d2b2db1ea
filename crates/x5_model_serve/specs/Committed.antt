-- What an agent holds once it accepted an update (X.511, section 11): its context that holds the target is changed,
-- and no other. Where contexts overlap an entry counts in the context of its longest known pin alone; the rule for
-- that is the project's own.
use Rattle.std.specs.Prelude.{not, if◌then◌else◌, Bool, ◌++◌, map}
use Rattle.std.specs.List.{filter}
use Rattle.std.specs.declared.result.Result.TheVariants.{Ok, Err}
use Rattle.x5_model.specs.Values.{key_of}
use Rattle.x5_model.specs.Entries.{Named}
use Rattle.x5_model.specs.Requests.{Request}
use Rattle.x5_model_tree.specs.Tree.{key_at, belongs, sorted_entries}
use Rattle.x5_model_tree.specs.Apply.{Ground, UpdatedEntries, apply_over}
use Rattle.x5_model_run.specs.Holdings.{Held, Holdings, known_pins, ground_at}
use Rattle.x5_model_run.specs.Needs.{target_of}

-- the entry counts in the context: that of its longest known pin
abbrev pub is_counted : Request → Holdings → Held → Named → Bool
is_counted r h c e = belongs (map key_of (known_pins r h)) (key_of c.prefix) (key_at e)

-- the context holds the update's target
abbrev pub holds_target : Request → Holdings → Held → Bool
holds_target r h c = belongs (map key_of (known_pins r h)) (key_of c.prefix) (key_of (target_of r.body))

-- what it judges by, with the entries of that context alone
abbrev pub alone_at : Request → Holdings → Held → Ground
alone_at r h c = record (ground_at r h) { entries = filter (is_counted r h c) c.entries }

-- the context with the change; entries that don't count in it stay as they are
abbrev pub with_outcome : Request → Holdings → Held → UpdatedEntries → Held
with_outcome r h c (Ok es) =
    record c { entries = sorted_entries (es ++ filter (λ e. not (is_counted r h c e)) c.entries) }
with_outcome r h c (Err x) = c

abbrev pub changed_at : Request → Holdings → Held → Held
changed_at r h c = if holds_target r h c then with_outcome r h c (apply_over (alone_at r h c) r.body) else c

-- what is refused changes nothing
abbrev pub committed_if : Request → Holdings → UpdatedEntries → Holdings
committed_if r h (Ok es) = record h { own = map (changed_at r h) h.own }
committed_if r h (Err x) = h

abbrev pub committed : Request → Holdings → Holdings
committed r h = committed_if r h (apply_over (ground_at r h) r.body)
