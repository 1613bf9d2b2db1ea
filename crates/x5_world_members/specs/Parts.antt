-- For private clauses: the last steps of a part of the definition of what a world file describes.
use Rattle.std.specs.Prelude.{ℕ, List, [], ◌∷◌, ◌++◌, Ok, codes}
use Rattle.serde_json.specs.Data.{Data, Members}
use Rattle.x5_model.specs.Entries.{Entry, Named}
use Rattle.x5_model.specs.Values.{Text, Rdn, Name, last_rdn}
use Rattle.x5_model_world.specs.ContextText.{Contexts, Nssrs, whole_name, nssrs_behind, nssr_members, counted, agents_behind}
use Rattle.x5_model_world.specs.ContextText.{context_members, with_context, with_entries, entries_behind}
use Rattle.x5_model_world.specs.EntryTexts.{given_behind, entry_given}
use Rattle.x5_model_world.specs.Reading.{Read, ◌>>=◌, at, needed, list_at, list_if_any, some_at, only}

-- the whole name of an entry that has this name in the file, behind these
abbrev pub whole_name_at : Text → Name → List Named → Name → Read Name
whole_name_at path prefix before own = needed (at path (codes "name")) (whole_name prefix before own)

-- the entry of the RDN that an object describes
abbrev pub entry_at : Text → Rdn → Data → Read Entry
entry_at path rdn d = do
  texts ← list_at path (codes "attrs") d
  given ← given_behind (at path (codes "attrs")) 0 [] texts
  needed path (entry_given rdn given)

-- both
abbrev pub named_at : Text → Name → List Named → Name → Data → Read Named
named_at path prefix before own d = do
  name ← whole_name_at path prefix before own
  entry ← entry_at path (last_rdn own) d
  Ok (record { name = name; entry = entry })

-- non-specific references with one more, which stands at the name, where so many agents are listed with its own
abbrev pub with_nssr : Nssrs → Name → List ℕ → ℕ → Nssrs
with_nssr before name agents listed =
    record { nssrs = before.nssrs ++ record { at = name; agents = agents } ∷ []; listed = listed }

-- the same, behind its name
abbrev pub with_agents : List Text → Text → Nssrs → Name → Members → Data → Read Nssrs
with_agents names path before name members d = do
  texts ← some_at path (codes "agents") d
  listed ← counted path before.listed texts
  agents ← agents_behind names (at path (codes "agents")) 0 [] texts
  only path nssr_members members
      (record { nssrs = before.nssrs ++ record { at = name; agents = agents } ∷ []; listed = listed })

-- what stands behind the entries of a context: its non-specific references
abbrev pub nssrs_at : List Text → Text → ℕ → List Named → Data → Read Nssrs
nssrs_at names path listed entries d =
    list_if_any path (codes "nssr") d
    >>= nssrs_behind names (at path (codes "nssr")) 0 entries (record { nssrs = []; listed = listed })

-- a context of this prefix, behind its entries
abbrev pub with_entries_read : List Text → Text → Contexts → Name → List Named → ℕ → Members → Data → Read Contexts
with_entries_read names path before prefix entries used members d = do
  list ← list_if_any path (codes "nssr") d
  found ← nssrs_behind names (at path (codes "nssr")) 0 entries
      (record { nssrs = []; listed = before.counts.nssr_agents }) list
  only path context_members members (with_context before prefix entries found used)

-- the same, behind its prefix
abbrev pub with_prefix_read : List Text → Text → Contexts → Name → Members → Data → Read Contexts
with_prefix_read names path before prefix members d = do
  items ← some_at path (codes "entries") d
  used ← with_entries path before.counts.entries items
  entries ← entries_behind (at path (codes "entries")) 0 prefix [] items
  with_entries_read names path before prefix entries used members d
