-- What an agent holds and knows, as the definitions see it (X.501, sections 22 and 23: DSA information tree).
use Rattle.std.specs.Prelude.{ℕ, Bool, not, ◌&&◌, nat_le, if◌then◌else◌, List, [], ◌∷◌, ◌++◌, length, map}
use Rattle.std.specs.List.{list_any, filter, find, flat_map}
use Rattle.std.specs.Option.{is_some, is_none}
use Rattle.std.specs.declared.option.Option.{Option}
use Rattle.x5_model.specs.Keys.{Key, same_key, is_prefix}
use Rattle.x5_model.specs.Values.{Name, key_of}
use Rattle.x5_model.specs.Entries.{Named}
use Rattle.x5_model.specs.Requests.{Request}
use Rattle.x5_model_tree.specs.World.{Access, Specific, Nssr, Context}
use Rattle.x5_model_tree.specs.Tree.{longest}
use Rattle.x5_model_tree.specs.Ask.{is_update}
use Rattle.x5_model_tree.specs.Apply.{Ground, own_ground}

-- a naming context that an agent masters or has a copy of, and the knowledge that goes with it
pub record Held : Type 0 where
  pub prefix : Name
  pub entries : List Named
  pub subordinate : List Specific
  pub nssrs : List Nssr

-- a copy: its stamp, none where it was never refreshed, and the agent that supplies it
pub record Copy : Type 0 where
  pub held : Held
  pub stamp : Option ℕ
  pub supplier : ℕ

-- the references of `root` are those of one RDN at a first-level agent
pub record Holdings : Type 0 where
  pub me : ℕ
  pub superior : Option ℕ
  pub own : List Held
  pub copies : List Copy
  pub root : List Specific
  pub cross : List Specific

-- dontUseCopy isn't set, and it's no update (X.511, section 7.5: service controls)
abbrev pub may_copy : Request → Bool
may_copy r = not r.controls.nocopy && not (is_update r.body)

-- without copies only the master of an access is usable
abbrev pub usable_agents : Request → Access → List ℕ
usable_agents r a = if may_copy r then a.master ∷ a.shadows else a.master ∷ []

-- the context with this prefix is among those; of two, the first counts
abbrev pub held_at : List Held → Key → Option Held
held_at contexts p = find (λ c. same_key (key_of c.prefix) p) contexts

abbrev pub masters_pin : Holdings → Key → Bool
masters_pin h p = is_some (held_at h.own p)

abbrev pub copy_at : Holdings → Key → Option Copy
copy_at h p = find (λ c. same_key (key_of c.held.prefix) p) h.copies

-- the contexts that it masters, or has a copy of, refreshed or not
abbrev pub prefixes : Holdings → List Name
prefixes h = map (λ c. c.prefix) h.own ++ map (λ c. c.held.prefix) h.copies

-- the copies that a request may use: refreshed ones
abbrev pub usable_copies : Request → Holdings → List Held
usable_copies r h = if may_copy r then map (λ c. c.held) (filter (λ c. is_some c.stamp) h.copies) else []

-- the contexts that a request can be answered from; where an agent masters a context, a copy of it counts for nothing
abbrev pub served : Request → Holdings → List Held
served r h = h.own ++ filter (λ c. not (masters_pin h (key_of c.prefix))) (usable_copies r h)

-- subordinate references, those of mastered contexts first, then those of copies, then those of the root
abbrev pub subordinates : Request → Holdings → List Specific
subordinates r h = flat_map (λ c. c.subordinate) h.own ++ flat_map (λ c. c.subordinate) (usable_copies r h) ++ h.root

-- what an agent knows of where pins are: contexts that it holds, subordinate references and cross references
abbrev pub known_pins : Request → Holdings → List Name
known_pins r h = prefixes h ++ map (λ k. k.pin) (subordinates r h) ++ map (λ k. k.pin) h.cross

-- the longest known pin on the way to a name
abbrev pub known_pin : Request → Holdings → Key → Option Key
known_pin r h n = longest (map key_of (known_pins r h)) n

-- it holds a context on the way to the name with at least k RDNs
abbrev pub holds_within : Holdings → Key → ℕ → Bool
holds_within h n k = list_any (λ p. is_prefix (key_of p) n && nat_le k (length p)) (prefixes h)

-- an agent without a superior is first-level
abbrev pub is_first_level : Holdings → Bool
is_first_level h = is_none h.superior

-- What an agent judges an update by: the contexts that it masters and all pins that it knows.
abbrev pub as_context : Held → Context
as_context c = record { prefix = c.prefix; entries = c.entries; nssrs = c.nssrs }

abbrev pub ground_at : Request → Holdings → Ground
ground_at r h = own_ground (map key_of (known_pins r h)) (map as_context h.own)
