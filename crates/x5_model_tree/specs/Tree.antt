-- The one tree (X.501, section 7: the directory information tree): entries with their names, in the order of their
-- keys, and the pins, which are the prefixes of naming contexts.
use Rattle.std.specs.Prelude.{ℕ, zero, suc, Bool, true, false, not, ◌&&◌, ◌||◌, nat_lt, if◌then◌else◌, IsTrue, List, []}
use Rattle.std.specs.Prelude.{◌∷◌, length, map, take}
use Rattle.std.specs.List.{find, filter, list_all, list_any}
use Rattle.std.specs.declared.option.Option.{Option}
use Rattle.std.specs.declared.option.Option.TheVariants.{None, Some}
use Rattle.x5_model.specs.Words.{ascending, sorted, some_and, in_option}
use Rattle.x5_model.specs.Keys.{Key, same_key, is_prefix, is_below, is_root, parent, key_below}
use Rattle.x5_model.specs.Values.{Name, key_of}
use Rattle.x5_model.specs.Entries.{Named}
use Rattle.x5_model.specs.Attributes.{is_ordered}

abbrev pub key_at : Named → Key
key_at e = key_of e.name

abbrev pub keys_of : List Named → List Key
keys_of entries = map key_at entries

abbrev pub named_below : Named → Named → Bool
named_below a b = key_below (key_at a) (key_at b)

-- entries in the order of their keys
abbrev pub sorted_entries : List Named → List Named
sorted_entries entries = sorted named_below entries

pub record Tree : Type 0 where
  pub entries : List Named
  pub pins : List Key

-- the tree of these entries, given in any order
abbrev pub tree_of : List Named → List Key → Tree
tree_of entries pins = record { entries = sorted_entries entries; pins = pins }

abbrev pub entry_at : List Named → Key → Option Named
entry_at entries key = find (λ e. same_key (key_at e) key) entries

abbrev pub is_there : List Named → Key → Bool
is_there entries key = list_any (λ e. same_key (key_at e) key) entries

-- there, or the root, which is no entry and needs none above it
abbrev pub is_there_or_root : List Named → Key → Bool
is_there_or_root entries key = is_root key || is_there entries key

abbrev pub has_below : List Named → Key → Bool
has_below entries key = list_any (λ e. is_below key (key_at e)) entries

-- every tree is so: the keys ascend, so no key comes twice; what stands above an entry is there; pins are entries
pub record IsTree (t : Tree) : Type 0 where
  pub in_order : IsTrue (ascending named_below t.entries)
  pub above : IsTrue (list_all (λ e. not (is_root (key_at e))
      && is_there_or_root t.entries (parent (key_at e))) t.entries)
  pub pins_there : IsTrue (list_all (is_there t.entries) t.pins)
  pub ordered : IsTrue (list_all (λ e. is_ordered e.entry) t.entries)

-- the longest of the first n beginnings of the key, the root aside, at which an entry is
abbrev pub or_shorter : Option Named → Option Named → Option Named
or_shorter None shorter = shorter
or_shorter (Some e) shorter = Some e

abbrev pub lowest_within : List Named → Key → ℕ → Option Named
lowest_within entries key zero = None
lowest_within entries key (suc n) = or_shorter (entry_at entries (take (suc n) key)) (lowest_within entries key n)

-- the lowest entry on the way to a name: its longest prefix that is an entry
abbrev pub lowest : List Named → Key → Option Named
lowest entries key = lowest_within entries key (length key)

-- its name as it is spelled there, else the root (X.511, section 12.5: matched)
abbrev pub matched : List Named → Key → Name
matched entries key = in_option [] (λ e. e.name) (lowest entries key)

-- the longest of the keys that is a prefix
abbrev pub or_longer : Key → Bool → Option Key → Option Key
or_longer p false rest = rest
or_longer p true None = Some p
or_longer p true (Some q) = if nat_lt (length p) (length q) then Some q else Some p

abbrev pub longest : List Key → Key → Option Key
longest [] key = None
longest (p ∷ ps) key = or_longer p (is_prefix p key) (longest ps key)

-- the key belongs to the naming context of this pin: no longer pin is its prefix (X.501: naming contexts)
abbrev pub belongs : List Key → Key → Key → Bool
belongs pins pin key = some_and (same_key pin) (longest pins key)

-- the part of the tree that is the naming context of a pin
abbrev pub part : Tree → Key → List Named
part t pin = filter (λ e. belongs t.pins pin (key_at e)) t.entries
