-- The attributes of an entry (X.501, section 8): values are distinct by equality. That they stand in the order of their
-- normal forms, and attributes in the order of their types, is this project's own.
use Rattle.std.specs.Prelude.{ℕ, Bool, not, ◌&&◌, ◌==◌, nat_lt, if◌then◌else◌, List, [], ◌∷◌, map, length}
use Rattle.std.specs.List.{list_any, list_all, filter, filter_map, find}
use Rattle.std.specs.declared.option.Option.{Option}
use Rattle.std.specs.declared.option.Option.TheVariants.{None, Some}
use Rattle.std.specs.Option.{is_some}
use Rattle.x5_model.specs.Words.{is_empty, first_of, ascending, insert_sorted, sorted, in_option, same_octets}
use Rattle.x5_model.specs.Words.{octets_below}
use Rattle.x5_model.specs.Values.{TypeRef, Known, Unknown, TextValue, StoredValue, Offered, Pair, Rdn}
use Rattle.x5_model.specs.Types.{is_single}
use Rattle.x5_model.specs.Entries.{Stored, Entry}
use Rattle.x5_model.specs.Requests.{Attribute}

-- equality of values is equality of their normal forms (X.501, section 8: matching rules), and so is their order
abbrev pub value_below : StoredValue → StoredValue → Bool
value_below a b = octets_below a.normal b.normal

abbrev pub kind_below : Stored → Stored → Bool
kind_below a b = nat_lt a.kind b.kind

-- every entry that is kept is so
abbrev pub is_ordered : Entry → Bool
is_ordered e =
    ascending kind_below e.attributes && list_all (λ a. not (is_empty a.values)
    && ascending value_below a.values) e.attributes

abbrev pub attribute_at : Entry → ℕ → Option Stored
attribute_at e kind = find (λ a. a.kind == kind) e.attributes

-- the values of a type, none where the entry lacks it
abbrev pub values_at : Entry → ℕ → List StoredValue
values_at e kind = in_option [] (λ a. a.values) (attribute_at e kind)

abbrev pub is_present : Entry → ℕ → Bool
is_present e kind = is_some (attribute_at e kind)

abbrev pub has_normal : List ℕ → List StoredValue → Bool
has_normal normal values = list_any (λ v. same_octets v.normal normal) values

abbrev pub has_value : Entry → ℕ → List ℕ → Bool
has_value e kind normal = has_normal normal (values_at e kind)

-- the entry with these values of the type in place of those that it had; without values there is no attribute
abbrev pub entry_with : ℕ → List StoredValue → Entry → Entry
entry_with kind values e = with_values (filter (λ a. not (a.kind == kind)) e.attributes)
  where
    with_values : List Stored → Entry
    with_values others =
        record {
          attributes = if is_empty values then others
              else insert_sorted kind_below (record { kind = kind; values = values }) others;
        }

-- one value more, and one value less
abbrev pub put_value : ℕ → StoredValue → Entry → Entry
put_value kind v e = entry_with kind (insert_sorted value_below v (values_at e kind)) e

abbrev pub drop_value : ℕ → List ℕ → Entry → Entry
drop_value kind normal e = entry_with kind (filter (λ v. not (same_octets v.normal normal)) (values_at e kind)) e

-- a value of an RDN, as an entry keeps it: the text as the RDN spells it
abbrev pub value_of_pair : Pair → StoredValue
value_of_pair p = record { value = TextValue p.text; normal = p.normal }

abbrev pub has_pair : Entry → Pair → Bool
has_pair e p = has_value e p.kind p.normal

-- the entry has the values of its RDN (X.501, section 9.3)
abbrev pub has_rdn : Entry → Rdn → Bool
has_rdn e rdn = list_all (has_pair e) rdn

-- with the values of the RDN that it lacks
abbrev pub with_rdn : Rdn → Entry → Entry
with_rdn [] e = e
with_rdn (p ∷ ps) e = with_rdn ps (if has_pair e p then e else put_value p.kind (value_of_pair p) e)

-- without the values of an RDN that aren't in another
abbrev pub without_rdn : Rdn → Rdn → Entry → Entry
without_rdn [] kept e = e
without_rdn (p ∷ ps) kept e =
    without_rdn ps kept (if list_any (λ q. (q.kind == p.kind) && same_octets q.normal p.normal) kept then e
    else drop_value p.kind p.normal e)

-- the lowest single-valued type that has more than one value
abbrev pub doubled : Entry → Option ℕ
doubled e = first_of (map (λ a. a.kind) (filter (λ a. is_single a.kind && nat_lt 1 (length a.values)) e.attributes))

-- offered values as an entry keeps them; those that aren't of the kind have been refused before
abbrev pub stored_value : Offered → Option StoredValue
stored_value o = in_option None (λ n. Some (record { value = o.value; normal = n })) o.normal

abbrev pub stored_values : List Offered → List StoredValue
stored_values values = sorted value_below (filter_map stored_value values)

-- the entry of offered attributes; types that aren't known have been refused before
abbrev pub with_offered : TypeRef → List Offered → Entry → Entry
with_offered (Known kind) values e = entry_with kind (stored_values values) e
with_offered (Unknown arcs) values e = e

abbrev pub entry_of : List Attribute → Entry
entry_of [] = record { attributes = [] }
entry_of (a ∷ more) = with_offered a.kind a.values (entry_of more)

-- what an addEntry stores (X.511, section 11.1): the offered attributes and the RDN's values that they lack
abbrev pub added_entry : Rdn → List Attribute → Entry
added_entry rdn attributes = with_rdn rdn (entry_of attributes)
