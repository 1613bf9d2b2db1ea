-- The attribute types that agents know: object identifiers 2.5.4 and a number, after X.520, X.501 and X.509. The choice
-- of types, their keywords and kinds, which of them may name and which have one value, is this project's own
-- (docs/FORMATS.md, attribute types).
use Rattle.std.specs.Prelude.{ℕ, Bool, true, false, not, ◌&&◌, ◌==◌, List, [], ◌∷◌}
use Rattle.std.specs.List.{find}
use Rattle.std.specs.declared.option.Option.{Option}
use Rattle.std.specs.declared.option.Option.TheVariants.{None, Some}
use lib.Chars.{codes}
use Rattle.x5_model.specs.Values.{Text, TypeRef, Known, Unknown}

-- what values of a type are
pub data Kind : Type 0 where
  TextKind : Kind
  PrintableKind : Kind
  CountryKind : Kind
  NumericKind : Kind
  TelephoneKind : Kind
  OidKind : Kind
  NameKind : Kind
  OctetsKind : Kind

-- a type: its number, its keyword, what its values are, whether it may stand in an RDN, and whether it has one value at
-- most
pub record Row : Type 0 where
  pub number : ℕ
  pub keyword : Text
  pub kind : Kind
  pub names : Bool
  pub single : Bool

abbrev naming : ℕ → Text → Kind → Row
naming number keyword kind = record { number = number; keyword = keyword; kind = kind; names = true; single = false }

abbrev plain : ℕ → Text → Kind → Row
plain number keyword kind = record { number = number; keyword = keyword; kind = kind; names = false; single = false }

abbrev pub table : List Row
table =
    plain 0 (codes "objectClass") OidKind
    ∷ record { number = 1; keyword = codes "aliasedEntryName"; kind = NameKind; names = false; single = true }
    ∷ naming 3 (codes "CN") TextKind
    ∷ naming 4 (codes "SN") TextKind
    ∷ naming 5 (codes "serialNumber") PrintableKind
    ∷ record { number = 6; keyword = codes "C"; kind = CountryKind; names = true; single = true }
    ∷ naming 7 (codes "L") TextKind
    ∷ naming 8 (codes "ST") TextKind
    ∷ naming 10 (codes "O") TextKind
    ∷ naming 11 (codes "OU") TextKind
    ∷ naming 12 (codes "title") TextKind
    ∷ naming 13 (codes "description") TextKind
    ∷ naming 17 (codes "postalCode") TextKind
    ∷ naming 20 (codes "telephoneNumber") TelephoneKind
    ∷ naming 24 (codes "x121Address") NumericKind
    ∷ plain 31 (codes "member") NameKind
    ∷ plain 32 (codes "owner") NameKind
    ∷ plain 34 (codes "seeAlso") NameKind
    ∷ plain 35 (codes "userPassword") OctetsKind
    ∷ []

abbrev pub row_of : ℕ → Option Row
row_of number = find (λ r. r.number == number) table

abbrev pub in_row : {X : Type 0} → X → (Row → X) → Option Row → X
in_row x f None = x
in_row x f (Some r) = f r

-- the number is in the table
abbrev pub is_known : ℕ → Bool
is_known number = in_row false (λ r. true) (row_of number)

-- A type goes by its number where the table has it: then its number alone stands for it, and its object identifier
-- doesn't.
abbrev pub in_table : List ℕ → Bool
in_table (a ∷ b ∷ c ∷ number ∷ []) = (a == 2) && ((b == 5) && ((c == 4) && is_known number))
in_table arcs = false

abbrev pub is_type : TypeRef → Bool
is_type (Known number) = is_known number
is_type (Unknown arcs) = not (in_table arcs)

-- a number that isn't in the table is of no use; it counts as octets
abbrev pub kind_of : ℕ → Kind
kind_of number = in_row OctetsKind (λ r. r.kind) (row_of number)

abbrev pub may_name : ℕ → Bool
may_name number = in_row false (λ r. r.names) (row_of number)

abbrev pub is_single : ℕ → Bool
is_single number = in_row false (λ r. r.single) (row_of number)

-- the kinds that have an ordering rule, and those that have substrings; these too are this project's own
abbrev pub has_order : Kind → Bool
has_order TextKind = true
has_order PrintableKind = true
has_order CountryKind = true
has_order NumericKind = true
has_order TelephoneKind = false
has_order OidKind = false
has_order NameKind = false
has_order OctetsKind = false

abbrev pub has_substrings : Kind → Bool
has_substrings TextKind = true
has_substrings PrintableKind = true
has_substrings CountryKind = true
has_substrings NumericKind = true
has_substrings TelephoneKind = true
has_substrings OidKind = false
has_substrings NameKind = false
has_substrings OctetsKind = false
