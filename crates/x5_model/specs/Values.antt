-- Attribute types, values and spelled names (X.501, sections 8 and 9; X.520).
use Rattle.std.specs.Prelude.{ℕ, ◌-◌, List, [], ◌∷◌, length, map, take}
use Rattle.std.specs.declared.option.Option.{Option}
use Rattle.x5_model.specs.Keys.{KeyPair, KeyRdn, Key}

-- a text, as its octets in UTF-8
abbrev pub Text : Type 0
Text = List ℕ

-- an attribute type: one of the table, by its number below 2.5.4, or another object identifier, by its arcs
pub data TypeRef : Type 0 where
  Known : ℕ → TypeRef
  Unknown : List ℕ → TypeRef

-- a name as it is written, where it is a value: pairs of a type number and a text
abbrev pub NameValue : Type 0
NameValue = List (List (ℕ × Text))

-- a value as it is written, by its form and not by its type
pub data Value : Type 0 where
  TextValue : Text → Value
  OctetsValue : List ℕ → Value
  OidValue : List ℕ → Value
  NameOf : NameValue → Value

-- a value with its normal form
pub record StoredValue : Type 0 where
  pub value : Value
  pub normal : List ℕ

-- a value that somebody offers for a type; it has no normal form where it isn't of the type's kind
pub record Offered : Type 0 where
  pub value : Value
  pub normal : Option (List ℕ)

-- one pair of an RDN: the type's number, the text as it is spelled, and its normal form
pub record Pair : Type 0 where
  pub kind : ℕ
  pub text : Text
  pub normal : List ℕ

-- an RDN: its pairs in the order of type numbers
abbrev pub Rdn : Type 0
Rdn = List Pair

-- a name as it is spelled, from the root
abbrev pub Name : Type 0
Name = List Rdn

abbrev pub key_of_pair : Pair → KeyPair
key_of_pair p = (p.kind, p.normal)

abbrev pub key_of_rdn : Rdn → KeyRdn
key_of_rdn r = map key_of_pair r

-- what the name is compared by
abbrev pub key_of : Name → Key
key_of n = map key_of_rdn n

-- the name of what stands just above
abbrev pub name_above : Name → Name
name_above n = take (length n - 1) n

-- its last RDN
abbrev pub last_rdn : Name → Rdn
last_rdn [] = []
last_rdn (r ∷ []) = r
last_rdn (r ∷ s ∷ rest) = last_rdn (s ∷ rest)

-- what is written of a name
abbrev pub written_pair : Pair → ℕ × Text
written_pair p = (p.kind, p.text)

abbrev pub written : Name → NameValue
written n = map (map written_pair) n
