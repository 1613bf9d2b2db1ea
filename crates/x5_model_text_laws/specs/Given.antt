-- What texts can give: the types, names and values that reading answers.
use Rattle.std.specs.Prelude.{◌≡◌, ℕ, ◌<◌, Bool, true, false, ◌&&◌, ◌||◌, ◌==◌, not, List, [], ◌∷◌, length, None}
use Rattle.std.specs.Prelude.{is_some, is_ok}
use Rattle.std.specs.List.{AllByRecursion, list_all, list_any}
use Rattle.std.specs.Str.{is_utf8}
use Rattle.x5_model.specs.Values.{Text, TypeRef, Known, Unknown, NameValue, Value, TextValue, OctetsValue, OidValue}
use Rattle.x5_model.specs.Values.{NameOf}
use Rattle.x5_model.specs.Types.{is_known, Kind, TextKind, PrintableKind, CountryKind, NumericKind, TelephoneKind}
use Rattle.x5_model.specs.Types.{OidKind, NameKind, OctetsKind}
use Rattle.x5_model.specs.Normal.{is_oid, is_name, name_over, value_over}
use Rattle.x5_model_text.specs.TypeText.{known_below, oid_of_text}
use Rattle.x5_model_text.specs.ValueText.{backslash, is_escaped, octets_of_text}
use Rattle.x5_model_text.specs.NameText.{slash, plus, equals, written_name}

-- a type that a text can give: one of the table, or another object identifier
abbrev pub is_given_type : TypeRef → Bool
is_given_type (Known n) = is_known n
is_given_type (Unknown arcs) = is_oid arcs && not (is_some (known_below arcs))

abbrev pub are_utf8 : List (ℕ × Text) → Bool
are_utf8 r = list_all (λ p. is_utf8 p.1) r

-- a name that a text can give: each RDN has pairs in the order of type numbers, each type may name and comes once,
-- each text is UTF-8 and of its type's kind; and no limit is passed
pub record IsGivenName (n : NameValue) : Type 0 where
  pub valid : is_name n ≡ true
  pub short : name_over 0 n ≡ None
  pub utf8 : list_all are_utf8 n ≡ true

-- the text can't be read as what the kind has besides texts
abbrev pub is_kept : Kind → Text → Bool
is_kept OidKind t = not (is_some (oid_of_text t))
is_kept OctetsKind t = not (is_some (octets_of_text t))
is_kept NameKind t = not (is_ok (written_name false t))
is_kept TextKind t = true
is_kept PrintableKind t = true
is_kept CountryKind t = true
is_kept NumericKind t = true
is_kept TelephoneKind t = true

-- a value that a text can give for a type of the kind, within the limits: octets, an object identifier or a name for
-- the kind that has them, and for each kind a text that isn't empty and can't be read as one of these
pub record IsGivenText (k : Kind) (t : Text) : Type 0 where
  pub utf8 : is_utf8 t ≡ true
  pub some : 0 < length t
  pub short : value_over (TextValue t) ≡ None
  pub kept : is_kept k t ≡ true

pub record AreGivenOctets (k : Kind) (bs : List ℕ) : Type 0 where
  pub kind : k ≡ OctetsKind
  pub octets : AllByRecursion (λ b. b < 256) bs
  pub some : 0 < length bs
  pub short : value_over (OctetsValue bs) ≡ None

pub record IsGivenOid (k : Kind) (arcs : List ℕ) : Type 0 where
  pub kind : k ≡ OidKind
  pub valid : is_oid arcs ≡ true
  pub short : value_over (OidValue arcs) ≡ None

abbrev pub IsGiven : Kind → Value → Type 0
IsGiven k (TextValue t) = IsGivenText k t
IsGiven k (OctetsValue bs) = AreGivenOctets k bs
IsGiven k (OidValue arcs) = IsGivenOid k arcs
IsGiven k (NameOf n) = (k ≡ NameKind) × IsGivenName n

-- ---- what is printed

-- an octet that stands in the printed text of a value: none that is escaped but the backslash before an escape's digits
abbrev pub is_printed : ℕ → Bool
is_printed b = not (is_escaped b) || (b == backslash)

-- in that of a name there are also those that join its RDNs, its pairs, and a type and its value
abbrev pub is_printed_in_name : ℕ → Bool
is_printed_in_name b = is_printed b || list_any (λ c. c == b) (slash ∷ plus ∷ equals ∷ [])
