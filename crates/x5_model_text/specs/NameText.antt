-- Names as text: `/` alone for the root, else for each RDN a `/` and its pairs, joined by `+`.
use Rattle.std.specs.Prelude.{ℕ, ◌+◌, Bool, true, false, ◌&&◌, ◌||◌, not, if◌then◌else◌, ◌==◌, nat_lt, nat_le, List, []}
use Rattle.std.specs.Prelude.{◌∷◌, ◌++◌, length, map, flat_map, Option, None, Some, Result, Ok, Err}
use Rattle.std.specs.List.{list_any, position_or_len, before_first, after_first, slice_split, join_with_byte}
use Rattle.std.specs.Str.{is_utf8}
use Rattle.hex.specs.Hex.{encode_lower}
use Rattle.x5_model.specs.Values.{Text, TypeRef, Known, Unknown, Value, TextValue, OctetsValue, OidValue, NameOf}
use Rattle.x5_model.specs.Values.{NameValue, Rdn, Name, written}
use Rattle.x5_model.specs.Types.{Kind, TextKind, PrintableKind, CountryKind, NumericKind, TelephoneKind, OidKind}
use Rattle.x5_model.specs.Types.{NameKind, OctetsKind, kind_of, may_name}
use Rattle.x5_model.specs.Normal.{most_octets, most_rdns, most_pairs, is_text_of_kind, ValueFault, WrongSyntax, within}
use Rattle.x5_model.specs.Normal.{name_over, written_rdn}
use Rattle.x5_model_text.specs.TypeText.{keyword_of, type_of_text, text_of_oid}
use Rattle.x5_model_text.specs.ValueText.{escaped, resolved, bounded, oid_or_text, octets_or_text}

abbrev pub slash : ℕ
slash = 47

abbrev pub plus : ℕ
plus = 43

abbrev pub equals : ℕ
equals = 61

-- ---- printing

abbrev pub text_of_pair : ℕ × Text → Text
text_of_pair p = keyword_of p.0 ++ equals ∷ escaped p.1

abbrev pub text_of_pairs : List (ℕ × Text) → Text
text_of_pairs r = join_with_byte plus (map text_of_pair r)

abbrev pub slash_and_pairs : List (ℕ × Text) → Text
slash_and_pairs r = slash ∷ text_of_pairs r

abbrev pub text_of_written : NameValue → Text
text_of_written [] = slash ∷ []
text_of_written (r ∷ n) = flat_map slash_and_pairs (r ∷ n)

abbrev pub text_of_name : Name → Text
text_of_name n = text_of_written (written n)

abbrev pub text_of_rdn : Rdn → Text
text_of_rdn r = text_of_pairs (written_rdn r)

abbrev pub text_of_value : Value → Text
text_of_value (TextValue t) = escaped t
text_of_value (OctetsValue bs) = encode_lower bs
text_of_value (OidValue arcs) = text_of_oid arcs
text_of_value (NameOf n) = escaped (text_of_written n)

-- ---- reading

-- The first fault of a text that is no name: an octet that can't stand at the place (a value that isn't of its
-- kind or is too long can't stand at its first octet); no type, or one that may not name; the 17th RDN; the fifth
-- pair; a type that the RDN has already.
pub data NameFault : Type 0 where
  BadSpelling : ℕ → NameFault
  UnknownType : NameFault
  TooManyRdns : NameFault
  TooManyPairs : NameFault
  RepeatedType : NameFault

infixl 10 ◌>>=◌
abbrev pub ◌>>=◌ : {A B : Type 0} → Result A NameFault → (A → Result B NameFault) → Result B NameFault
Ok x >>= f = f x
Err e >>= f = Err e

-- the resolved text, or the place where it is spelled wrongly
abbrev pub spelled : Result Text ℕ → Result Text NameFault
spelled (Ok t) = Ok t
spelled (Err place) = Err (BadSpelling place)

abbrev pub naming : Option TypeRef → Result ℕ NameFault
naming None = Err UnknownType
naming (Some (Unknown arcs)) = Err UnknownType
naming (Some (Known n)) = if may_name n then Ok n else Err UnknownType

abbrev pub has_type : ℕ → List (ℕ × Text) → Bool
has_type number r = list_any (λ p. p.0 == number) r

-- the resolved text is a value of the type, and short enough
abbrev pub fits_text : Bool → ℕ → Text → Bool
fits_text limited number t = is_text_of_kind (kind_of number) t && (not limited || nat_le (length t) most_octets)

abbrev pub fits_type : Bool → ℕ → Text → Bool
fits_type limited number t = is_utf8 t && fits_text limited number t

-- the value of a pair, at the place
abbrev pub text_at : Bool → ℕ → ℕ → Text → Result Text NameFault
text_at limited number at t = do
  u ← spelled (resolved at t)
  if fits_type limited number u then Ok u else Err (BadSpelling at)

-- the type of a pair, before which the RDN has these pairs
abbrev pub new_type : List (ℕ × Text) → Text → Result ℕ NameFault
new_type before word = do
  number ← naming (type_of_text word)
  if has_type number before then Err RepeatedType else Ok number

-- a pair at the place, whose `=` has this place in it
abbrev pub pair_cut : Bool → ℕ → List (ℕ × Text) → Text → ℕ → Result (ℕ × Text) NameFault
pair_cut limited at before t cut = do
  number ← new_type before (before_first (λ b. b == equals) t)
  value ← text_at limited number (at + cut + 1) (after_first (λ b. b == equals) t)
  Ok (number, value)

abbrev pub pair_at : Bool → ℕ → List (ℕ × Text) → Text → Result (ℕ × Text) NameFault
pair_at limited at before t = let cut = position_or_len (λ b. b == equals) t in
    if nat_lt cut (length t) then pair_cut limited at before t cut else Err (BadSpelling (at + length t))

-- the pairs that follow those before, in the order in which they are written
abbrev pub pairs_at : Bool → ℕ → List (ℕ × Text) → List Text → Result (List (ℕ × Text)) NameFault
pairs_at limited at before [] = Ok before
pairs_at limited at before (t ∷ ts) = if limited && nat_le most_pairs (length before) then Err TooManyPairs else do
  pair ← pair_at limited at before t
  pairs_at limited (at + length t + 1) (before ++ pair ∷ []) ts

-- pairs in the order of type numbers
abbrev pub inserted : ℕ × Text → List (ℕ × Text) → List (ℕ × Text)
inserted p [] = p ∷ []
inserted p (q ∷ r) = if nat_lt p.0 q.0 then p ∷ q ∷ r else q ∷ inserted p r

abbrev pub sorted_onto : List (ℕ × Text) → List (ℕ × Text) → List (ℕ × Text)
sorted_onto done [] = done
sorted_onto done (p ∷ r) = sorted_onto (inserted p done) r

abbrev pub sorted : List (ℕ × Text) → List (ℕ × Text)
sorted r = sorted_onto [] r

abbrev pub rdn_at : Bool → ℕ → Text → Result (List (ℕ × Text)) NameFault
rdn_at limited at t = pairs_at limited at [] (slice_split (λ b. b == plus) t)

-- the RDNs that follow those before
abbrev pub rdns_at : Bool → ℕ → NameValue → List Text → Result NameValue NameFault
rdns_at limited at before [] = Ok before
rdns_at limited at before (t ∷ ts) = if limited && nat_le most_rdns (length before) then Err TooManyRdns else do
  rdn ← rdn_at limited at t
  rdns_at limited (at + length t + 1) (before ++ rdn ∷ []) ts

-- what stands behind the first `/`
abbrev pub behind_slash : Bool → Text → Result NameValue NameFault
behind_slash limited [] = Ok []
behind_slash limited (b ∷ t) = rdns_at limited 1 [] (slice_split (λ c. c == slash) (b ∷ t))

-- a name with its pairs as they are written; if limited, one within the limits
abbrev pub written_name : Bool → Text → Result NameValue NameFault
written_name limited [] = Err (BadSpelling 0)
written_name limited (b ∷ t) = if b == slash then behind_slash limited t else Err (BadSpelling 0)

-- a name, from its text
abbrev pub name_of_text : Text → Result NameValue NameFault
name_of_text t = do
  n ← written_name true t
  Ok (map sorted n)

-- an RDN alone, in which a `/` can't stand
abbrev pub rdn_alone : List Text → Result (List (ℕ × Text)) NameFault
rdn_alone [] = Err (BadSpelling 0)
rdn_alone (t ∷ []) = do
  r ← rdn_at true 0 t
  Ok (sorted r)
rdn_alone (t ∷ u ∷ ts) = do
  r ← rdn_at true 0 t
  Err (BadSpelling (length t))

abbrev pub rdn_of_text : Text → Result (List (ℕ × Text)) NameFault
rdn_of_text t = rdn_alone (slice_split (λ b. b == slash) t)

-- ---- values

-- a text that is a name is one, though it may pass a limit; any other text is kept
abbrev pub name_or_text : Text → Result NameValue NameFault → Result Value ValueFault
name_or_text t (Ok n) = within (name_over 0 n) (NameOf (map sorted n))
name_or_text t (Err e) = bounded (TextValue t)

-- what a resolved text stands for: an object identifier, octets or a name where the kind has those and the text can be
-- read so, else itself
abbrev pub value_as : Kind → Text → Result Value ValueFault
value_as OidKind t = oid_or_text t
value_as OctetsKind t = octets_or_text t
value_as NameKind t = name_or_text t (written_name false t)
value_as TextKind t = bounded (TextValue t)
value_as PrintableKind t = bounded (TextValue t)
value_as CountryKind t = bounded (TextValue t)
value_as NumericKind t = bounded (TextValue t)
value_as TelephoneKind t = bounded (TextValue t)

-- values of types that nobody knows are texts
abbrev pub kind_of_type : TypeRef → Kind
kind_of_type (Known n) = kind_of n
kind_of_type (Unknown arcs) = TextKind

abbrev pub value_of_resolved : Kind → Result Text ℕ → Result Value ValueFault
value_of_resolved k (Ok t) = if is_utf8 t && nat_lt 0 (length t) then value_as k t else Err WrongSyntax
value_of_resolved k (Err place) = Err WrongSyntax

-- a value of a type, from its text
abbrev pub value_of_text : TypeRef → Text → Result Value ValueFault
value_of_text type t = value_of_resolved (kind_of_type type) (resolved 0 t)
