-- Values of each kind, printed and read.
use Rattle.std.proofs.Common.{◌≡◌, ℕ, ◌<◌, true, false, ◌&&◌, ◌==◌, not, if◌then◌else◌, nat_lt, suc, List, [], ◌∷◌, length, map, Option, None, Some, is_some, Result, Ok, Err, is_ok, refl, sym, ap, ap₂, subst, ◌∙◌, inl, inr, arith}
use Rattle.std.proofs.lemmas.Bool.{cases_Bool, and_parts, ltb-true, lt-ltb}
use Rattle.std.specs.List.{AllByRecursion, slice_split}
use Rattle.std.specs.Option.{option_map}
use Rattle.std.specs.Result.{result_ok}
use Rattle.std.specs.Str.{is_utf8}
use Rattle.hex.specs.Hex.{IsBytes, decode_of}
use Rattle.hex.specs.declared.error.FromHexError.{FromHexError}
use Rattle.hex.proofs.HexLemmas.{decode_of-ok}
use Rattle.x5_model.specs.Values.{Text, TypeRef, NameValue, Value, TextValue, OctetsValue, OidValue, NameOf}
use Rattle.x5_model.specs.Types.{Kind, TextKind, PrintableKind, CountryKind, NumericKind, TelephoneKind, OidKind, NameKind, OctetsKind}
use Rattle.x5_model.specs.Normal.{ValueFault, WrongSyntax, within, name_over, value_over}
use Rattle.x5_model_text.specs.TypeText.{dot, arcs_of, oid_of_text}
use Rattle.x5_model_text.specs.ValueText.{resolved, or_text, octets_of_text, bounded}
use Rattle.x5_model_text.specs.NameText.{NameFault, text_of_written, text_of_value, sorted, written_name, name_or_text, value_as, kind_of_type, value_of_resolved, value_of_text}
use Rattle.x5_model_text_laws.specs.Given.{is_kept, IsGivenName, IsGivenText, IsGiven}
use Rattle.x5_model_text_laws.proofs.Escapes.{resolved_escaped}
use Rattle.x5_model_text_laws.proofs.GivenNames.{short_given}
use Rattle.x5_model_text_laws.proofs.Names.{given_read, name_stands}
use Rattle.x5_model_text_laws.proofs.NameUtf8.{name_utf8, written_some}
use Rattle.x5_model_text_laws.proofs.Octets.{octets_read_back}
use Rattle.x5_model_text_laws.proofs.Oids.{oid_valid, oids_read_back}
use Rattle.x5_model_text_laws.proofs.Utf8.{utf8_octets}

-- ---- what was read of a resolved text

abbrev of_value : {X : Type 0} → X → Result X ValueFault
of_value x = Ok x

inside : {X : Type 0} (o : Option ℕ) (x y : X) → within o x ≡ Ok y → (o ≡ None) × (x ≡ y)
inside None x y h = (refl, cc)
inside (Some n) x y h = cc

record Source (k : Kind) (t : Text) (v : Value) : Type 0 where
  utf8 : is_utf8 t ≡ true
  some : 0 < length t
  read : value_as k t ≡ Ok v

from_resolved : (k : Kind) (r : Result Text ℕ) (v : Value) → value_of_resolved k r ≡ Ok v → (t : Text) × Source k t v
from_resolved k (Ok t) v h = elim (cases_Bool (is_utf8 t && nat_lt 0 (length t))) [
  | inl good ↦
      let parts = and_parts (is_utf8 t) (nat_lt 0 (length t)) good in
      (t, record { utf8 = parts.0; some = ltb-true 0 (length t) parts.1; read = sym (ap (λ b. if b then value_as k t else Err WrongSyntax) good) ∙ h })
  | inr bad ↦ (let e : Err WrongSyntax ≡ of_value v = sym (ap (λ b. if b then value_as k t else Err WrongSyntax) bad) ∙ h in cc)
]
from_resolved k (Err place) v h = cc

to_resolved : (k : Kind) (t : Text) (r : Result Value ValueFault) → is_utf8 t ≡ true → 0 < length t → value_as k t ≡ r → value_of_resolved k (Ok t) ≡ r
to_resolved k t r utf8 some h = ap₂ (λ u s. if u && s then value_as k t else Err WrongSyntax) utf8 (lt-ltb 0 (length t) some) ∙ h

-- ---- the value that a text gives is a given one

text_given : (k : Kind) (t : Text) (v : Value) → is_utf8 t ≡ true → 0 < length t → is_kept k t ≡ true → bounded (TextValue t) ≡ Ok v → IsGiven k v
text_given k t v utf8 some kept h =
    let i = inside (value_over (TextValue t)) (TextValue t) v h in
    subst (IsGiven k) i.1 (record { utf8 = utf8; some = some; short = i.0; kept = kept })

oid_given : (t : Text) (o : Option (List ℕ)) (v : Value) → oid_of_text t ≡ o → is_utf8 t ≡ true → 0 < length t → bounded (or_text t (option_map OidValue o)) ≡ Ok v → IsGiven OidKind v
oid_given t None v e utf8 some h = text_given OidKind t v utf8 some (ap (λ o. not (is_some o)) e) h
oid_given t (Some arcs) v e utf8 some h =
    let i = inside (value_over (OidValue arcs)) (OidValue arcs) v h in
    subst (IsGiven OidKind) i.1 (record { kind = refl; valid = oid_valid (arcs_of (slice_split (λ b. b == dot) t)) arcs e; short = i.0 })

bytes_all : (bs : List ℕ) → IsBytes bs → AllByRecursion (λ b. b < 256) bs
bytes_all [] h = tt
bytes_all (b ∷ bs) h = (h 0, bytes_all bs (λ k. h (suc k)))

hex_ok : (r : Result (List ℕ) FromHexError) (bs : List ℕ) → result_ok r ≡ Some bs → r ≡ Ok bs
hex_ok (Ok x) bs h = let e : x ≡ bs = cc in ap Ok e
hex_ok (Err e) bs h = cc

record Decoded (bs : List ℕ) : Type 0 where
  octets : AllByRecursion (λ b. b < 256) bs
  some : 0 < length bs

octets_from : (t : Text) (bs : List ℕ) → 0 < length t → octets_of_text t ≡ Some bs → Decoded bs
octets_from t bs some h =
    let e : result_ok (decode_of t) ≡ Some bs = sym (ap (λ b. if b then result_ok (decode_of t) else None) (lt-ltb 0 (length t) some)) ∙ h in
    let ok = decode_of-ok t bs (hex_ok (decode_of t) bs e) in
    let twice = ok.2 in
    record { octets = bytes_all bs ok.3; some = omega (arith, twice) }

octets_given : (t : Text) (o : Option (List ℕ)) (v : Value) → octets_of_text t ≡ o → is_utf8 t ≡ true → 0 < length t → bounded (or_text t (option_map OctetsValue o)) ≡ Ok v → IsGiven OctetsKind v
octets_given t None v e utf8 some h = text_given OctetsKind t v utf8 some (ap (λ o. not (is_some o)) e) h
octets_given t (Some bs) v e utf8 some h =
    let i = inside (value_over (OctetsValue bs)) (OctetsValue bs) v h in
    let d = octets_from t bs some e in
    subst (IsGiven OctetsKind) i.1 (record { kind = refl; octets = d.octets; some = d.some; short = i.0 })

name_value_given : (t : Text) (r : Result NameValue NameFault) (v : Value) → written_name false t ≡ r → is_utf8 t ≡ true → 0 < length t → name_or_text t r ≡ Ok v → IsGiven NameKind v
name_value_given t (Ok n) v e utf8 some h =
    let i = inside (name_over 0 n) (NameOf (map sorted n)) v h in
    subst (IsGiven NameKind) i.1 (refl, short_given t n e i.0)
name_value_given t (Err f) v e utf8 some h = text_given NameKind t v utf8 some (ap (λ r. not (is_ok r)) e) h

as_given : (k : Kind) (t : Text) (v : Value) → is_utf8 t ≡ true → 0 < length t → value_as k t ≡ Ok v → IsGiven k v
as_given TextKind t v utf8 some h = text_given TextKind t v utf8 some refl h
as_given PrintableKind t v utf8 some h = text_given PrintableKind t v utf8 some refl h
as_given CountryKind t v utf8 some h = text_given CountryKind t v utf8 some refl h
as_given NumericKind t v utf8 some h = text_given NumericKind t v utf8 some refl h
as_given TelephoneKind t v utf8 some h = text_given TelephoneKind t v utf8 some refl h
as_given OidKind t v utf8 some h = oid_given t (oid_of_text t) v refl utf8 some h
as_given OctetsKind t v utf8 some h = octets_given t (octets_of_text t) v refl utf8 some h
as_given NameKind t v utf8 some h = name_value_given t (written_name false t) v refl utf8 some h

pub value_given : (type : TypeRef) (t : Text) (v : Value) → value_of_text type t ≡ Ok v → IsGiven (kind_of_type type) v
value_given type t v h =
    let s = from_resolved (kind_of_type type) (resolved 0 t) v h in
    as_given (kind_of_type type) s.0 v s.1.utf8 s.1.some s.1.read

-- ---- a given value's text reads as the value

kept_oid : (t : Text) (o : Option (List ℕ)) → not (is_some o) ≡ true → bounded (or_text t (option_map OidValue o)) ≡ bounded (TextValue t)
kept_oid t None h = refl
kept_oid t (Some arcs) h = cc

kept_octets : (t : Text) (o : Option (List ℕ)) → not (is_some o) ≡ true → bounded (or_text t (option_map OctetsValue o)) ≡ bounded (TextValue t)
kept_octets t None h = refl
kept_octets t (Some bs) h = cc

kept_name : (t : Text) (r : Result NameValue NameFault) → not (is_ok r) ≡ true → name_or_text t r ≡ bounded (TextValue t)
kept_name t (Ok n) h = cc
kept_name t (Err e) h = refl

kept_as : (k : Kind) (t : Text) → is_kept k t ≡ true → value_as k t ≡ bounded (TextValue t)
kept_as TextKind t h = refl
kept_as PrintableKind t h = refl
kept_as CountryKind t h = refl
kept_as NumericKind t h = refl
kept_as TelephoneKind t h = refl
kept_as OidKind t h = kept_oid t (oid_of_text t) h
kept_as OctetsKind t h = kept_octets t (octets_of_text t) h
kept_as NameKind t h = kept_name t (written_name false t) h

text_back : (type : TypeRef) (t : Text) → IsGivenText (kind_of_type type) t → value_of_text type (text_of_value (TextValue t)) ≡ Ok (TextValue t)
text_back type t h =
    ap (value_of_resolved (kind_of_type type)) (resolved_escaped 0 t (utf8_octets t h.utf8))
    ∙ to_resolved (kind_of_type type) t (Ok (TextValue t)) h.utf8 h.some
    (kept_as (kind_of_type type) t h.kept ∙ ap (λ o. within o (TextValue t)) h.short)

name_value_back : (type : TypeRef) (n : NameValue) → kind_of_type type ≡ NameKind → IsGivenName n → value_of_text type (text_of_value (NameOf n)) ≡ Ok (NameOf n)
name_value_back type n kind h =
    let t = text_of_written n in
    let utf8 = name_utf8 n h in
    ap (value_of_resolved (kind_of_type type)) (resolved_escaped 0 t (utf8_octets t utf8))
    ∙ to_resolved (kind_of_type type) t (Ok (NameOf n)) utf8 (written_some n)
    (ap (λ k. value_as k t) kind ∙ ap (name_or_text t) (given_read false n h) ∙ ap₂ (λ o m. within o (NameOf m)) h.short (name_stands n h.valid))

pub value_back : (type : TypeRef) (v : Value) → IsGiven (kind_of_type type) v → value_of_text type (text_of_value v) ≡ Ok v
value_back type (TextValue t) h = text_back type t h
value_back type (OctetsValue bs) h = octets_read_back type bs h.kind h.octets h.some h.short
value_back type (OidValue arcs) h = oids_read_back type arcs h.kind h.valid h.short
value_back type (NameOf n) h = name_value_back type n h.0 h.1

pub value_again : (type : TypeRef) (t : Text) (v : Value) → value_of_text type t ≡ Ok v → value_of_text type (text_of_value v) ≡ Ok v
value_again type t v h = value_back type v (value_given type t v h)
