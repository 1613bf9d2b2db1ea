-- What a text gives as a type, a value, a name or an RDN is within the limits: reading refuses all else.
use Rattle.std.proofs.Common.{◌≡◌, ℕ, Bool, true, false, not, ◌&&◌, ◌==◌, List, [], ◌∷◌, ◌+◌, length, refl, sym, ap, ap₂, subst, ◌∙◌, Option, Some, None, Result, Ok, Err, IfOk, if◌then◌else◌}
use Rattle.std.specs.Prelude.{is_some}
use Rattle.std.specs.List.{list_all}
use Rattle.x5_model.specs.Values.{Text, TypeRef, Known, Unknown, NameValue, Value, TextValue, OctetsValue, OidValue, NameOf, written}
use Rattle.x5_model.specs.Types.{Kind, TextKind, NameKind, in_table, is_known}
use Rattle.x5_model.specs.Normal.{most_octets, most_rdns, is_oid, is_rdn, oid_content_len, first_found, over, rdn_over, name_over, written_key, key_octets, ValueFault, WrongSyntax, within, normal_of, stored, stored_rdn, written_rdn}
use Rattle.x5_model.proofs.Lists.{both_true, not_true}
use Rattle.x5_model_text.specs.TypeText.{known_below, type_of_text}
use Rattle.x5_model_text.specs.NameText.{NameFault, ◌>>=◌, name_of_text, rdn_of_text, kind_of_type, value_of_text}
use Rattle.x5_model_text_laws.specs.Given.{is_given_type, IsGivenName, IsGiven}
use Rattle.x5_model_text_laws.proofs.Types.{type_given}
use Rattle.x5_model_text_laws.proofs.GivenNames.{name_given}
use Rattle.x5_model_text_laws.proofs.Names.{stored_given, rdn_given_alone}
use Rattle.x5_model_text_laws.proofs.Values.{value_given}
use Rattle.x5_names.specs.Reading.{stored_name_of_text, stored_rdn_of_text}
use Rattle.x5_model_fitting.specs.Names.{are_utf8, WrittenRdnWithin, RdnWithin, NameWithin}
use Rattle.x5_model_fitting.specs.Terms.{TypeWithin, ValueWithin, PartWithin}
use Rattle.x5_model_fitting.proofs.Names.{none_first, not_over, written_rdn_of}
use Rattle.x5_model_fitting.proofs.Texts.{known_within}
use Rattle.x5_model_fitting.proofs.Kept.{stored_name_within, normal_within}

-- ---- types

parts_unknown : (a b c d : Bool) (n : ℕ) → is_some (if a && b && c && d then Some n else None) ≡ false
    → (a && (b && (c && d))) ≡ false
parts_unknown true true true true n h = absurd (cc h)
parts_unknown true true true false n h = refl
parts_unknown true true false d n h = refl
parts_unknown true false c d n h = refl
parts_unknown false b c d n h = refl

not_in_table : (arcs : List ℕ) → is_some (known_below arcs) ≡ false → in_table arcs ≡ false
not_in_table [] h = refl
not_in_table (a ∷ []) h = refl
not_in_table (a ∷ b ∷ []) h = refl
not_in_table (a ∷ b ∷ c ∷ []) h = refl
not_in_table (a ∷ b ∷ c ∷ n ∷ []) h = parts_unknown (a == 2) (b == 5) (c == 4) (is_known n) n h
not_in_table (a ∷ b ∷ c ∷ n ∷ m ∷ arcs) h = refl

pub type_within : (t : Text) (type : TypeRef) → type_of_text t ≡ Some type → TypeWithin type
type_within t type e = by type (type_given t type e)
  where
    by : (x : TypeRef) → is_given_type x ≡ true → TypeWithin x
    by (Known k) h = known_within k h
    by (Unknown arcs) h =
        let w = both_true (is_oid arcs) (not (is_some (known_below arcs))) h in
        record { is = ap not (not_in_table arcs (not_true (is_some (known_below arcs)) w.1)); oid = w.0 }

-- ---- values

has_normal : (n : NameValue) → IsGivenName n → normal_of NameKind (NameOf n) ≡ Ok (key_octets (written_key n))
has_normal n h =
    ap (λ (b : Bool). if_kind b (within (name_over 0 n) (key_octets (written_key n)))) h.valid
    ∙ ap (λ (o : Option ℕ). within o (key_octets (written_key n))) h.short
  where
    if_kind : Bool → Result (List ℕ) ValueFault → Result (List ℕ) ValueFault
    if_kind b r = if b then r else Err WrongSyntax

given_within : (k : Kind) (v : Value) → IsGiven k v → ValueWithin v
given_within k (TextValue t) h =
    record { utf8 = h.utf8; some = h.some; short = not_over most_octets (length t) h.short }
given_within k (OctetsValue octets) h = not_over most_octets (length octets) h.short
given_within k (OidValue arcs) h = (h.valid, not_over most_octets (oid_content_len arcs) h.short)
given_within k (NameOf n) h =
    normal_within NameKind (NameOf n) (key_octets (written_key n)) (has_normal n h.1) h.1.utf8

pub value_within : (type : TypeRef) (t : Text) → IfOk (value_of_text type t) ValueWithin
value_within type t = by (value_of_text type t) refl
  where
    by : (r : Result Value ValueFault) → value_of_text type t ≡ r → IfOk r ValueWithin
    by (Ok v) e = given_within (kind_of_type type) v (value_given type t v e)
    by (Err x) e = tt

-- a text is read as nothing but itself where the kind has nothing else
part_given : (v : Value) → IsGiven TextKind v → PartWithin v
part_given (TextValue t) h =
    record { utf8 = h.utf8; some = h.some; short = not_over most_octets (length t) h.short }
part_given (OctetsValue octets) h = absurd (cc h.kind)
part_given (OidValue arcs) h = absurd (cc h.kind)
part_given (NameOf n) h = absurd (cc h.0)

pub part_within : (t : Text) → IfOk (value_of_text (Unknown []) t) PartWithin
part_within t = by (value_of_text (Unknown []) t) refl
  where
    by : (r : Result Value ValueFault) → value_of_text (Unknown []) t ≡ r → IfOk r PartWithin
    by (Ok v) e = part_given v (value_given (Unknown []) t v e)
    by (Err x) e = tt

-- ---- names

pub written_stored : (n : NameValue) → written (stored n) ≡ n
written_stored [] = refl
written_stored (r ∷ n) =
    ap₂ (λ (s : List (ℕ × Text)) (m : NameValue). s ∷ m) (written_rdn_of r) (written_stored n)

pub name_within : (t : Text) → IfOk (stored_name_of_text t) NameWithin
name_within t = by (name_of_text t) refl
  where
    by : (r : Result NameValue NameFault) → name_of_text t ≡ r → IfOk (r >>= (λ n. Ok (stored n))) NameWithin
    by (Ok n) e =
        stored_name_within (stored n) (stored_given t n e)
        (ap (list_all are_utf8) (written_stored n) ∙ (name_given t n e).utf8)
    by (Err x) e = tt

given_rdn : (r : List (ℕ × Text)) → IsGivenName (r ∷ []) → RdnWithin (stored_rdn r)
given_rdn r h =
    let same : written_rdn (stored_rdn r) ≡ r = written_rdn_of r in
    let valid = both_true (is_rdn r) true h.valid in
    let a = none_first (over most_rdns (0 + 1)) (first_found (rdn_over 0 r) None) h.short in
    let short = none_first (rdn_over 0 r) None a.1 in
    let utf8 = both_true (are_utf8 r) true h.utf8 in
    record {
      is_written = subst WrittenRdnWithin (sym same) (record { valid = valid.0; short = short.0; utf8 = utf8.0 });
      normal = ap stored_rdn (sym same);
    }

pub rdn_within : (t : Text) → IfOk (stored_rdn_of_text t) RdnWithin
rdn_within t = by (rdn_of_text t) refl
  where
    by : (r : Result (List (ℕ × Text)) NameFault) → rdn_of_text t ≡ r
        → IfOk (r >>= (λ s. Ok (stored_rdn s))) RdnWithin
    by (Ok s) e = given_rdn s (rdn_given_alone t s e)
    by (Err x) e = tt
