-- Attribute types, printed and read.
use Rattle.std.proofs.Common.{◌≡◌, ℕ, ◌^◌, ◌<◌, true, ◌&&◌, ◌==◌, not, if◌then◌else◌, nat_lt, List, [], ◌∷◌, ◌++◌, length, Option, None, Some, is_some, refl, sym, ap, ap₂, ◌∙◌, inl, inr, arith}
use Rattle.std.proofs.lemmas.Bool.{cases_Bool, and_parts, and_from, ltb-true}
use Rattle.std.proofs.lemmas.Fmt.{decimal_nonempty}
use Rattle.std.specs.Char.{is_ascii_digit}
use Rattle.std.specs.Fmt.{decimal}
use Rattle.std.specs.List.{list_all, slice_split}
use Rattle.x5_model.specs.Values.{Text, TypeRef, Known, Unknown}
use Rattle.x5_model.specs.Types.{Row, is_known}
use Rattle.x5_model.specs.Normal.{is_oid}
use Rattle.x5_model_text.specs.TypeText.{dot, arcs_of, oid_of_text, text_of_oid, known_below, type_or, type_of_arcs, row_of_word, row_or_oid, type_of_text, text_of_type}
use Rattle.x5_model_text_laws.specs.Given.{is_given_type}
use Rattle.x5_model_text_laws.proofs.Keywords.{begins_with_digit, digit_no_keyword, known_keyword, row_known}
use Rattle.x5_model_text_laws.proofs.Oids.{digits_of_arc, arcs_of_oid, oid_read, oid_valid}

-- ---- an identifier begins with a digit

digits_first : (t u : Text) → list_all is_ascii_digit t ≡ true → 0 < length t → begins_with_digit (t ++ u) ≡ true
digits_first [] u h some = absurd (omega arith)
digits_first (b ∷ t) u h some = (and_parts (is_ascii_digit b) (list_all is_ascii_digit t) h).0

oid_digit : (arcs : List ℕ) → is_oid arcs ≡ true → begins_with_digit (text_of_oid arcs) ≡ true
oid_digit [] h = cc
oid_digit (a ∷ []) h = cc
oid_digit (a ∷ b ∷ arcs) h =
    let first : a < 2 ^ 32 = ltb-true a (2 ^ 32) (and_parts (nat_lt a (2 ^ 32)) _ (arcs_of_oid a b arcs h)).0 in
    digits_first (decimal a) (dot ∷ text_of_oid (b ∷ arcs)) (digits_of_arc a first) (decimal_nonempty a (omega arith))

-- ---- printed, and read

other_type : (arcs : List ℕ) (o : Option ℕ) → not (is_some o) ≡ true → type_or arcs o ≡ Unknown arcs
other_type arcs None h = refl
other_type arcs (Some n) h = cc

pub type_back : (type : TypeRef) → is_given_type type ≡ true → type_of_text (text_of_type type) ≡ Some type
type_back (Known n) h = (known_keyword n h).type
type_back (Unknown arcs) h =
    let parts = and_parts (is_oid arcs) (not (is_some (known_below arcs))) h in
    ap₂ row_or_oid (digit_no_keyword (text_of_oid arcs) (oid_digit arcs parts.0)) (oid_read arcs parts.0)
    ∙ ap Some (other_type arcs (known_below arcs) parts.1)

-- ---- read, and fit

below_known : (arcs : List ℕ) (n : ℕ) → known_below arcs ≡ Some n → is_known n ≡ true
below_known [] n h = cc
below_known (a ∷ []) n h = cc
below_known (a ∷ b ∷ []) n h = cc
below_known (a ∷ b ∷ c ∷ []) n h = cc
below_known (a ∷ b ∷ c ∷ m ∷ []) n h = elim (cases_Bool ((a == 2) && (b == 5) && (c == 4) && is_known m)) [
  | inl good ↦
      let e : Some m ≡ Some n = sym (ap (λ t. if t then Some m else None) good) ∙ h in
      let same : m ≡ n = cc in
      ap is_known (sym same) ∙ (and_parts ((a == 2) && (b == 5) && (c == 4)) (is_known m) good).1
  | inr bad ↦ (let e : None ≡ Some n = sym (ap (λ t. if t then Some m else None) bad) ∙ h in cc)
]
below_known (a ∷ b ∷ c ∷ m ∷ d ∷ arcs) n h = cc

type_of_known : (arcs : List ℕ) (o : Option ℕ) → known_below arcs ≡ o → is_oid arcs ≡ true → is_given_type (type_or arcs o) ≡ true
type_of_known arcs None e h = and_from (is_oid arcs) (not (is_some (known_below arcs))) h (ap (λ o. not (is_some o)) e)
type_of_known arcs (Some n) e h = below_known arcs n e

by_word : (t : Text) (row : Option Row) (o : Option (List ℕ)) (type : TypeRef) → row_of_word t ≡ row → oid_of_text t ≡ o → row_or_oid row o ≡ Some type → is_given_type type ≡ true
by_word t (Some r) o type e f h = let same : Known r.number ≡ type = cc in ap is_given_type (sym same) ∙ row_known t r e
by_word t None None type e f h = cc
by_word t None (Some arcs) type e f h =
    let same : type_of_arcs arcs ≡ type = cc in
    ap is_given_type (sym same) ∙ type_of_known arcs (known_below arcs) refl (oid_valid (arcs_of (slice_split (λ b. b == dot) t)) arcs f)

pub type_given : (t : Text) (type : TypeRef) → type_of_text t ≡ Some type → is_given_type type ≡ true
type_given t type h = by_word t (row_of_word t) (oid_of_text t) type refl refl h

pub type_again : (t : Text) (type : TypeRef) → type_of_text t ≡ Some type → type_of_text (text_of_type type) ≡ Some type
type_again t type h = type_back type (type_given t type h)
