-- Object identifiers in dotted decimals read back.
use Rattle.std.proofs.Common.{◌≡◌, ℕ, ◌^◌, ◌<◌, Bool, true, false, ◌&&◌, ◌||◌, ◌==◌, not, if◌then◌else◌, nat_lt, zero, suc, List, [], ◌∷◌, length, map, slice_index, Option, None, Some, Ok, refl, sym, ap, ap₂, ◌∙◌, inl, inr, arith, rules, length-append}
use Rattle.std.proofs.lemmas.Bool.{cases_Bool, and_parts, and_from, lt-ltb, ltb-true, ne_eqb, or_right}
use Rattle.std.proofs.lemmas.Bool.Decides.{nat_tests}
use Rattle.std.proofs.lemmas.Fmt.{decimal_digit, decimal_nonempty, first_decimal, digits_decimal, digits_value-decimal}
use Rattle.std.proofs.lemmas.List.Folds.{list_all-append}
use Rattle.std.proofs.lemmas.Str.Parse.{IsNumeralModel, numerals_by_value}
use Rattle.std.specs.Char.{is_ascii_digit}
use Rattle.std.specs.Fmt.{decimal}
use Rattle.std.specs.List.{list_all}
use Rattle.std.specs.Option.{option_map}
use Rattle.std.specs.Str.Parse.{digits_value}
use Rattle.x5_model.specs.Values.{Text, TypeRef, OidValue}
use Rattle.x5_model.specs.Types.{OidKind}
use Rattle.x5_model.specs.Normal.{is_oid, within, value_over}
use Rattle.x5_model_text.specs.NameText.{kind_of_type, text_of_value, value_as, value_of_text}
use Rattle.x5_model_text.specs.TypeText.{dot, is_numeral, arc_of, arcs_of, cons_both, if_oid, oid_of_text, text_of_oid}
use Rattle.x5_model_text.specs.ValueText.{bounded, or_text}
use Rattle.x5_model_text_laws.proofs.Pieces.{is_free, cut_joined}
use Rattle.x5_model_text_laws.proofs.Plain.{is_plain, digits_plain, plain_read}

numerals : IsNumeralModel (λ ds. list_all is_ascii_digit ds ≡ true) (digits_value 10)
numerals = numerals_by_value _ (search rules)

pub digits_of_arc : (n : ℕ) → n < 2 ^ 32 → list_all is_ascii_digit (decimal n) ≡ true
digits_of_arc n h = digits_decimal numerals n (omega arith)

no_zero_first : (n : ℕ) → n < 2 ^ 32 → ((length (decimal n) == 1) || not (slice_index (decimal n) 0 == 48)) ≡ true
no_zero_first zero h = ap (λ t. (length t == 1) || not (slice_index t 0 == 48)) (decimal_digit 0 (omega arith))
no_zero_first (suc n) h =
    let first = first_decimal (suc n) (omega arith) (omega arith) in
    let other : (slice_index (decimal (suc n)) 0 == 48) ≡ false = ne_eqb _ _ (λ e. omega (arith, e, first)) in
    or_right (length (decimal (suc n)) == 1) _ (ap not other)

numeral : (n : ℕ) → n < 2 ^ 32 → is_numeral (decimal n) ≡ true
numeral n h = and_from _ _ (and_from _ _ (digits_of_arc n h) (lt-ltb 0 (length (decimal n)) (decimal_nonempty n (omega arith)))) (no_zero_first n h)

pub arc_read : (n : ℕ) → n < 2 ^ 32 → arc_of (decimal n) ≡ Some n
arc_read n h =
    let value : digits_value 10 (decimal n) ≡ n = digits_value-decimal numerals n (omega arith) in
    ap (λ b. if b && nat_lt (digits_value 10 (decimal n)) (2 ^ 32) then Some (digits_value 10 (decimal n)) else None) (numeral n h)
    ∙ ap (λ v. if nat_lt v (2 ^ 32) then Some v else None) value
    ∙ ap (λ b. if b then Some n else None) (lt-ltb n (2 ^ 32) h)

abbrev pub are_arcs : List ℕ → Bool
are_arcs ns = list_all (λ n. nat_lt n (2 ^ 32)) ns

arcs_read : (ns : List ℕ) → are_arcs ns ≡ true → arcs_of (map decimal ns) ≡ Some ns
arcs_read [] h = refl
arcs_read (n ∷ ns) h =
    let parts = and_parts (nat_lt n (2 ^ 32)) (are_arcs ns) h in
    ap₂ cons_both (arc_read n (ltb-true n (2 ^ 32) parts.0)) (arcs_read ns parts.1)

-- ---- no digit is a dot

digit_no_dot : (b : ℕ) → is_ascii_digit b ≡ true → not (b == dot) ≡ true
digit_no_dot b h = grind (arith, nat_tests)

digits_no_dot : (t : Text) → list_all is_ascii_digit t ≡ true → is_free dot t ≡ true
digits_no_dot [] h = refl
digits_no_dot (b ∷ t) h =
    let parts = and_parts (is_ascii_digit b) (list_all is_ascii_digit t) h in
    ap₂ ◌&&◌ (digit_no_dot b parts.0) (digits_no_dot t parts.1)

arcs_no_dot : (ns : List ℕ) → are_arcs ns ≡ true → list_all (is_free dot) (map decimal ns) ≡ true
arcs_no_dot [] h = refl
arcs_no_dot (n ∷ ns) h =
    let parts = and_parts (nat_lt n (2 ^ 32)) (are_arcs ns) h in
    ap₂ ◌&&◌ (digits_no_dot (decimal n) (digits_of_arc n (ltb-true n (2 ^ 32) parts.0))) (arcs_no_dot ns parts.1)

pub oid_plain : (n : ℕ) (ns : List ℕ) → are_arcs (n ∷ ns) ≡ true → list_all is_plain (text_of_oid (n ∷ ns)) ≡ true
oid_plain n [] h =
    let parts = and_parts (nat_lt n (2 ^ 32)) true h in
    digits_plain (decimal n) (digits_of_arc n (ltb-true n (2 ^ 32) parts.0))
oid_plain n (m ∷ ns) h =
    let parts = and_parts (nat_lt n (2 ^ 32)) (are_arcs (m ∷ ns)) h in
    list_all-append is_plain (decimal n) (dot ∷ text_of_oid (m ∷ ns))
    ∙ ap₂ ◌&&◌ (digits_plain (decimal n) (digits_of_arc n (ltb-true n (2 ^ 32) parts.0))) (oid_plain m ns parts.1)

oid_some : (n : ℕ) (ns : List ℕ) → n < 2 ^ 32 → 0 < length (text_of_oid (n ∷ ns))
oid_some n [] h = decimal_nonempty n (omega arith)
oid_some n (m ∷ ns) h = let some = decimal_nonempty n (omega arith) in let e = length-append (decimal n) (dot ∷ text_of_oid (m ∷ ns)) in omega (arith, some, e)

oid_at : (n : ℕ) (ns : List ℕ) → are_arcs (n ∷ ns) ≡ true → oid_of_text (text_of_oid (n ∷ ns)) ≡ if_oid (Some (n ∷ ns))
oid_at n ns h =
    ap (λ ts. if_oid (arcs_of ts)) (cut_joined dot (decimal n) (map decimal ns) (arcs_no_dot (n ∷ ns) h))
    ∙ ap if_oid (arcs_read (n ∷ ns) h)

pub arcs_of_oid : (a b : ℕ) (ns : List ℕ) → is_oid (a ∷ b ∷ ns) ≡ true → are_arcs (a ∷ b ∷ ns) ≡ true
arcs_of_oid a b ns h = (and_parts (nat_lt a 3 && (nat_lt 1 a || nat_lt b 40)) (are_arcs (a ∷ b ∷ ns)) h).1

pub oid_read : (arcs : List ℕ) → is_oid arcs ≡ true → oid_of_text (text_of_oid arcs) ≡ Some arcs
oid_read [] h = cc
oid_read (a ∷ []) h = cc
oid_read (a ∷ b ∷ ns) h = oid_at a (b ∷ ns) (arcs_of_oid a b ns h) ∙ ap (λ t. if t then Some (a ∷ b ∷ ns) else None) h

oid_text : (type : TypeRef) (arcs : List ℕ) → is_oid arcs ≡ true → value_of_text type (text_of_oid arcs) ≡ value_as (kind_of_type type) (text_of_oid arcs)
oid_text type [] h = cc
oid_text type (a ∷ []) h = cc
oid_text type (a ∷ b ∷ ns) h =
    let all = arcs_of_oid a b ns h in
    let first = ltb-true a (2 ^ 32) (and_parts (nat_lt a (2 ^ 32)) (are_arcs (b ∷ ns)) all).0 in
    plain_read type (text_of_oid (a ∷ b ∷ ns)) (oid_plain a (b ∷ ns) all) (oid_some a (b ∷ ns) first)

-- what reads as an object identifier is one
pub oid_valid : (o : Option (List ℕ)) (arcs : List ℕ) → if_oid o ≡ Some arcs → is_oid arcs ≡ true
oid_valid None arcs h = cc
oid_valid (Some ns) arcs h = elim (cases_Bool (is_oid ns)) [
  | inl good ↦ (let e : Some ns ≡ Some arcs = sym (ap (λ b. if b then Some ns else None) good) ∙ h in let same : ns ≡ arcs = cc in ap is_oid (sym same) ∙ good)
  | inr bad ↦ (let e : None ≡ Some arcs = sym (ap (λ b. if b then Some ns else None) bad) ∙ h in cc)
]

pub oids_read_back : (type : TypeRef) (arcs : List ℕ) → kind_of_type type ≡ OidKind → is_oid arcs ≡ true → value_over (OidValue arcs) ≡ None → value_of_text type (text_of_value (OidValue arcs)) ≡ Ok (OidValue arcs)
oids_read_back type arcs kind h short =
    oid_text type arcs h
    ∙ ap (λ k. value_as k (text_of_oid arcs)) kind
    ∙ ap (λ o. bounded (or_text (text_of_oid arcs) (option_map OidValue o))) (oid_read arcs h)
    ∙ ap (λ o. within o (OidValue arcs)) short
