-- Object identifiers: what reads of a slice say, a parsed arc, and the text arc by arc.
use Rattle.std.proofs.Common.{◌≡◌, ◌≢◌, ℕ, ◌+◌, ◌-◌, ◌^◌, ◌<◌, ◌≤◌, Bool, true, false, ◌&&◌, ◌||◌, nat_lt, List, [], ◌∷◌, ◌++◌, map, flat_map, length, get_or, drop, Option, None, Some, Result, Ok, Err, refl, sym, ◌∙◌, ap, ap₂, append_assoc, append-nil, zero, suc, if◌then◌else◌, inl, inr, arith, rules}
use Rattle.std.proofs.lemmas.Bool.{and_parts, cases_lt, lt-ltb, ltb-true, le-ltb}
use Rattle.std.specs.Result.{OkIff}
use Rattle.std.proofs.lemmas.Bool.Decides.{nat_tests}
use Rattle.std.proofs.lemmas.Str.Parse.{IsNumeralModel, numerals_by_value, parse_digits}
use Rattle.std.specs.Char.{is_ascii_digit}
use Rattle.std.specs.List.{list_all, join_with_byte}
use Rattle.std.specs.Option.{option_map}
use Rattle.std.specs.Result.{result_ok}
use Rattle.std.specs.Str.Parse.{digits_value, ParsesUnsigned}
use Rattle.std.specs.Fmt.{decimal}
use Rattle.x5_model.specs.Normal.{is_oid}
use Rattle.x5_model_text.specs.TypeText.{dot, is_numeral, arc_of, arcs_of, cons_both, oid_of_text, text_of_oid, row_of_word, row_or_oid, type_of_arcs, type_of_text}
use Rattle.x5_model.specs.Types.{Row}
use Rattle.x5_model.specs.Values.{Text}
use Rattle.x5_syntax.specs.Dotted.{dot_and_arc}

and_true : (b : Bool) → (b && true) ≡ b
and_true true = refl
and_true false = refl

all_fit : (xs : List ℕ) → ((k : ℕ) → get_or xs k 0 < 2 ^ 32) → list_all (λ n. nat_lt n (2 ^ 32)) xs ≡ true
all_fit [] h = refl
all_fit (x ∷ xs) h = let head : x < 2 ^ 32 = h 0 in let tail = all_fit xs (λ k. h (suc k)) in ap₂ ◌&&◌ (lt-ltb x (2 ^ 32) head) tail

pub is_oid_reads : (xs : List ℕ) → ((k : ℕ) → get_or xs k 0 < 2 ^ 32) → 2 ≤ length xs → is_oid xs ≡ (nat_lt (get_or xs 0 0) 3 && (nat_lt 1 (get_or xs 0 0) || nat_lt (get_or xs 1 0) 40))
is_oid_reads [] h two = absurd (omega arith)
is_oid_reads (a ∷ []) h two = absurd (omega arith)
is_oid_reads (a ∷ b ∷ xs) h two = ap (λ t. (nat_lt a 3 && (nat_lt 1 a || nat_lt b 40)) && t) (all_fit (a ∷ b ∷ xs) h) ∙ and_true _

-- ---- arcs

pub numerals : IsNumeralModel (λ ds. list_all is_ascii_digit ds ≡ true) (digits_value 10)
numerals = numerals_by_value _ (search rules)

arc_at : (bs : List ℕ) (t : Bool) → is_numeral bs ≡ true → nat_lt (digits_value 10 bs) (2 ^ 32) ≡ t → arc_of bs ≡ (if t then Some (digits_value 10 bs) else None)
arc_at bs t h e = ap (λ b. if b then Some (digits_value 10 bs) else None) (ap₂ ◌&&◌ h e)

arc_by_cases : {E : Type 0} (bs : List ℕ) (r : Result ℕ E) → is_numeral bs ≡ true → OkIff r ((0 < length bs) × (digits_value 10 bs < 2 ^ 32)) (digits_value 10 bs) → result_ok r ≡ arc_of bs
arc_by_cases bs (Ok n) h found = ap Some found.1 ∙ sym (arc_at bs true h (lt-ltb _ _ found.0.1))
arc_by_cases bs (Err e) h none =
    let some : 0 < length bs = ltb-true 0 (length bs) (and_parts (list_all is_ascii_digit bs) _ (and_parts (list_all is_ascii_digit bs && nat_lt 0 (length bs)) _ h).0).1 in
    elim (cases_lt (digits_value 10 bs) (2 ^ 32)) [
      | inl small ↦ absurd (none (some, small))
      | inr large ↦ sym (arc_at bs false h (le-ltb _ _ large))
    ]

pub arc_gives : {E : Type 0} (bs : List ℕ) (r : Result ℕ E) → is_numeral bs ≡ true → ParsesUnsigned 32 10 bs r → result_ok r ≡ arc_of bs
arc_gives bs r h p = arc_by_cases bs r h (parse_digits numerals 32 bs r p (and_parts (list_all is_ascii_digit bs) _ (and_parts (list_all is_ascii_digit bs && nat_lt 0 (length bs)) _ h).0).0)

-- the arcs behind those of a front
abbrev pub behind : List ℕ → Option (List ℕ) → Option (List ℕ)
behind front o = option_map (λ ns. front ++ ns) o

pub behind_some : (front : List ℕ) (n : ℕ) (o : Option (List ℕ)) → behind front (cons_both (Some n) o) ≡ behind (front ++ n ∷ []) o
behind_some front n None = refl
behind_some front n (Some ns) = ap Some (sym (append_assoc front (n ∷ []) ns))

pub behind_none : (front : List ℕ) (o : Option (List ℕ)) → behind front (cons_both None o) ≡ None
behind_none front o = refl

-- ---- the text

pub text_of_oid-cons : (n : ℕ) (ns : List ℕ) → text_of_oid (n ∷ ns) ≡ decimal n ++ flat_map dot_and_arc ns
text_of_oid-cons n [] = sym (append-nil (decimal n))
text_of_oid-cons n (m ∷ ns) = ap (λ t. decimal n ++ dot ∷ t) (text_of_oid-cons m ns)

-- ---- types

row_absent : (row : Option Row) (arcs : List ℕ) → option_map (λ r. r.number) row ≡ None → row_or_oid row (Some arcs) ≡ Some (type_of_arcs arcs)
row_absent None arcs h = refl
row_absent (Some r) arcs h = cc

pub type_of_oid_text : (t : Text) (arcs : List ℕ) → option_map (λ r. r.number) (row_of_word t) ≡ None → oid_of_text t ≡ Some arcs → type_of_text t ≡ Some (type_of_arcs arcs)
type_of_oid_text t arcs absent spelled = ap (row_or_oid (row_of_word t)) spelled ∙ row_absent (row_of_word t) arcs absent
