-- A text with its escapes resolves to itself.
use Rattle.std.proofs.Common.{◌≡◌, ℕ, suc, ◌+◌, ◌*◌, ◌/◌, ◌%◌, ◌<◌, Bool, true, false, not, ◌==◌, if◌then◌else◌, cond, nat_lt, List, [], ◌∷◌, ◌++◌, length, None, Some, Result, Ok, Err, refl, sym, ◌∙◌, ap, ap₂, inl, inr, arith}
use Rattle.std.proofs.lemmas.Bool.{cases_Bool, cases_lt}
use Rattle.std.proofs.lemmas.Bool.Decides.{nat_tests}
use Rattle.std.proofs.lemmas.List.Splits.{slice_split-cons_yes, slice_split-cons_no}
use Rattle.std.specs.List.{AllByRecursion, slice_split, onto_first, position_or_len}
use Rattle.std.specs.Char.{digit_char}
use Rattle.hex.specs.Hex.{hex_digit_value}
use Rattle.x5_model.specs.Values.{Text, TypeRef, TextValue}
use Rattle.x5_model.specs.Normal.{is_control}
use Rattle.x5_model_text.specs.NameText.{kind_of_type, text_of_value, value_of_resolved, value_of_text}
use Rattle.x5_model_text.specs.ValueText.{backslash, is_escaped, escaped, at_place, plain_at, escapes_at, octet_of, octet_before, parts_at, joined, resolved}

split : Text → List Text
split t = slice_split (λ b. b == backslash) t

digit_value_of : (d : ℕ) → d < 16 → hex_digit_value (digit_char d) ≡ Some d
digit_value_of d h = elim (cases_lt d 10) [
  | inl digit ↦ grind (arith, nat_tests)
  | inr letter ↦ grind (arith, nat_tests)
]

octet_back : (b : ℕ) → b < 256 → octet_of (hex_digit_value (digit_char (b / 16))) (hex_digit_value (digit_char (b % 16))) ≡ Some b
octet_back b h =
    let high : b / 16 < 16 = omega arith in
    let low : b % 16 < 16 = omega arith in
    let whole : 16 * (b / 16) + b % 16 ≡ b = omega arith in
    ap₂ octet_of (digit_value_of (b / 16) high) (digit_value_of (b % 16) low) ∙ ap Some whole

digit_stays : (d : ℕ) → d < 16 → (digit_char d == backslash) ≡ false
digit_stays d h = grind (arith, nat_tests)

plain_not_backslash : (b : ℕ) → is_escaped b ≡ false → (b == backslash) ≡ false
plain_not_backslash b h = grind (arith, nat_tests)

plain_not_control : (b : ℕ) → is_escaped b ≡ false → is_control b ≡ false
plain_not_control b h = grind (arith, nat_tests)

-- ---- a part of plain octets

is_clean : Text → Bool
is_clean p = nat_lt (position_or_len is_control p) (length p)

clean_from_read : (c : Bool) (at n : ℕ) (p t : Text) (rest : Result Text ℕ) → joined (at_place at p (cond c (Some n) None)) rest ≡ Ok t → c ≡ false
clean_from_read true at n p t rest h = cc
clean_from_read false at n p t rest h = refl

plain_ok : (at : ℕ) (p t : Text) (rest : Result Text ℕ) → joined (plain_at at p) rest ≡ Ok t → is_clean p ≡ false
unfolding is_clean
plain_ok at p t rest h = clean_from_read (nat_lt (position_or_len is_control p) (length p)) at (position_or_len is_control p) p t rest h

plain_is : (at : ℕ) (p : Text) → is_clean p ≡ false → plain_at at p ≡ Ok p
unfolding is_clean
plain_is at p h = ap (λ c. at_place at p (cond c (Some (position_or_len is_control p)) None)) h

clean_later : (n m : ℕ) → nat_lt n m ≡ false → nat_lt (1 + n) (suc m) ≡ false
clean_later n m h = grind (arith, nat_tests)

clean_cons : (b : ℕ) (p : Text) → is_control b ≡ false → is_clean p ≡ false → is_clean (b ∷ p) ≡ false
unfolding is_clean
clean_cons b p plain clean =
    ap (λ c. nat_lt (cond (not c) (1 + position_or_len is_control p) 0) (suc (length p))) plain
    ∙ clean_later (position_or_len is_control p) (length p) clean

joined_front : (b : ℕ) (p t : Text) (rest : Result Text ℕ) → joined (Ok p) rest ≡ Ok t → joined (Ok (b ∷ p)) rest ≡ Ok (b ∷ t)
joined_front b p t (Ok u) h = let e : p ++ u ≡ t = cc in ap (λ x. Ok (b ∷ x)) e
joined_front b p t (Err place) h = cc

joined_nothing : (r : Result Text ℕ) → joined (Ok []) r ≡ r
joined_nothing (Ok t) = refl
joined_nothing (Err place) = refl

-- what is read of the first part stands as it is
first_read : (at : ℕ) (p t : Text) (ps : List Text) → parts_at at (p ∷ ps) ≡ Ok t → joined (Ok p) (escapes_at (at + length p) ps) ≡ Ok t
first_read at p t ps h = ap (λ r. joined r (escapes_at (at + length p) ps)) (sym (plain_is at p (plain_ok at p t _ h))) ∙ h

plain_step : (b at : ℕ) (p t : Text) (ps : List Text) → is_control b ≡ false → parts_at (at + 1) (p ∷ ps) ≡ Ok t → parts_at at ((b ∷ p) ∷ ps) ≡ Ok (b ∷ t)
plain_step b at p t ps plain h =
    let place : at + suc (length p) ≡ at + 1 + length p = omega arith in
    ap (λ r. joined r (escapes_at (at + suc (length p)) ps)) (plain_is at (b ∷ p) (clean_cons b p plain (plain_ok (at + 1) p t _ h)))
    ∙ ap (λ n. joined (Ok (b ∷ p)) (escapes_at n ps)) place
    ∙ joined_front b p t (escapes_at (at + 1 + length p) ps) (first_read (at + 1) p t ps h)

escape_step : (b h l at : ℕ) (p t : Text) (ps : List Text) → octet_of (hex_digit_value h) (hex_digit_value l) ≡ Some b → parts_at (at + 3) (p ∷ ps) ≡ Ok t → parts_at at ([] ∷ (h ∷ l ∷ p) ∷ ps) ≡ Ok (b ∷ t)
escape_step b h l at p t ps octet r =
    let place : at + 0 + suc (suc (length p)) + 1 ≡ at + 3 + length p = omega arith in
    let clean = plain_ok (at + 3) p t _ r in
    joined_nothing (joined (octet_before (at + 0) (octet_of (hex_digit_value h) (hex_digit_value l)) (plain_at (at + 0 + 3) p)) (escapes_at (at + 0 + suc (suc (length p)) + 1) ps))
    ∙ ap (λ o. joined (octet_before (at + 0) o (plain_at (at + 0 + 3) p)) (escapes_at (at + 0 + suc (suc (length p)) + 1) ps)) octet
    ∙ ap (λ q. joined (octet_before (at + 0) (Some b) q) (escapes_at (at + 0 + suc (suc (length p)) + 1) ps)) (plain_is (at + 0 + 3) p clean)
    ∙ ap (λ n. joined (Ok (b ∷ p)) (escapes_at n ps)) place
    ∙ joined_front b p t (escapes_at (at + 3 + length p) ps) (first_read (at + 3) p t ps r)

-- ---- cuts

record Cut (t : Text) : Type 0 where
  first : Text
  others : List Text
  is : split t ≡ first ∷ others

kept : (x : ℕ) (t : Text) → (x == backslash) ≡ false → Cut t → Cut (x ∷ t)
unfolding split
kept x t h c = record { first = x ∷ c.first; others = c.others; is = slice_split-cons_no (λ b. b == backslash) x t h ∙ ap (onto_first x) c.is }

cut : (t : Text) → Cut t
unfolding split
cut [] = record { first = []; others = []; is = refl }
cut (x ∷ t) = elim (cases_Bool (x == backslash)) [
  | inl same ↦ record { first = []; others = split t; is = slice_split-cons_yes (λ b. b == backslash) x t same }
  | inr other ↦ kept x t other (cut t)
]

one : ℕ → Bool → Text
one b c = if c then backslash ∷ digit_char (b / 16) ∷ digit_char (b % 16) ∷ [] else b ∷ []

plain_case : (b at : ℕ) (t rest : Text) → is_escaped b ≡ false → parts_at (at + 1) (split rest) ≡ Ok t → parts_at at (split (b ∷ rest)) ≡ Ok (b ∷ t)
unfolding kept cut
plain_case b at t rest e h =
    let c = cut rest in
    let d = kept b rest (plain_not_backslash b e) c in
    ap (parts_at at) d.is ∙ plain_step b at c.first t c.others (plain_not_control b e) (ap (parts_at (at + 1)) (sym c.is) ∙ h)

escaped_case : (b at : ℕ) (t rest : Text) → b < 256 → parts_at (at + 3) (split rest) ≡ Ok t → parts_at at (split (backslash ∷ digit_char (b / 16) ∷ digit_char (b % 16) ∷ rest)) ≡ Ok (b ∷ t)
unfolding split kept cut
escaped_case b at t rest small h =
    let high : b / 16 < 16 = omega arith in
    let low : b % 16 < 16 = omega arith in
    let c = cut rest in
    let d = kept (digit_char (b % 16)) rest (digit_stays (b % 16) low) c in
    let e = kept (digit_char (b / 16)) (digit_char (b % 16) ∷ rest) (digit_stays (b / 16) high) d in
    ap (parts_at at) (slice_split-cons_yes (λ x. x == backslash) backslash (digit_char (b / 16) ∷ digit_char (b % 16) ∷ rest) refl)
    ∙ ap (λ ts. parts_at at ([] ∷ ts)) e.is
    ∙ escape_step b (digit_char (b / 16)) (digit_char (b % 16)) at c.first t c.others (octet_back b small) (ap (parts_at (at + 3)) (sym c.is) ∙ h)

pub resolved_escaped : (at : ℕ) (text : Text) → AllByRecursion (λ b. b < 256) text → resolved at (escaped text) ≡ Ok text
unfolding split one
resolved_escaped at [] h = refl
resolved_escaped at (b ∷ t) h = elim (cases_Bool (is_escaped b)) [
  | inl e ↦ ap (λ c. resolved at (one b c ++ escaped t)) e ∙ escaped_case b at t (escaped t) h.0 (resolved_escaped (at + 3) t h.1)
  | inr e ↦ ap (λ c. resolved at (one b c ++ escaped t)) e ∙ plain_case b at t (escaped t) e (resolved_escaped (at + 1) t h.1)
]

-- so is a value that is a text, by its type's kind
pub text_read_back : (type : TypeRef) (text : Text) → AllByRecursion (λ b. b < 256) text → value_of_text type (text_of_value (TextValue text)) ≡ value_of_resolved (kind_of_type type) (Ok text)
text_read_back type text h = ap (value_of_resolved (kind_of_type type)) (resolved_escaped 0 text h)
