-- The keyword of a type that may name: it reads back, and it has no octet that cuts a name.
use Rattle.std.proofs.Common.{◌≡◌, ℕ, Bool, true, false, ◌&&◌, ◌==◌, if◌then◌else◌, cond, List, [], ◌∷◌, Option, None, Some, Ok, Err, refl, sym, ap, ◌∙◌, inl, inr, arith}
use Rattle.std.proofs.lemmas.Bool.{cases_Bool, and_parts, eqb-true}
use Rattle.std.proofs.lemmas.Bool.Decides.{nat_tests}
use Rattle.std.specs.Char.{is_ascii_alphabetic, is_ascii_digit, to_ascii_lowercase}
use Rattle.std.specs.Str.{str_eq_ignore_ascii_case}
use Rattle.std.specs.List.{find, list_all}
use Rattle.x5_model.specs.Values.{Text, TypeRef, Known, Unknown}
use Rattle.x5_model.specs.Types.{Row, table, row_of, in_row, is_known, may_name}
use Rattle.x5_model_text.specs.TypeText.{keyword_of, row_of_word, type_of_text}
use Rattle.x5_model_text.specs.NameText.{UnknownType, naming}
use Rattle.x5_model_text_laws.proofs.Pieces.{is_free}
use Rattle.x5_model_text_laws.proofs.Plain.{is_plain}

abbrev reads_as : Option TypeRef → ℕ → Bool
reads_as None n = false
reads_as (Some (Known m)) n = m == n
reads_as (Some (Unknown arcs)) n = false

reads : (o : Option TypeRef) (n : ℕ) → reads_as o n ≡ true → o ≡ Some (Known n)
reads None n h = cc
reads (Some (Known m)) n h = ap (λ k. Some (Known k)) (eqb-true m n h)
reads (Some (Unknown arcs)) n h = cc

abbrev is_fit : Row → Bool
is_fit r = reads_as (type_of_text r.keyword) r.number && (is_free 61 r.keyword && (is_free 47 r.keyword && (is_free 43 r.keyword && list_all is_plain r.keyword)))

all_fit : list_all is_fit table ≡ true
all_fit = refl

found : (test g : Row → Bool) (rows : List Row) (r : Row) → list_all test rows ≡ true → find g rows ≡ Some r → (test r ≡ true) × (g r ≡ true)
found test g [] r all h = cc
found test g (x ∷ xs) r all h =
    let parts = and_parts (test x) (list_all test xs) all in
    elim (cases_Bool (g x)) [
      | inl here ↦
          let same : x ≡ r = some_of (sym (ap (λ b. cond b (Some x) (find g xs)) here) ∙ h) in
          (ap test (sym same) ∙ parts.0, ap g (sym same) ∙ here)
      | inr later ↦ found test g xs r parts.1 (sym (ap (λ b. cond b (Some x) (find g xs)) later) ∙ h)
    ]
  where
    some_of : {x y : Row} → Some x ≡ Some y → x ≡ y
    some_of e = cc

pub record Keyword (n : ℕ) : Type 0 where
  pub type : type_of_text (keyword_of n) ≡ Some (Known n)
  pub no_equals : is_free 61 (keyword_of n) ≡ true
  pub no_slash : is_free 47 (keyword_of n) ≡ true
  pub no_plus : is_free 43 (keyword_of n) ≡ true
  pub plain : list_all is_plain (keyword_of n) ≡ true

by_row : (n : ℕ) (o : Option Row) → row_of n ≡ o → in_row false (λ r. true) o ≡ true → Keyword n
by_row n None e h = cc
by_row n (Some r) e h =
    let facts = found is_fit (λ x. x.number == n) table r all_fit e in
    let number : r.number ≡ n = eqb-true r.number n facts.1 in
    let first = and_parts (reads_as (type_of_text r.keyword) r.number) _ facts.0 in
    let second = and_parts (is_free 61 r.keyword) _ first.1 in
    let third = and_parts (is_free 47 r.keyword) _ second.1 in
    let fourth = and_parts (is_free 43 r.keyword) (list_all is_plain r.keyword) third.1 in
    let word : r.keyword ≡ keyword_of n = sym (ap (in_row [] (λ x. x.keyword)) e) in
    record {
      type = ap type_of_text (sym word) ∙ reads (type_of_text r.keyword) r.number first.0 ∙ ap (λ m. Some (Known m)) number;
      no_equals = ap (is_free 61) (sym word) ∙ second.0;
      no_slash = ap (is_free 47) (sym word) ∙ third.0;
      no_plus = ap (is_free 43) (sym word) ∙ fourth.0;
      plain = ap (list_all is_plain) (sym word) ∙ fourth.1;
    }

pub known_keyword : (n : ℕ) → is_known n ≡ true → Keyword n
known_keyword n h = by_row n (row_of n) refl h

naming_known : (o : Option Row) → in_row false (λ r. r.names) o ≡ true → in_row false (λ r. true) o ≡ true
naming_known None h = cc
naming_known (Some r) h = refl

pub keyword : (n : ℕ) → may_name n ≡ true → Keyword n
keyword n h = known_keyword n (naming_known (row_of n) h)

pub keyword_names : (n : ℕ) → may_name n ≡ true → naming (type_of_text (keyword_of n)) ≡ Ok n
keyword_names n h = ap naming (keyword n h).type ∙ ap (λ b. if b then Ok n else Err UnknownType) h

-- a word that is read as a keyword is one of the table
all_known : list_all (λ r. is_known r.number) table ≡ true
all_known = refl

pub row_known : (word : Text) (r : Row) → row_of_word word ≡ Some r → is_known r.number ≡ true
row_known word r h = (found (λ x. is_known x.number) (λ x. str_eq_ignore_ascii_case word x.keyword) table r all_known h).0

-- no word that begins with a digit is a keyword
abbrev pub begins_with_digit : Text → Bool
begins_with_digit [] = false
begins_with_digit (b ∷ t) = is_ascii_digit b

abbrev begins_with_letter : Text → Bool
begins_with_letter [] = false
begins_with_letter (b ∷ t) = is_ascii_alphabetic b

all_letters : list_all (λ r. begins_with_letter r.keyword) table ≡ true
all_letters = refl

digit_no_letter : (d l : ℕ) → is_ascii_digit d ≡ true → is_ascii_alphabetic l ≡ true → (to_ascii_lowercase d == to_ascii_lowercase l) ≡ false
digit_no_letter d l h k = grind (arith, nat_tests)

apart : (word keyword_ : Text) → begins_with_digit word ≡ true → begins_with_letter keyword_ ≡ true → str_eq_ignore_ascii_case word keyword_ ≡ false
apart [] k h i = cc
apart (d ∷ word) [] h i = cc
apart (d ∷ word) (l ∷ k) h i = ap (λ b. b && str_eq_ignore_ascii_case word k) (digit_no_letter d l h i)

none_found : (word : Text) (rows : List Row) → begins_with_digit word ≡ true → list_all (λ r. begins_with_letter r.keyword) rows ≡ true → find (λ r. str_eq_ignore_ascii_case word r.keyword) rows ≡ None
none_found word [] h all = refl
none_found word (r ∷ rows) h all =
    let parts = and_parts (begins_with_letter r.keyword) (list_all (λ x. begins_with_letter x.keyword) rows) all in
    ap (λ b. cond b (Some r) (find (λ x. str_eq_ignore_ascii_case word x.keyword) rows)) (apart word r.keyword h parts.0) ∙ none_found word rows h parts.1

pub digit_no_keyword : (word : Text) → begins_with_digit word ≡ true → row_of_word word ≡ None
digit_no_keyword word h = none_found word table h all_letters
