-- The keyword of a type that may name, as a word of LDAP: it's the type, and has no octet that cuts a name.
use Rattle.std.proofs.Common.{◌≡◌, ℕ, Bool, true, false, not, ◌&&◌, ◌||◌, ◌==◌, cond, List, [], ◌∷◌, ◌++◌, map}
use Rattle.std.proofs.Common.{Option, None, Some, refl, sym, ap, ap₂, ◌∙◌, inl, inr}
use Rattle.std.proofs.lemmas.Bool.{cases_Bool, and_parts, eqb-true}
use Rattle.std.proofs.lemmas.List.{append-nil}
use Rattle.std.specs.List.{find, list_all, list_any, before_first, after_first}
use Rattle.x5_model.specs.Values.{Text, TypeRef, Known, Unknown}
use Rattle.x5_model.specs.Types.{Row, table, row_of, in_row, may_name}
use Rattle.x5_model_text.specs.TypeText.{keyword_of}
use Rattle.x5_model_ldap.specs.Texts.{type_of_word}
use Rattle.x5_model_ldap.specs.Names.{Cell, cell, is_bare, octets_of}
use Rattle.x5_model_ldap.proofs.Cells.{text_of_cells, is_good, is_sound}

abbrev is_number : ℕ → TypeRef → Bool
is_number n (Known m) = m == n
is_number n (Unknown arcs) = false

number_is : (n : ℕ) (t : TypeRef) → is_number n t ≡ true → t ≡ Known n
number_is n (Known m) h = ap Known (eqb-true m n h)
number_is n (Unknown arcs) h = absurd (cc h)

-- an octet of a word, which nothing in a name is cut at
abbrev pub is_inner : Cell → Bool
is_inner c = is_good c && not (is_bare 61 c) && not c.escaped

abbrev pub word_cells : Text → List Cell
word_cells w = map (cell false) w

abbrev is_fit : Row → Bool
is_fit r = is_number r.number (type_of_word r.keyword) && list_all is_inner (word_cells r.keyword)

all_fit : list_all is_fit table ≡ true
all_fit = refl

some_row : (x y : Row) → (let o : Option Row = Some x in o) ≡ Some y → x ≡ y
some_row x y h = cc

found : (test g : Row → Bool) (rows : List Row) (r : Row) → list_all test rows ≡ true → find g rows ≡ Some r
    → (test r ≡ true) × (g r ≡ true)
found test g [] r all h = absurd (cc h)
found test g (x ∷ xs) r all h =
    let parts = and_parts (test x) (list_all test xs) all in
    elim (cases_Bool (g x)) [
      | inl here ↦
          let same : x ≡ r = some_row x r (sym (ap (λ b. cond b (Some x) (find g xs)) here) ∙ h) in
          (ap test (sym same) ∙ parts.0, ap g (sym same) ∙ here)
      | inr later ↦ found test g xs r parts.1 (sym (ap (λ b. cond b (Some x) (find g xs)) later) ∙ h)
    ]

pub record Word (n : ℕ) : Type 0 where
  pub type : type_of_word (keyword_of n) ≡ Known n
  pub inner : list_all is_inner (word_cells (keyword_of n)) ≡ true

by_row : (n : ℕ) (o : Option Row) → row_of n ≡ o → in_row false (λ r. r.names) o ≡ true → Word n
by_row n None e h = absurd (cc h)
by_row n (Some r) e h =
    let facts = found is_fit (λ x. x.number == n) table r all_fit e in
    let number : r.number ≡ n = eqb-true r.number n facts.1 in
    let parts = and_parts (is_number r.number (type_of_word r.keyword)) (list_all is_inner (word_cells r.keyword))
    facts.0 in
    let word : r.keyword ≡ keyword_of n = sym (ap (in_row [] (λ x. x.keyword)) e) in
    record {
      type = ap type_of_word (sym word) ∙ number_is r.number (type_of_word r.keyword) parts.0 ∙ ap Known number;
      inner = ap (λ w. list_all is_inner (word_cells w)) (sym word) ∙ parts.1;
    }

pub word_of : (n : ℕ) → may_name n ≡ true → Word n
word_of n h = by_row n (row_of n) refl h

pub word_text : (w : Text) → text_of_cells (word_cells w) ≡ w
word_text [] = refl
word_text (b ∷ w) = ap (λ t. b ∷ t) (word_text w)

pub word_octets : (w : Text) → octets_of (word_cells w) ≡ w
word_octets [] = refl
word_octets (b ∷ w) = ap (λ t. b ∷ t) (word_octets w)

-- ---- lists of cells, cut at a bare octet
pub all_so : (test other : Cell → Bool) → ((c : Cell) → test c ≡ true → other c ≡ true) → (cs : List Cell)
    → list_all test cs ≡ true → list_all other cs ≡ true
all_so test other f [] h = refl
all_so test other f (c ∷ cs) h =
    let parts = and_parts (test c) (list_all test cs) h in
    ap₂ ◌&&◌ (f c parts.0) (all_so test other f cs parts.1)
