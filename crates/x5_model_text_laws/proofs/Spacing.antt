-- Spaces dropped and runs made one: doing it twice is doing it once, and folded texts stay folded.
use Rattle.std.proofs.Common.{◌≡◌, ℕ, ◌≤◌, Bool, true, false, ◌&&◌, ◌||◌, ◌==◌, not, if◌then◌else◌, List, [], ◌∷◌, ◌++◌, length, filter, refl, sym, ap, ap₂, subst, ◌∙◌, inl, inr, append-nil, lit<, arith}
use Rattle.std.proofs.lemmas.Bool.{cases_Bool, cases_eq, and_parts, not-true, or_from, or_parts}
use Rattle.std.proofs.lemmas.Str.{encode_ascii, length-encode, len_utf8_bounds}
use Rattle.std.specs.List.{list_all}
use lib.Utf8.{encode, encodes}
use Rattle.x5_model.specs.Values.{Text}
use Rattle.x5_model.specs.Normal.{is_space, without_leading, drops_space_before, single_spaced, spaced, is_dialled}
use Rattle.x5_model_text_laws.proofs.Folding.{is_stable, Stable, stable_nil, stable_cons, encode_free}
use Rattle.x5_model_text_laws.proofs.Pieces.{is_free}

-- ---- what each octet is stays, whatever is dropped

one_or_more : (test : ℕ → Bool) (drops : Bool) (b : ℕ) (s u : Text) → test b ≡ true → list_all test s ≡ true → list_all test u ≡ true → list_all test (if drops then s else b ∷ u) ≡ true
one_or_more test true b s u one all rest = all
one_or_more test false b s u one all rest = ap₂ ◌&&◌ one rest

leading_all : (test : ℕ → Bool) (t : Text) → list_all test t ≡ true → list_all test (without_leading t) ≡ true
leading_all test [] h = refl
leading_all test (b ∷ t) h =
    let parts = and_parts (test b) (list_all test t) h in
    one_or_more test (is_space b) b (without_leading t) t parts.0 (leading_all test t parts.1) parts.1

single_all : (test : ℕ → Bool) (last : Bool) (t : Text) → list_all test t ≡ true → list_all test (single_spaced last t) ≡ true
single_all test last [] h = refl
single_all test last (b ∷ t) h =
    let parts = and_parts (test b) (list_all test t) h in
    let rest = single_all test last t parts.1 in
    one_or_more test (is_space b && drops_space_before last t) b (single_spaced last t) (single_spaced last t) parts.0 rest rest

pub spaced_all : (test : ℕ → Bool) (first last : Bool) (t : Text) → list_all test t ≡ true → list_all test (spaced first last t) ≡ true
spaced_all test true last t h = single_all test last (without_leading t) (leading_all test t h)
spaced_all test false last t h = single_all test last t h

-- ---- twice is once

abbrev cut : Bool → ℕ → Text → Text → Text
cut drops b s u = if drops then s else b ∷ u

single_twice : (last : Bool) (t : Text) → single_spaced last (single_spaced last t) ≡ single_spaced last t
single_twice last [] = refl
single_twice last (b ∷ t) = elim (cases_Bool (is_space b && drops_space_before last t)) [
  | inl drops ↦
      ap (λ d. single_spaced last (cut d b (single_spaced last t) (single_spaced last t))) drops ∙ single_twice last t
      ∙ sym (ap (λ d. cut d b (single_spaced last t) (single_spaced last t)) drops)
  | inr keeps ↦
      ap (λ d. single_spaced last (cut d b (single_spaced last t) (single_spaced last t))) keeps
      ∙ ap (λ d. cut d b (single_spaced last (single_spaced last t)) (single_spaced last (single_spaced last t))) (still b t keeps)
      ∙ ap (λ u. b ∷ u) (single_twice last t)
      ∙ sym (ap (λ d. cut d b (single_spaced last t) (single_spaced last t)) keeps)
]
  where
    behind : (t : Text) → drops_space_before last t ≡ false → drops_space_before last (single_spaced last t) ≡ false
    behind [] h = h
    behind (c ∷ u) h =
        ap (λ d. drops_space_before last (cut (d && drops_space_before last u) c (single_spaced last u) (single_spaced last u))) h ∙ h

    still : (b : ℕ) (t : Text) → (is_space b && drops_space_before last t) ≡ false → (is_space b && drops_space_before last (single_spaced last t)) ≡ false
    still b t h = by (is_space b) h
      where
        by : (s : Bool) → (s && drops_space_before last t) ≡ false → (s && drops_space_before last (single_spaced last t)) ≡ false
        by true k = behind t k
        by false k = refl

-- what begins with no space keeps its beginning
abbrev begins : Text → Bool
begins [] = true
begins (b ∷ t) = not (is_space b)

leading_begins : (t : Text) → begins (without_leading t) ≡ true
leading_begins [] = refl
leading_begins (b ∷ t) = elim (cases_Bool (is_space b)) [
  | inl space ↦ ap (λ d. begins (cut d b (without_leading t) t)) space ∙ leading_begins t
  | inr other ↦ ap (λ d. begins (cut d b (without_leading t) t)) other ∙ ap not other
]

begins_single : (last : Bool) (t : Text) → begins t ≡ true → begins (single_spaced last t) ≡ true
begins_single last [] h = refl
begins_single last (b ∷ t) h =
    let other : is_space b ≡ false = not-true (is_space b) h in
    ap (λ d. begins (cut (d && drops_space_before last t) b (single_spaced last t) (single_spaced last t))) other ∙ h

begins_stands : (t : Text) → begins t ≡ true → without_leading t ≡ t
begins_stands [] h = refl
begins_stands (b ∷ t) h = ap (λ d. cut d b (without_leading t) t) (not-true (is_space b) h)

pub spaced_twice : (first last : Bool) (t : Text) → spaced first last (spaced first last t) ≡ spaced first last t
spaced_twice true last t =
    let u = without_leading t in
    ap (single_spaced last) (begins_stands (single_spaced last u) (begins_single last u (leading_begins t))) ∙ single_twice last u
spaced_twice false last t = single_twice last t

-- ---- a text without spaces

free_single : (last : Bool) (t u : Text) → is_free 32 t ≡ true → single_spaced last (t ++ u) ≡ t ++ single_spaced last u
free_single last [] u h = refl
free_single last (b ∷ t) u h =
    let parts = and_parts (not (b == 32)) (is_free 32 t) h in
    ap (λ d. cut (d && drops_space_before last (t ++ u)) b (single_spaced last (t ++ u)) (single_spaced last (t ++ u))) (not-true (b == 32) parts.0)
    ∙ ap (λ v. b ∷ v) (free_single last t u parts.1)

free_begins : (t : Text) → is_free 32 t ≡ true → begins t ≡ true
free_begins [] h = refl
free_begins (b ∷ t) h = (and_parts (not (b == 32)) (is_free 32 t) h).0

single_free : (last : Bool) (t : Text) → is_free 32 t ≡ true → single_spaced last t ≡ t
single_free last t h = ap (single_spaced last) (sym (append-nil t)) ∙ free_single last t [] h ∙ append-nil t

pub spaced_free : (first last : Bool) (t : Text) → is_free 32 t ≡ true → spaced first last t ≡ t
spaced_free true last t h = ap (single_spaced last) (begins_stands t (free_begins t h)) ∙ single_free last t h
spaced_free false last t h = single_free last t h

-- ---- folded texts stay folded

space_first : (c : ℕ) → c ≡ 32 → (t : Text) → encode c ++ t ≡ 32 ∷ t
space_first c e t = ap (λ x. encode x ++ t) e ∙ ap (λ u. u ++ t) (encode_ascii 32 (lit< tt))

record Encoded (c : ℕ) : Type 0 where
  head : ℕ
  rest : Text
  is : encode c ≡ head ∷ rest

encoded : (c : ℕ) → Encoded c
encoded c = by (encode c) refl (let e = length-encode c in let b = len_utf8_bounds c in omega (arith, e, b.0))
  where
    by : (t : Text) → encode c ≡ t → 1 ≤ length t → Encoded c
    by [] e some = absurd (omega arith)
    by (x ∷ t) e some = record { head = x; rest = t; is = e }

ahead : (b : ℕ) (t : Text) → (b == 32) ≡ false → without_leading (b ∷ t) ≡ b ∷ t
ahead b t h = ap (λ d. cut d b (without_leading t) t) h

char_ahead : (c : ℕ) (t : Text) → (c ≡ 32 → ⊥) → without_leading (encode c ++ t) ≡ encode c ++ t
char_ahead c t other =
    let e = encoded c in
    let free : is_free 32 (e.head ∷ e.rest) ≡ true = ap (is_free 32) (sym e.is) ∙ encode_free c 32 (lit< tt) other in
    let first = not-true (e.head == 32) (and_parts (not (e.head == 32)) (is_free 32 e.rest) free).0 in
    ap (λ p. without_leading (p ++ t)) e.is ∙ ahead e.head (e.rest ++ t) first ∙ ap (λ p. p ++ t) (sym e.is)

stable_leading : (cs : List ℕ) → list_all is_stable cs ≡ true → Stable (without_leading (encodes cs))
stable_leading [] h = stable_nil
stable_leading (c ∷ cs) h =
    let parts = and_parts (is_stable c) (list_all is_stable cs) h in
    elim (cases_eq c 32) [
      | inl space ↦ subst (λ t. Stable (without_leading t)) (sym (space_first c space (encodes cs))) (stable_leading cs parts.1)
      | inr other ↦ subst Stable (sym (char_ahead c (encodes cs) other)) (record { characters = c ∷ cs; stable = h; text = refl })
    ]

stable_space : (drops : Bool) (c : ℕ) (t : Text) → c ≡ 32 → is_stable c ≡ true → Stable t → Stable (cut drops 32 t t)
stable_space true c t e h s = s
stable_space false c t e h s = subst Stable (space_first c e t) (stable_cons c t h s)

stable_single : (last : Bool) (cs : List ℕ) → list_all is_stable cs ≡ true → Stable (single_spaced last (encodes cs))
stable_single last [] h = stable_nil
stable_single last (c ∷ cs) h =
    let parts = and_parts (is_stable c) (list_all is_stable cs) h in
    let rest = stable_single last cs parts.1 in
    elim (cases_eq c 32) [
      | inl space ↦ subst (λ t. Stable (single_spaced last t)) (sym (space_first c space (encodes cs))) (stable_space (drops_space_before last (encodes cs)) c (single_spaced last (encodes cs)) space parts.0 rest)
      | inr other ↦ subst Stable (sym (free_single last (encode c) (encodes cs) (encode_free c 32 (lit< tt) other))) (stable_cons c (single_spaced last (encodes cs)) parts.0 rest)
    ]

single_stable : (last : Bool) (t : Text) → Stable t → Stable (single_spaced last t)
single_stable last t s = subst (λ u. Stable (single_spaced last u)) s.text (stable_single last s.characters s.stable)

pub spaced_stable : (first last : Bool) (t : Text) → Stable t → Stable (spaced first last t)
spaced_stable true last t s = single_stable last (without_leading t) (subst (λ u. Stable (without_leading u)) s.text (stable_leading s.characters s.stable))
spaced_stable false last t s = single_stable last t s

-- ---- what is dialled

filtered : (test : ℕ → Bool) (t u : Text) → list_all test t ≡ true → filter test (t ++ u) ≡ t ++ filter test u
filtered test [] u h = refl
filtered test (b ∷ t) u h =
    let parts = and_parts (test b) (list_all test t) h in
    ap (λ d. if d then b ∷ filter test (t ++ u) else filter test (t ++ u)) parts.0 ∙ ap (λ v. b ∷ v) (filtered test t u parts.1)

pub filter_stands : (test : ℕ → Bool) (t : Text) → list_all test t ≡ true → filter test t ≡ t
filter_stands test t h = ap (filter test) (sym (append-nil t)) ∙ filtered test t [] h ∙ append-nil t

pub filter_passes : (test : ℕ → Bool) (t : Text) → list_all test (filter test t) ≡ true
filter_passes test [] = refl
filter_passes test (b ∷ t) = elim (cases_Bool (test b)) [
  | inl yes_ ↦ ap (λ d. list_all test (if d then b ∷ filter test t else filter test t)) yes_ ∙ ap₂ ◌&&◌ yes_ (filter_passes test t)
  | inr no_ ↦ ap (λ d. list_all test (if d then b ∷ filter test t else filter test t)) no_ ∙ filter_passes test t
]

pub filter_all : (test keep : ℕ → Bool) (t : Text) → list_all test t ≡ true → list_all test (filter keep t) ≡ true
filter_all test keep [] h = refl
filter_all test keep (b ∷ t) h =
    let parts = and_parts (test b) (list_all test t) h in
    by (keep b) parts.0 (filter_all test keep t parts.1)
  where
    by : (k : Bool) → test b ≡ true → list_all test (filter keep t) ≡ true → list_all test (if k then b ∷ filter keep t else filter keep t) ≡ true
    by true one rest = ap₂ ◌&&◌ one rest
    by false one rest = rest

both_free : (t : Text) → is_free 32 t ≡ true → is_free 45 t ≡ true → list_all is_dialled t ≡ true
both_free [] h k = refl
both_free (b ∷ t) h k =
    let p = and_parts (not (b == 32)) (is_free 32 t) h in
    let q = and_parts (not (b == 45)) (is_free 45 t) k in
    ap₂ ◌&&◌ (ap not (or_from (b == 32) (b == 45) (not-true (b == 32) p.0) (not-true (b == 45) q.0))) (both_free t p.1 q.1)

stable_dialled : (cs : List ℕ) → list_all is_stable cs ≡ true → Stable (filter is_dialled (encodes cs))
stable_dialled [] h = stable_nil
stable_dialled (c ∷ cs) h =
    let parts = and_parts (is_stable c) (list_all is_stable cs) h in
    let rest = stable_dialled cs parts.1 in
    elim (cases_eq c 32) [
      | inl space ↦ subst (λ t. Stable (filter is_dialled t)) (sym (space_first c space (encodes cs))) rest
      | inr other ↦ elim (cases_eq c 45) [
        | inl hyphen ↦ subst (λ t. Stable (filter is_dialled t)) (sym (ap (λ x. encode x ++ encodes cs) hyphen ∙ ap (λ u. u ++ encodes cs) (encode_ascii 45 (lit< tt)))) rest
        | inr another ↦ subst Stable (sym (filtered is_dialled (encode c) (encodes cs) (both_free (encode c) (encode_free c 32 (lit< tt) other) (encode_free c 45 (lit< tt) another)))) (stable_cons c (filter is_dialled (encodes cs)) parts.0 rest)
      ]
    ]

pub dialled_stable : (t : Text) → Stable t → Stable (filter is_dialled t)
dialled_stable t s = subst (λ u. Stable (filter is_dialled u)) s.text (stable_dialled s.characters s.stable)

pub dialled_free : (t : Text) → list_all is_dialled t ≡ true → is_free 32 t ≡ true
dialled_free [] h = refl
dialled_free (b ∷ t) h =
    let parts = and_parts (is_dialled b) (list_all is_dialled t) h in
    let neither = or_parts (b == 32) (b == 45) (not-true ((b == 32) || (b == 45)) parts.0) in
    ap₂ ◌&&◌ (ap not neither.0) (dialled_free t parts.1)
