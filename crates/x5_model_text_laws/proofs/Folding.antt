-- Folded texts: they're folded already, and dropping characters of ASCII keeps them so.
use Rattle.std.proofs.Common.{◌≡◌, ℕ, ◌+◌, ◌/◌, ◌%◌, ◌<◌, ◌≤◌, Bool, true, ◌&&◌, ◌==◌, not, List, [], ◌∷◌, ◌++◌, nat_le, IsUtf8, refl, sym, ap, ap₂, ◌∙◌, inl, inr, arith}
use Rattle.std.proofs.lemmas.Bool.{cases_lt, ltb-true, and_parts, and_from, cond_both, ne_eqb, eq-eqb, le-leb, leb-true}
use Rattle.std.proofs.lemmas.List.Folds.{list_all-append}
use Rattle.std.proofs.lemmas.Str.{chars-encodes, encode_ascii, scalars-chars}
use Rattle.std.specs.List.{list_all}
use Rattle.std.specs.Str.{chars}
use Rattle.ucd_table.proofs.GroupsCheck.{same_string, same_string-true}
use Rattle.ucd_case.specs.CaseFolding.{full_folding, full_fold, or_itself}
use Rattle.caseless.specs.Caseless.{default_case_fold}
use lib.Dec.{ltb}
use lib.Utf8.{encode, encodes, scalar, scalars}
use Rattle.x5_model.specs.Values.{Text}
use Rattle.x5_model.specs.Normal.{is_control, folded}
use Rattle.x5_model_text_laws.proofs.FoldTable.{is_fold, are_folds, folds}
use Rattle.x5_model_text_laws.proofs.Pieces.{all_of, is_free}

-- ---- characters

abbrev pub is_stable : ℕ → Bool
is_stable c = same_string (full_fold c) (c ∷ []) && scalar c

pub stable_fold : (c : ℕ) → is_stable c ≡ true → full_fold c ≡ c ∷ []
stable_fold c h = same_string-true (full_fold c) (c ∷ []) (and_parts (same_string (full_fold c) (c ∷ [])) (scalar c) h).0

stable_all : (cs : List ℕ) → are_folds full_folding cs ≡ true → list_all is_stable cs ≡ true
stable_all [] h = refl
stable_all (c ∷ cs) h =
    let parts = and_parts (is_fold full_folding c) (are_folds full_folding cs) h in
    let one = and_parts (same_string (full_fold c) (c ∷ [])) (scalar c && not (is_control c)) parts.0 in
    ap₂ ◌&&◌ (and_from (same_string (full_fold c) (c ∷ [])) (scalar c) one.0 (and_parts (scalar c) (not (is_control c)) one.1).0) (stable_all cs parts.1)

itself_same : (c : ℕ) (v : List ℕ) → full_folding c ≡ v → same_string (or_itself c v) (c ∷ []) ≡ true → same_string (full_fold c) (c ∷ []) ≡ true
itself_same c v e h = ap (λ l. same_string (or_itself c l) (c ∷ [])) e ∙ h

same_itself : (c : ℕ) → same_string (c ∷ []) (c ∷ []) ≡ true
unfolding same_string
same_itself c = ap (λ b. b && true) (eq-eqb c c refl)

fold_stable : (c : ℕ) (v : List ℕ) → scalar c ≡ true → full_folding c ≡ v → are_folds full_folding v ≡ true → list_all is_stable (or_itself c v) ≡ true
fold_stable c [] s e h = ap (λ b. b && true) (and_from (same_string (full_fold c) (c ∷ [])) (scalar c) (itself_same c [] e (same_itself c)) s)
fold_stable c (x ∷ xs) s e h = stable_all (x ∷ xs) h

folds_stable : (cs : List ℕ) → scalars cs ≡ true → list_all is_stable (default_case_fold cs) ≡ true
unfolding default_case_fold
folds_stable [] h = refl
folds_stable (c ∷ cs) h =
    let parts = and_parts (scalar c) (scalars cs) h in
    list_all-append is_stable (full_fold c) (default_case_fold cs)
    ∙ ap₂ ◌&&◌ (fold_stable c (full_folding c) parts.0 refl (folds c)) (folds_stable cs parts.1)

stable_folds : (cs : List ℕ) → list_all is_stable cs ≡ true → default_case_fold cs ≡ cs
unfolding default_case_fold
stable_folds [] h = refl
stable_folds (c ∷ cs) h =
    let parts = and_parts (is_stable c) (list_all is_stable cs) h in
    ap₂ ◌++◌ (stable_fold c parts.0) (stable_folds cs parts.1)

stable_scalars : (cs : List ℕ) → list_all is_stable cs ≡ true → scalars cs ≡ true
stable_scalars [] h = refl
stable_scalars (c ∷ cs) h =
    let parts = and_parts (is_stable c) (list_all is_stable cs) h in
    ap₂ ◌&&◌ (and_parts (same_string (full_fold c) (c ∷ [])) (scalar c) parts.0).1 (stable_scalars cs parts.1)

-- ---- texts

pub record Stable (t : Text) : Type 0 where
  pub characters : List ℕ
  pub stable : list_all is_stable characters ≡ true
  pub text : encodes characters ≡ t

pub folded_stable : (t : Text) → IsUtf8 t → Stable (folded t)
unfolding folded
folded_stable t h = record {
  characters = default_case_fold (chars t);
  stable = folds_stable (chars t) (scalars-chars t h);
  text = refl;
}

pub stable_folded : (t : Text) → Stable t → folded t ≡ t
unfolding folded
stable_folded t s =
    ap (λ u. encodes (default_case_fold (chars u))) (sym s.text)
    ∙ ap (λ cs. encodes (default_case_fold cs)) (chars-encodes s.characters (stable_scalars s.characters s.stable))
    ∙ ap encodes (stable_folds s.characters s.stable)
    ∙ s.text

pub stable_nil : Stable []
stable_nil = record { characters = []; stable = refl; text = refl }

pub stable_cons : (c : ℕ) (t : Text) → is_stable c ≡ true → Stable t → Stable (encode c ++ t)
stable_cons c t h s = record {
  characters = c ∷ s.characters;
  stable = ap₂ ◌&&◌ h s.stable;
  text = ap (λ u. encode c ++ u) s.text;
}

-- ---- the octets of a character beyond ASCII are none of ASCII

abbrev pub is_high : ℕ → Bool
is_high b = nat_le 128 b

high_two : (a b : ℕ) → 128 ≤ a → 128 ≤ b → list_all is_high (a ∷ b ∷ []) ≡ true
high_two a b h i = ap₂ ◌&&◌ (le-leb 128 a h) (ap (λ t. t && true) (le-leb 128 b i))

high_three : (a b c : ℕ) → 128 ≤ a → 128 ≤ b → 128 ≤ c → list_all is_high (a ∷ b ∷ c ∷ []) ≡ true
high_three a b c h i j = ap₂ ◌&&◌ (le-leb 128 a h) (high_two b c i j)

pub encode_high : (c : ℕ) → 128 ≤ c → list_all is_high (encode c) ≡ true
unfolding encode
encode_high c high =
    cond_both (ltb c 128) _ _ (λ t. list_all is_high t ≡ true) (λ e. absurd (let low = ltb-true c 128 e in omega arith))
    (λ e. cond_both (ltb c 2048) _ _ (λ t. list_all is_high t ≡ true) (λ f. high_two (192 + c / 64) (128 + c % 64) (omega arith) (omega arith))
    (λ f. cond_both (ltb c 65536) _ _ (λ t. list_all is_high t ≡ true) (λ g. high_three (224 + c / 4096) (128 + c / 64 % 64) (128 + c % 64) (omega arith) (omega arith) (omega arith))
    (λ g. ap₂ ◌&&◌ (le-leb 128 (240 + c / 262144) (omega arith)) (high_three (128 + c / 4096 % 64) (128 + c / 64 % 64) (128 + c % 64) (omega arith) (omega arith) (omega arith)))))

-- a test that a character passes, and each octet beyond ASCII, holds of the character's octets
pub encode_all : (test : ℕ → Bool) (c : ℕ) → test c ≡ true → ((b : ℕ) → is_high b ≡ true → test b ≡ true) → list_all test (encode c) ≡ true
encode_all test c h above = elim (cases_lt c 128) [
  | inl low ↦ ap (list_all test) (encode_ascii c low) ∙ ap (λ t. t && true) h
  | inr high ↦ all_of is_high test above (encode c) (encode_high c high)
]

pub encode_free : (c x : ℕ) → x < 128 → (c ≡ x → ⊥) → is_free x (encode c) ≡ true
encode_free c x low other =
    encode_all (λ b. not (b == x)) c (ap not (ne_eqb c x other)) (λ b h. ap not (ne_eqb b x (let high = leb-true 128 b h in λ e. omega (arith, e, high))))
