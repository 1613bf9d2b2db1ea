-- A text that is joined from pieces is cut into them again, where no piece has the octet at which it's cut; tests of all octets.
use Rattle.std.proofs.Common.{◌≡◌, ℕ, Bool, true, ◌&&◌, ◌==◌, not, List, [], ◌∷◌, ◌++◌, refl, ap, ap₂, ◌∙◌}
use Rattle.std.proofs.lemmas.Bool.{and_parts, not-true, eq-eqb}
use Rattle.std.proofs.lemmas.List.Splits.{slice_split-cons_yes, slice_split-cons_no}
use Rattle.std.specs.List.{list_all, slice_split, onto_first, join_with_byte}
use Rattle.x5_model.specs.Values.{Text}

-- what each octet is by one test it is by another
pub all_of : (test other : ℕ → Bool) → ((b : ℕ) → test b ≡ true → other b ≡ true) → (t : Text) → list_all test t ≡ true → list_all other t ≡ true
all_of test other f [] h = refl
all_of test other f (b ∷ t) h =
    let parts = and_parts (test b) (list_all test t) h in
    ap₂ ◌&&◌ (f b parts.0) (all_of test other f t parts.1)

abbrev pub is_free : ℕ → Text → Bool
is_free c t = list_all (λ b. not (b == c)) t

pub cut_all : (c : ℕ) (t : Text) → is_free c t ≡ true → slice_split (λ b. b == c) t ≡ t ∷ []
cut_all c [] h = refl
cut_all c (b ∷ t) h =
    let parts = and_parts (not (b == c)) (is_free c t) h in
    slice_split-cons_no (λ x. x == c) b t (not-true (b == c) parts.0) ∙ ap (onto_first b) (cut_all c t parts.1)

pub cut_first : (c : ℕ) (t u : Text) → is_free c t ≡ true → slice_split (λ b. b == c) (t ++ c ∷ u) ≡ t ∷ slice_split (λ b. b == c) u
cut_first c [] u h = slice_split-cons_yes (λ x. x == c) c u (eq-eqb c c refl)
cut_first c (b ∷ t) u h =
    let parts = and_parts (not (b == c)) (is_free c t) h in
    slice_split-cons_no (λ x. x == c) b (t ++ c ∷ u) (not-true (b == c) parts.0) ∙ ap (onto_first b) (cut_first c t u parts.1)

pub cut_joined : (c : ℕ) (t : Text) (ts : List Text) → list_all (is_free c) (t ∷ ts) ≡ true → slice_split (λ b. b == c) (join_with_byte c (t ∷ ts)) ≡ t ∷ ts
cut_joined c t [] h = cut_all c t (and_parts (is_free c t) true h).0
cut_joined c t (u ∷ ts) h =
    let parts = and_parts (is_free c t) (list_all (is_free c) (u ∷ ts)) h in
    cut_first c t (join_with_byte c (u ∷ ts)) parts.0 ∙ ap (λ us. t ∷ us) (cut_joined c u ts parts.1)
