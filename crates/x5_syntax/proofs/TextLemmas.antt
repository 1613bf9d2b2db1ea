-- Texts of ASCII: folding one lowers its letters, and that leaves its spaces as they stand; so of a plain one nothing
-- else is left to do.
use Rattle.std.proofs.Common.{◌≡◌, ℕ, zero, suc, nat_lt, not, Bool, true, false, ◌&&◌, if◌then◌else◌, [], ◌∷◌, map}
use Rattle.std.proofs.Common.{IsAscii, refl, sym, ap, ap₂, ◌∙◌, arith}
use Rattle.std.proofs.lemmas.Bool.{ltb-true, false≢true}
use Rattle.std.proofs.lemmas.Bool.Decides.{nat_tests}
use Rattle.std.proofs.lemmas.Str.{chars-IsAscii, encodes-IsAscii}
use Rattle.std.proofs.lemmas.Str.Ascii.{lowercase_ascii, IsAscii-map}
use Rattle.std.specs.Char.{to_ascii_lowercase}
use Rattle.caseless.proofs.CaselessLemmas.{default_case_fold-ascii, All-chars}
use lib.Utf8.{encodes}
use Rattle.x5_model.specs.Values.{Text}
use Rattle.x5_syntax.specs.Plain.{is_plain}
use Rattle.x5_model.specs.Normal.{is_space, folded, without_leading, drops_space_before, single_spaced, spaced}

abbrev lower : Text → Text
lower t = map to_ascii_lowercase t

lower_space : (b : ℕ) → is_space (to_ascii_lowercase b) ≡ is_space b
lower_space b = grind (arith, nat_tests)

either : (c : Bool) (t u : Text) → (if c then lower t else lower u) ≡ lower (if c then t else u)
either true t u = refl
either false t u = refl

leading : (t : Text) → without_leading (lower t) ≡ lower (without_leading t)
leading [] = refl
leading (b ∷ t) =
    ap₂ (λ c u. if c then u else lower (b ∷ t)) (lower_space b) (leading t) ∙ either (is_space b) (without_leading t) (b ∷ t)

drops : (last : Bool) (t : Text) → drops_space_before last (lower t) ≡ drops_space_before last t
drops last [] = refl
drops last (b ∷ t) = lower_space b

single : (last : Bool) (t : Text) → single_spaced last (lower t) ≡ lower (single_spaced last t)
single last [] = refl
single last (b ∷ t) =
    ap₂ (λ c u. if c then u else to_ascii_lowercase b ∷ u) (ap₂ ◌&&◌ (lower_space b) (drops last t)) (single last t)
    ∙ either (is_space b && drops_space_before last t) (single_spaced last t) (b ∷ single_spaced last t)

spaced_lower : (first last : Bool) (t : Text) → spaced first last (lower t) ≡ lower (spaced first last t)
spaced_lower true last t = ap (single_spaced last) (leading t) ∙ single last (without_leading t)
spaced_lower false last t = single last t

folded_ascii : (t : Text) → IsAscii t → folded t ≡ lower t
unfolding folded
folded_ascii t h =
    ap encodes (default_case_fold-ascii _ (All-chars t h) ∙ ap lower (chars-IsAscii t h))
    ∙ encodes-IsAscii (lower t) (IsAscii-map to_ascii_lowercase t lowercase_ascii h)

pub folded_spaced_ascii : (first last : Bool) (t : Text) → IsAscii t → spaced first last (folded t) ≡ map to_ascii_lowercase (spaced first last t)
folded_spaced_ascii first last t h = ap (spaced first last) (folded_ascii t h) ∙ spaced_lower first last t

-- ---- texts that are plain

parts : (a space behind r : Bool) → (a && not (space && behind) && r) ≡ true
    → (a ≡ true) × ((space && behind) ≡ false) × (r ≡ true)
parts true true true r h = absurd (false≢true h)
parts true true false r h = (refl, refl, h)
parts true false behind r h = (refl, refl, h)
parts false space behind r h = absurd (false≢true h)

at_front : (behind last : Bool) (b : ℕ) (t : Text) → is_plain behind last (b ∷ t) ≡ true
    → (nat_lt b 128 ≡ true) × ((is_space b && behind) ≡ false) × (is_plain (is_space b) last t ≡ true)
at_front behind last b t h = parts (nat_lt b 128) (is_space b) behind (is_plain (is_space b) last t) h

not_last : (last : Bool) → not (true && last) ≡ true → last ≡ false
not_last true h = absurd (false≢true h)
not_last false h = refl

and_true : (b : Bool) → (b && true) ≡ b
and_true true = refl
and_true false = refl

none_drops : (last : Bool) (t : Text) → is_plain true last t ≡ true → drops_space_before last t ≡ false
none_drops last [] h = not_last last h
none_drops last (b ∷ t) h = sym (and_true (is_space b)) ∙ (at_front true last b t h).1

kept : (space last : Bool) (t : Text) → is_plain space last t ≡ true → (space && drops_space_before last t) ≡ false
kept true last t h = none_drops last t h
kept false last t h = refl

single_plain : (behind last : Bool) (t : Text) → is_plain behind last t ≡ true → single_spaced last t ≡ t
single_plain behind last [] h = refl
single_plain behind last (b ∷ t) h =
    let rest = (at_front behind last b t h).2 in
    ap (λ c. if c then single_spaced last t else b ∷ single_spaced last t) (kept (is_space b) last t rest)
    ∙ ap (λ u. b ∷ u) (single_plain (is_space b) last t rest)

leading_plain : (last : Bool) (t : Text) → is_plain true last t ≡ true → without_leading t ≡ t
leading_plain last [] h = refl
leading_plain last (b ∷ t) h = ap (λ c. if c then without_leading t else b ∷ t) (none_drops last (b ∷ t) h)

ascii_plain : (behind last : Bool) (t : Text) → is_plain behind last t ≡ true → IsAscii t
ascii_plain behind last [] h i = omega arith
ascii_plain behind last (b ∷ t) h zero = ltb-true b 128 (at_front behind last b t h).0
ascii_plain behind last (b ∷ t) h (suc i) = ascii_plain (is_space b) last t (at_front behind last b t h).2 i

spaced_plain : (first last : Bool) (t : Text) → is_plain first last t ≡ true → spaced first last t ≡ t
spaced_plain true last t h = ap (single_spaced last) (leading_plain last t h) ∙ single_plain true last t h
spaced_plain false last t h = single_plain false last t h

pub plain_folded : (first last : Bool) (t : Text) → is_plain first last t ≡ true
    → map to_ascii_lowercase t ≡ spaced first last (folded t)
plain_folded first last t h =
    let in_order = spaced_plain first last t h in
    sym (folded_spaced_ascii first last t (ascii_plain first last t h) ∙ ap (map to_ascii_lowercase) in_order)
