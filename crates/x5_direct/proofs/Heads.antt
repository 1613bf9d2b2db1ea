-- Length octets, and headers of one identifier octet and them.
use Rattle.std.proofs.Common.{◌≡◌, ℕ, ◌+◌, ◌-◌, ◌*◌, ◌≤◌, ◌<◌, ◌%◌, ◌==◌, true, false}
use Rattle.std.proofs.Common.{List, [], ◌∷◌, ◌++◌, length, take, drop}
use Rattle.std.proofs.Common.{refl, ap, sym, ◌∙◌, subst, arith, length-take, length-drop, lit<, slice_index_or}
use Rattle.std.proofs.Common.{length-append}
use Rattle.std.proofs.Math.Seq.{drop-append_seam}
use Rattle.std.specs.declared.option.Option.{Option}
use Rattle.std.specs.declared.option.Option.TheVariants.{Some}
use Rattle.std.proofs.lemmas.Bool.{ne_eqb}
use Rattle.std.proofs.lemmas.Bool.Decides.{Decides-eqb}
use Rattle.std.proofs.lemmas.List.{append_cancel_right, take-append-drop, take_all}
use Rattle.x5_model_octets.specs.Headers.{IsIdentifier, IsLength, identifier_of, short, long}
use Rattle.x5_model_octets.proofs.HeaderLaws.{identifier_front}
use Rattle.x5_direct.specs.Spelled.{HasLength, Opens}

-- ---- lengths

pub short_length : (k : ℕ) (rest : List ℕ) → k < 128 → HasLength k (k ∷ rest) rest
short_length k rest small = record { front = k ∷ []; is_length = short k small refl refl; whole = refl }

same_some : (a b : ℕ) → a ≡ b → (let o : Option ℕ = Some a in o) ≡ Some b
same_some a b e = ap (λ (n : ℕ). Some n) e

pub one_length : (low : ℕ) (rest : List ℕ) → HasLength low (129 ∷ low ∷ rest) rest
one_length low rest = record {
  front = 129 ∷ low ∷ [];
  is_length = long (low ∷ []) (omega arith) (omega arith) (same_some low _ (omega arith)) refl;
  whole = refl;
}

pub two_length : (n high low : ℕ) (rest : List ℕ) → n ≡ high * 256 + low → HasLength n (130 ∷ high ∷ low ∷ rest) rest
two_length n high low rest e = record {
  front = 130 ∷ high ∷ low ∷ [];
  is_length = long (high ∷ low ∷ []) (omega arith) (omega arith) (same_some n _ (omega (arith, e))) refl;
  whole = refl;
}

pub three_length : (n high middle low : ℕ) (rest : List ℕ) → n ≡ high * 65536 + middle * 256 + low
    → HasLength n (131 ∷ high ∷ middle ∷ low ∷ rest) rest
three_length n high middle low rest e = record {
  front = 131 ∷ high ∷ middle ∷ low ∷ [];
  is_length = long (high ∷ middle ∷ low ∷ []) (omega arith) (omega arith) (same_some n _ (omega (arith, e))) refl;
  whole = refl;
}

-- ---- what stands behind the first octets

pub rest_here : (octets : List ℕ) (k : ℕ) → take (length octets - k) (drop k octets) ≡ drop k octets
rest_here octets k = take_all (length octets - k) (drop k octets) (omega (arith, length-drop k octets))

pub whole_here : (octets : List ℕ) (b : ℕ) → 1 ≤ length octets → slice_index_or octets 0 0 ≡ b
    → octets ≡ b ∷ take (length octets - 1) (drop 1 octets)
whole_here [] b less e = absurd (omega (arith, less))
whole_here (o ∷ octets) b less e =
    ap (λ (k : ℕ). k ∷ octets) e ∙ ap (λ (l : List ℕ). b ∷ l) (sym (rest_here (o ∷ octets) 1))

pub short_here : (octets : List ℕ) → 1 ≤ length octets → slice_index_or octets 0 0 < 128
    → HasLength (slice_index_or octets 0 0) octets (take (length octets - 1) (drop 1 octets))
short_here [] less small = absurd (omega (arith, less))
short_here (k ∷ octets) less small =
    subst (λ (l : List ℕ). HasLength k (k ∷ octets) l) (sym (rest_here (k ∷ octets) 1)) (short_length k octets small)

pub one_here : (octets : List ℕ) → 1 ≤ length octets
    → HasLength (slice_index_or octets 0 0) (129 ∷ octets) (take (length octets - 1) (drop 1 octets))
one_here [] less = absurd (omega (arith, less))
one_here (low ∷ octets) less =
    subst (λ (l : List ℕ). HasLength low (129 ∷ low ∷ octets) l) (sym (rest_here (low ∷ octets) 1))
    (one_length low octets)

pub two_here : (octets : List ℕ) → 2 ≤ length octets
    → HasLength (slice_index_or octets 0 0 * 256 + slice_index_or octets 1 0) (130 ∷ octets)
    (take (length octets - 2) (drop 2 octets))
two_here [] less = absurd (omega (arith, less))
two_here (high ∷ []) less = absurd (omega (arith, less))
two_here (high ∷ low ∷ octets) less =
    subst (λ (l : List ℕ). HasLength (high * 256 + low) (130 ∷ high ∷ low ∷ octets) l)
    (sym (rest_here (high ∷ low ∷ octets) 2)) (two_length (high * 256 + low) high low octets refl)

pub three_here : (octets : List ℕ) → 3 ≤ length octets
    → HasLength (slice_index_or octets 0 0 * 65536 + slice_index_or octets 1 0 * 256 + slice_index_or octets 2 0)
    (131 ∷ octets) (take (length octets - 3) (drop 3 octets))
three_here [] less = absurd (omega (arith, less))
three_here (high ∷ []) less = absurd (omega (arith, less))
three_here (high ∷ middle ∷ []) less = absurd (omega (arith, less))
three_here (high ∷ middle ∷ low ∷ octets) less =
    subst (λ (l : List ℕ). HasLength (high * 65536 + middle * 256 + low) (131 ∷ high ∷ middle ∷ low ∷ octets) l)
    (sym (rest_here (high ∷ middle ∷ low ∷ octets) 3))
    (three_length (high * 65536 + middle * 256 + low) high middle low octets refl)

pub five_here : (octets : List ℕ) (a b d : ℕ) → 5 ≤ length octets → slice_index_or octets 0 0 ≡ a
    → slice_index_or octets 1 0 ≡ b → slice_index_or octets 2 0 ≡ d
    → octets ≡ a ∷ b ∷ d ∷ slice_index_or octets 3 0 ∷ slice_index_or octets 4 0 ∷ drop 5 octets
five_here [] a b d less e f g = absurd (omega (arith, less))
five_here (o ∷ []) a b d less e f g = absurd (omega (arith, less))
five_here (o ∷ p ∷ []) a b d less e f g = absurd (omega (arith, less))
five_here (o ∷ p ∷ q ∷ []) a b d less e f g = absurd (omega (arith, less))
five_here (o ∷ p ∷ q ∷ r ∷ []) a b d less e f g = absurd (omega (arith, less))
five_here (o ∷ p ∷ q ∷ r ∷ s ∷ octets) a b d less e f g =
    let first : o ≡ a = e in
    let second : p ≡ b = f in
    let third : q ≡ d = g in
    cc (first, second, third)

pub mark_here : (octets : List ℕ) (a b d : ℕ) → 3 ≤ length octets → slice_index_or octets 0 0 ≡ a
    → slice_index_or octets 1 0 ≡ b → slice_index_or octets 2 0 ≡ d
    → octets ≡ a ∷ b ∷ d ∷ take (length octets - 3) (drop 3 octets)
mark_here [] a b d less e f g = absurd (omega (arith, less))
mark_here (o ∷ []) a b d less e f g = absurd (omega (arith, less))
mark_here (o ∷ p ∷ []) a b d less e f g = absurd (omega (arith, less))
mark_here (o ∷ p ∷ q ∷ octets) a b d less e f g =
    let first : o ≡ a = e in
    let second : p ≡ b = f in
    let third : q ≡ d = g in
    let rest : take (length (o ∷ p ∷ q ∷ octets) - 3) octets ≡ octets = rest_here (o ∷ p ∷ q ∷ octets) 3 in
    cc (first, second, third, rest)

pub nothing : (l : List ℕ) → (length l == 0) ≡ true → l ≡ []
nothing [] e = refl
nothing (o ∷ l) e = absurd (omega (arith, (Decides-eqb (length (o ∷ l)) 0).0 e))

-- ---- headers

first_is : (first : ℕ) (rest : List ℕ) → first < 256 → first % 32 < 31
    → IsIdentifier (identifier_of first (first % 32)) (first ∷ [])
first_is first rest small low =
    let none : (first % 32 == 31) ≡ false = ne_eqb (first % 32) 31 (λ e. omega (arith, low, e)) in
    let f = identifier_front (first ∷ rest) (identifier_of first (first % 32)) rest small (rw none refl) in
    let same : first ∷ [] ≡ f.0 = append_cancel_right (first ∷ []) f.0 rest f.2 in
    subst (λ (o : List ℕ). IsIdentifier (identifier_of first (first % 32)) o) (sym same) f.1

pub opens_so : (first n : ℕ) (octets behind after content rest : List ℕ) → first < 256 → first % 32 < 31
    → octets ≡ first ∷ behind → HasLength n behind after → n ≤ length after
    → content ≡ take n after → rest ≡ drop n after → Opens first content octets rest
opens_so first n octets behind after content rest small low e h fits c r =
    let size : n ≡ length content = omega (arith, fits, ap length c, length-take n after) in
    record {
      lengths = h.front;
      is_header = record {
        identifier_octets = first ∷ [];
        length_octets = h.front;
        identifier = first_is first behind small low;
        length_form = subst (λ (k : ℕ). IsLength (Some k) h.front) size h.is_length;
        whole = refl;
      };
      whole = e ∙ ap (λ (o : List ℕ). first ∷ o) (h.whole
          ∙ ap (λ (o : List ℕ). h.front ++ o) (sym (take-append-drop n after)
          ∙ ap (λ (o : List ℕ). o ++ drop n after) (sym c) ∙ ap (λ (o : List ℕ). content ++ o) (sym r)));
    }

-- What is left is so many octets less.
pub left_is : (part octets rest : List ℕ) → octets ≡ part ++ rest → rest ≡ drop (length octets - length rest) octets
left_is part octets rest e =
    let size : length octets - length rest ≡ length part = omega (arith, ap length e, length-append part rest) in
    sym (ap (λ (k : ℕ). drop k octets) size ∙ ap (λ (o : List ℕ). drop (length part) o) e ∙ drop-append_seam part rest)

-- An identifier octet, the length 3, and a content of three octets.
pub three_octets : (first a b c : ℕ) (rest : List ℕ) → first < 256 → first % 32 < 31
    → Opens first (a ∷ b ∷ c ∷ []) (first ∷ 3 ∷ a ∷ b ∷ c ∷ rest) rest
three_octets first a b c rest small low =
    opens_so first 3 (first ∷ 3 ∷ a ∷ b ∷ c ∷ rest) (3 ∷ a ∷ b ∷ c ∷ rest) (a ∷ b ∷ c ∷ rest) (a ∷ b ∷ c ∷ []) rest
    small low refl (short_length 3 (a ∷ b ∷ c ∷ rest) (lit< tt)) (omega arith) refl refl
