-- The canonical spelling is a spelling.
use Rattle.std.proofs.Common.{◌≡◌, ◌≢◌, ℕ, suc, ◌+◌, ◌*◌, ◌^◌, ◌<◌, ◌≤◌, Bool, true, false, List, [], ◌∷◌, ◌++◌, length, refl, ap, sym, ◌∙◌, arith, length-append}
use Rattle.std.specs.Prelude.{nat_lt, ◌==◌}
use Rattle.std.specs.Int.{to_be_bytes, w64}
use Rattle.std.specs.declared.option.Option.TheVariants.{Some}
use Rattle.std.proofs.lemmas.Bool.{ltb-true, ltb-false, le-ltb}
use Rattle.std.proofs.lemmas.Bool.Decides.{nat_tests}
use Rattle.x5_model_octets.specs.Headers.{Identifier, big_endian, IsGroups, IsUnpadded, IsIdentifier, low, high, IsLength, short, long, indefinite, IsHeader}
use Rattle.x5_model_octets.specs.Elements.{Element, Elements, Primitive, Constructed, Nil, More, Spells, SpellsAll, definite, identifier, groups, identifier_octets, without_zeros, shortest_length, enclosed, canonical, canonical_all, HasCanonical, HaveCanonical}

-- The groups of a tag number give it, and the first has a bit set.
groups_give : (tag : ℕ) → 31 ≤ tag → tag < 2 ^ 31 → IsUnpadded (groups tag) × IsGroups 0 (groups tag) tag
groups_give tag large small = by_first (nat_lt tag (2 ^ 28)) (nat_lt tag (2 ^ 21)) (nat_lt tag (2 ^ 14)) (nat_lt tag (2 ^ 7)) refl refl refl refl
  where
    by_first : (p q r s : Bool) → nat_lt tag (2 ^ 28) ≡ p → nat_lt tag (2 ^ 21) ≡ q → nat_lt tag (2 ^ 14) ≡ r → nat_lt tag (2 ^ 7) ≡ s → IsUnpadded (groups tag) × IsGroups 0 (groups tag) tag
    by_first true true true true hp hq hr hs =
        let below : tag < 2 ^ 7 = ltb-true _ _ hs in
        rw (hp, hq, hr, hs) ((λ e. omega arith), (omega arith, omega arith))
    by_first true true true false hp hq hr hs =
        let below : tag < 2 ^ 14 = ltb-true _ _ hr in
        let above : 2 ^ 7 ≤ tag = ltb-false _ _ hs in
        rw (hp, hq, hr, hs) ((λ e. omega arith), (omega arith, (omega arith, omega arith)))
    by_first true true false s hp hq hr hs =
        let below : tag < 2 ^ 21 = ltb-true _ _ hq in
        let above : 2 ^ 14 ≤ tag = ltb-false _ _ hr in
        rw (hp, hq, hr, le-ltb tag (2 ^ 7) (omega arith)) ((λ e. omega arith), (omega arith, (omega arith, (omega arith, omega arith))))
    by_first true false r s hp hq hr hs =
        let below : tag < 2 ^ 28 = ltb-true _ _ hp in
        let above : 2 ^ 21 ≤ tag = ltb-false _ _ hq in
        rw (hp, hq, le-ltb tag (2 ^ 14) (omega arith), le-ltb tag (2 ^ 7) (omega arith)) ((λ e. omega arith), (omega arith, (omega arith, (omega arith, (omega arith, omega arith)))))
    by_first false q r s hp hq hr hs =
        let above : 2 ^ 28 ≤ tag = ltb-false _ _ hp in
        rw (hp, le-ltb tag (2 ^ 21) (omega arith), le-ltb tag (2 ^ 14) (omega arith), le-ltb tag (2 ^ 7) (omega arith)) ((λ e. omega arith), (omega arith, (omega arith, (omega arith, (omega arith, (omega arith, omega arith))))))

pub identifier_octets_spell : (i : Identifier) → i.class < 4 → i.tag < 2 ^ 31 → IsIdentifier i (identifier_octets i)
identifier_octets_spell i class_small tag_small = by_tag (nat_lt i.tag 31) refl
  where
    by_tag : (b : Bool) → nat_lt i.tag 31 ≡ b → IsIdentifier i (identifier_octets i)
    by_tag true e = low class_small (ltb-true _ _ e) (rw e refl)
    by_tag false e =
        let give = groups_give i.tag (ltb-false _ _ e) tag_small in
        high (groups i.tag) class_small (ltb-false _ _ e) tag_small give.0 give.1 (rw e refl)

big_endian-without_zeros : (digits : List ℕ) → big_endian 0 (without_zeros digits) ≡ big_endian 0 digits
big_endian-without_zeros [] = refl
big_endian-without_zeros (d ∷ digits) = by_test (d == 0) refl (big_endian-without_zeros digits)
  where
    by_test : (b : Bool) → (d == 0) ≡ b → big_endian 0 (without_zeros digits) ≡ big_endian 0 digits → big_endian 0 (without_zeros (d ∷ digits)) ≡ big_endian (0 * 256 + d) digits
    by_test true e again = let none : d ≡ 0 = grind (arith, nat_tests) in rw (e, none) again
    by_test false e again = rw e refl

without_zeros-shorter : (digits : List ℕ) → length (without_zeros digits) ≤ length digits
without_zeros-shorter [] = omega arith
without_zeros-shorter (d ∷ digits) = by_test (d == 0) refl (without_zeros-shorter digits)
  where
    by_test : (b : Bool) → (d == 0) ≡ b → length (without_zeros digits) ≤ length digits → length (without_zeros (d ∷ digits)) ≤ suc (length digits)
    by_test true e again = rw e (omega arith)
    by_test false e again = rw e (omega arith)

octets_give : (n : ℕ) → n < 2 ^ 64 → big_endian 0 (to_be_bytes w64 n) ≡ n
octets_give n small = omega arith

some_octets : (digits : List ℕ) (n : ℕ) → 0 < n → big_endian 0 digits ≡ n → 1 ≤ length digits
some_octets [] n some e = absurd (omega (arith, e))
some_octets (d ∷ digits) n some e = omega arith

pub shortest_length_spells : (n : ℕ) → n < 2 ^ 64 → IsLength (Some n) (shortest_length n)
shortest_length_spells n small = by_test (nat_lt n 128) refl
  where
    by_test : (b : Bool) → nat_lt n 128 ≡ b → IsLength (Some n) (shortest_length n)
    by_test true e = short n (ltb-true _ _ e) refl (rw e refl)
    by_test false e =
        let digits : List ℕ = without_zeros (to_be_bytes w64 n) in
        let give : big_endian 0 digits ≡ n = big_endian-without_zeros (to_be_bytes w64 n) ∙ octets_give n small in
        long digits (some_octets digits n (omega (arith, ltb-false _ _ e)) give) (without_zeros-shorter (to_be_bytes w64 n)) (ap (λ (k : ℕ). Some k) (sym give)) (rw e refl)

-- The shortest header is a header.
pub shortest_header : (i : Identifier) (n : ℕ) → i.class < 4 → i.tag < 2 ^ 31 → n < 2 ^ 64 → IsHeader i (Some n) (identifier_octets i ++ shortest_length n)
shortest_header i n class_small tag_small small =
    record { identifier_octets = identifier_octets i; length_octets = shortest_length n; identifier = identifier_octets_spell i class_small tag_small; length_form = shortest_length_spells n small; whole = refl }

-- Only one primitive element has the canonical octets 00 00.
no_end : (class tag : ℕ) (content : List ℕ) → length content < 2 ^ 64 → (class ≡ 0 → tag ≡ 0 → content ≡ [] → ⊥) → enclosed (identifier false class tag) content ≢ 0 ∷ 0 ∷ []
no_end class tag content small other e = by_tag (nat_lt tag 31) refl
  where
    by_content : (content : List ℕ) → length content < 2 ^ 64 → shortest_length (length content) ++ content ≡ 0 ∷ [] → content ≡ []
    by_content [] small e = refl
    by_content (c ∷ content) small e = absurd (by_length (shortest_length (suc (length content))) (shortest_length_spells (suc (length content)) small) e)
      where
        by_length : (octets : List ℕ) → IsLength (Some (suc (length content))) octets → octets ++ (c ∷ content) ≡ 0 ∷ [] → ⊥
        by_length octets (short k small is whole) e = let size : length (octets ++ (c ∷ content)) ≡ 1 = ap length e in omega (arith, length-append octets (c ∷ content), size, ap length whole)
        by_length octets (long digits some few is whole) e = let size : length (octets ++ (c ∷ content)) ≡ 1 = ap length e in omega (arith, length-append octets (c ∷ content), size, ap length whole)
        by_length octets (indefinite is whole) e = cc

    by_tag : (b : Bool) → nat_lt tag 31 ≡ b → ⊥
    by_tag true low_tag =
        let cells : (64 * class + 0 + tag) ∷ (shortest_length (length content) ++ content) ≡ 0 ∷ 0 ∷ [] = rw low_tag at e in
        let head : 64 * class + 0 + tag ≡ 0 = cc in
        let rest : shortest_length (length content) ++ content ≡ 0 ∷ [] = cc in
        other (omega (arith, head)) (omega (arith, head)) (by_content content small rest)
    by_tag false high_tag =
        let cells : (64 * class + 0 + 31) ∷ ((groups tag ++ shortest_length (length content)) ++ content) ≡ 0 ∷ 0 ∷ [] = rw high_tag at e in
        let head : 64 * class + 0 + 31 ≡ 0 = cc in
        omega (arith, head)

mutual
  -- The canonical spelling is a spelling.
  pub canonical_spells : (d : ℕ) (e : Element) → HasCanonical d e → Spells d e (canonical e)
  canonical_spells d (Primitive class tag content) has = record {
    deep = has.0;
    header = identifier_octets (identifier false class tag) ++ shortest_length (length content);
    is_header = shortest_header (identifier false class tag) (length content) has.1 has.2 has.3;
    whole = refl;
    no_end = no_end class tag content has.3 has.4;
  }
  canonical_spells d (Constructed class tag members) has = (
    has.0,
    canonical_all members,
    all_canonical_spell (d + 1) members has.4,
    definite (identifier_octets (identifier true class tag) ++ shortest_length (length (canonical_all members)))
        (shortest_header (identifier true class tag) (length (canonical_all members)) has.1 has.2 has.3) refl,
  )

  pub all_canonical_spell : (d : ℕ) (es : Elements) → HaveCanonical d es → SpellsAll d es (canonical_all es)
  all_canonical_spell d Nil has = refl
  all_canonical_spell d (More e es) has = (canonical e, canonical_all es, canonical_spells d e has.0, all_canonical_spell d es has.1, refl)
