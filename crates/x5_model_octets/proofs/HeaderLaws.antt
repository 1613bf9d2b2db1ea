-- What is read as identifier and length octets is spelled so, and what is spelled so is read.
use Rattle.std.proofs.Common.{◌≡◌, ℕ, ◌+◌, ◌-◌, ◌*◌, ◌/◌, ◌%◌, ◌^◌, ◌<◌, ◌≤◌, Bool, true, false, List, [], ◌∷◌, ◌++◌, length, take, drop, get_or, refl, ap, sym, ◌∙◌, ◌⊎◌, inl, inr, arith, cond, length-take, length-append, lit<}
use Rattle.std.specs.Prelude.{nat_lt, ◌==◌}
use Rattle.std.specs.declared.option.Option.{Option}
use Rattle.std.specs.declared.option.Option.TheVariants.{None, Some}
use Rattle.std.specs.declared.result.Result.{Result}
use Rattle.std.specs.declared.result.Result.TheVariants.{Ok, Err}
use Rattle.std.proofs.lemmas.Bool.{ltb-true, lt-ltb, ltb-false, le-ltb, eq-eqb, ne_eqb}
use Rattle.std.proofs.lemmas.List.{take-append-drop}
use Rattle.std.proofs.Math.Seq.{take-append_seam, drop-append_seam}
use Rattle.std.proofs.lemmas.Bool.Decides.{nat_tests}
use Rattle.x5_model_octets.specs.Headers.{Identifier, identifier_at, groups_at, high_tag_at, with_high_tag, identifier_of, length_at, leading, form_bit, big_endian, IsIdentifier, IsLength, IsGroups, IsUnpadded, low, high, short, long, indefinite, Stop}

-- Which way a test went.
pub chosen : {A : Type 0} (b : Bool) (x y z : A) → cond b x y ≡ z → ((b ≡ true) × (x ≡ z)) ⊎ ((b ≡ false) × (y ≡ z))
chosen true x y z e = inl (refl, e)
chosen false x y z e = inr (refl, e)

-- The parts of equal answers are equal.
pub ok_parts : {A B E : Type 0} (p q : A × B) (r : Result (A × B) E) → r ≡ Ok p → r ≡ Ok q → (p.0 ≡ q.0) × (p.1 ≡ q.1)
ok_parts {A = A} {B = B} p q r d e = let same : p ≡ q = cc in (ap (λ (r : A × B). r.0) same, ap (λ (r : A × B). r.1) same)

IsGroups-more : (before g : ℕ) (gs : List ℕ) (tag : ℕ) → 128 ≤ g → IsGroups (before * 128 + g % 128) gs tag → IsGroups before (g ∷ gs) tag
IsGroups-more before g [] tag above is = absurd is
IsGroups-more before g (h ∷ more) tag above is = (above, is)

groups_front : (before : ℕ) (octets : List ℕ) (tag : ℕ) (rest : List ℕ) → groups_at before octets ≡ Ok (tag, rest)
    → (gs : List ℕ) × IsGroups before gs tag × (tag < 2 ^ 31) × (octets ≡ gs ++ rest)
groups_front before [] tag rest e = cc
groups_front before (g ∷ octets) tag rest e =
    elim (chosen (nat_lt (before * 128 + g % 128) (2 ^ 31)) _ _ _ e) [
      | inl (small, e1) ↦ elim (chosen (nat_lt g 128) _ _ _ e1) [
        | inl (last, e2) ↦
            let same : (before * 128 + g % 128 ≡ tag) × (octets ≡ rest) = ok_parts _ _ _ refl e2 in
            (g ∷ [], (ltb-true _ _ last, sym same.0), omega (arith, ltb-true _ _ small, same.0), ap (λ (l : List ℕ). g ∷ l) same.1)
        | inr (more, e2) ↦
            let found = groups_front (before * 128 + g % 128) octets tag rest e2 in
            (g ∷ found.0, IsGroups-more before g found.0 tag (grind (arith, nat_tests)) found.1, found.2, ap (λ (l : List ℕ). g ∷ l) found.3)
      ]
      | inr (big, e1) ↦ cc
    ]

IsGroups-grows : (before : ℕ) (gs : List ℕ) (tag : ℕ) → IsGroups before gs tag → before ≤ tag
IsGroups-grows before [] tag is = absurd is
IsGroups-grows before (g ∷ []) tag is = omega (arith, is.1)
IsGroups-grows before (g ∷ h ∷ more) tag is = omega (arith, IsGroups-grows (before * 128 + g % 128) (h ∷ more) tag is.1)

groups_again : (before : ℕ) (gs : List ℕ) (tag : ℕ) (rest : List ℕ) → IsGroups before gs tag → tag < 2 ^ 31 → groups_at before (gs ++ rest) ≡ Ok (tag, rest)
groups_again before [] tag rest is small = absurd is
groups_again before (g ∷ []) tag rest is small =
    let below : before * 128 + g % 128 < 2 ^ 31 = omega (arith, is.1) in
    rw (lt-ltb _ _ below, lt-ltb _ _ is.0) (ap (λ (n : ℕ). Ok (n, rest)) (sym is.1))
groups_again before (g ∷ h ∷ more) tag rest is small =
    let below : before * 128 + g % 128 < 2 ^ 31 = omega (arith, IsGroups-grows (before * 128 + g % 128) (h ∷ more) tag is.1) in
    rw (lt-ltb _ _ below, le-ltb _ _ is.0) (groups_again (before * 128 + g % 128) (h ∷ more) tag rest is.1 small)

leading_of : (first tag five : ℕ) → first < 256 → first % 32 ≡ five → leading (identifier_of first tag) five ≡ first
leading_of first tag five small is = by_form (first / 32 % 2 == 1) refl
  where
    by_form : (b : Bool) → (first / 32 % 2 == 1) ≡ b → 64 * (first / 64) + form_bit b + five ≡ first
    by_form true e = grind (arith, nat_tests)
    by_form false e = grind (arith, nat_tests)

-- What is read as identifier octets spells that identifier.
pub identifier_front : (octets : List ℕ) (i : Identifier) (rest : List ℕ) → get_or octets 0 0 < 256 → identifier_at octets ≡ Ok (i, rest)
    → (front : List ℕ) × IsIdentifier i front × (octets ≡ front ++ rest)
identifier_front [] i rest small e = cc
identifier_front (first ∷ octets) i rest small e =
    elim (chosen (first % 32 == 31) _ _ _ e) [
      | inl (is_high, e1) ↦ by_groups octets e1 is_high
      | inr (is_low, e1) ↦
          let same : (identifier_of first (first % 32) ≡ i) × (octets ≡ rest) = ok_parts _ _ _ refl e1 in
          let below : first % 32 < 31 = grind (arith, nat_tests) in
          (first ∷ [], low (rw (← same.0) (omega arith)) (rw (← same.0) below) (rw (← same.0) (ap (λ (n : ℕ). n ∷ []) (sym (leading_of first (first % 32) (first % 32) small refl)))), ap (λ (l : List ℕ). first ∷ l) same.1)
    ]
  where
    by_groups : (octets : List ℕ) → high_tag_at first octets ≡ Ok (i, rest) → (first % 32 == 31) ≡ true → (front : List ℕ) × IsIdentifier i front × (first ∷ octets ≡ front ++ rest)
    by_groups [] e is_high = cc
    by_groups (g ∷ more) e is_high =
        elim (chosen (g == 128) _ _ _ e) [
          | inl (padded, e1) ↦ cc
          | inr (unpadded, e1) ↦ found (groups_at 0 (g ∷ more)) refl e1 unpadded
        ]
      where
        found : (r : Result (ℕ × List ℕ) Stop) → groups_at 0 (g ∷ more) ≡ r → with_high_tag first r ≡ Ok (i, rest) → (g == 128) ≡ false
            → (front : List ℕ) × IsIdentifier i front × (first ∷ g ∷ more ≡ front ++ rest)
        found (Err stop) is e unpadded = cc
        found (Ok (tag, after)) is e unpadded =
            elim (chosen (nat_lt tag 31) _ _ _ e) [
              | inl (little, e1) ↦ cc
              | inr (large, e1) ↦
                  let same : (identifier_of first tag ≡ i) × (after ≡ rest) = ok_parts _ _ _ refl e1 in
                  let gs = groups_front 0 (g ∷ more) tag after is in
                  let is_31 : first % 32 ≡ 31 = grind (arith, nat_tests) in
                  let unpadded_gs : IsUnpadded gs.0 = starts gs.0 gs.3 unpadded in (
                    first ∷ gs.0,
                    high gs.0 (rw (← same.0) (omega arith)) (rw (← same.0) (ltb-false _ _ large)) (rw (← same.0) gs.2) unpadded_gs (rw (← same.0) gs.1)
                        (rw (← same.0) (ap (λ (n : ℕ). n ∷ gs.0) (sym (leading_of first tag 31 small is_31)))),
                    ap (λ (l : List ℕ). first ∷ l) (gs.3 ∙ ap (λ (l : List ℕ). gs.0 ++ l) same.1),
                  )
            ]
          where
            starts : (gs : List ℕ) → g ∷ more ≡ gs ++ after → (g == 128) ≡ false → IsUnpadded gs
            starts [] e unpadded = tt
            starts (h ∷ hs) e unpadded = let same : g ≡ h = cc in rw (← same) (grind (arith, nat_tests))

identifier_of-leading : (i : Identifier) (five : ℕ) → i.class < 4 → five < 32 → identifier_of (leading i five) i.tag ≡ i
identifier_of-leading i five small low_five = by_form i.constructed refl
  where
    by_form : (b : Bool) → i.constructed ≡ b → identifier_of (leading i five) i.tag ≡ i
    by_form true e =
        let class_is : leading i five / 64 ≡ i.class = rw e (omega arith) in
        let form_is : (leading i five / 32 % 2 == 1) ≡ i.constructed = rw e (eq-eqb ((64 * i.class + 32 + five) / 32 % 2) 1 (omega arith)) in
        rw (class_is, form_is) refl
    by_form false e =
        let class_is : leading i five / 64 ≡ i.class = rw e (omega arith) in
        let form_is : (leading i five / 32 % 2 == 1) ≡ i.constructed = rw e (ne_eqb ((64 * i.class + 0 + five) / 32 % 2) 1 (λ h. omega arith)) in
        rw (class_is, form_is) refl

leading-five : (i : Identifier) (five : ℕ) → five < 32 → leading i five % 32 ≡ five
leading-five i five small = by_form i.constructed refl
  where
    by_form : (b : Bool) → i.constructed ≡ b → leading i five % 32 ≡ five
    by_form true e = rw e (omega arith)
    by_form false e = rw e (omega arith)

-- What spells an identifier is read as it, whatever follows.
pub identifier_again : (i : Identifier) (front rest : List ℕ) → IsIdentifier i front → identifier_at (front ++ rest) ≡ Ok (i, rest)
identifier_again i front rest (low class_small tag_small whole) =
    rw (whole, ne_eqb (leading i i.tag % 32) 31 (rw (leading-five i i.tag (omega arith)) (omega arith)), leading-five i i.tag (omega arith), identifier_of-leading i i.tag class_small (omega arith)) refl
identifier_again i front rest (high [] class_small large tag_small unpadded is whole) = absurd is
identifier_again i front rest (high (g ∷ more) class_small large tag_small unpadded is whole) =
    rw (whole, eq-eqb (leading i 31 % 32) 31 (leading-five i 31 (lit< tt)), ne_eqb g 128 unpadded, groups_again 0 (g ∷ more) i.tag rest is tag_small, le-ltb _ _ large, identifier_of-leading i 31 class_small (lit< tt)) refl

-- What is read as length octets spells that length.
pub length_front : (octets : List ℕ) (n : Option ℕ) (rest : List ℕ) → length_at octets ≡ Ok (n, rest)
    → (front : List ℕ) × IsLength n front × (octets ≡ front ++ rest)
length_front [] n rest e = cc
length_front (l ∷ octets) n rest e =
    elim (chosen (nat_lt l 128) _ _ _ e) [
      | inl (is_short, e1) ↦
          let same : (Some l ≡ n) × (octets ≡ rest) = ok_parts _ _ _ refl e1 in
          (l ∷ [], short l (ltb-true _ _ is_short) (sym same.0) refl, ap (λ (o : List ℕ). l ∷ o) same.1)
      | inr (not_short, e1) ↦ elim (chosen (l == 128) _ _ _ e1) [
        | inl (is_open, e2) ↦
            let same : (None ≡ n) × (octets ≡ rest) = ok_parts _ _ _ refl e2 in
            (l ∷ [], indefinite (sym same.0) (ap (λ (k : ℕ). k ∷ []) (grind (arith, nat_tests))), ap (λ (o : List ℕ). l ∷ o) same.1)
        | inr (not_open, e2) ↦ elim (chosen (nat_lt 136 l) _ _ _ e2) [
          | inl (too_many, e3) ↦ cc
          | inr (few, e3) ↦ elim (chosen (nat_lt (length octets) (l - 128)) _ _ _ e3) [
            | inl (cut, e4) ↦ cc
            | inr (there, e4) ↦
                let same : (Some (big_endian 0 (take (l - 128) octets)) ≡ n) × (drop (l - 128) octets ≡ rest) = ok_parts _ _ _ refl e4 in
                let enough : l - 128 ≤ length octets = ltb-false _ _ there in
                let count : length (take (l - 128) octets) ≡ l - 128 = rw length-take (grind arith) in
                let above : 129 ≤ l = grind (arith, nat_tests) in
                let below : l ≤ 136 = ltb-false _ _ few in (
                  l ∷ take (l - 128) octets,
                  long (take (l - 128) octets) (omega (arith, count)) (omega (arith, count)) (sym same.0) (ap (λ (k : ℕ). k ∷ take (l - 128) octets) (omega (arith, count))),
                  ap (λ (o : List ℕ). l ∷ o) (sym (take-append-drop (l - 128) octets) ∙ ap (λ (o : List ℕ). take (l - 128) octets ++ o) same.1),
                )
          ]
        ]
      ]
    ]

-- What spells a length is read as it, whatever follows.
pub length_again : (n : Option ℕ) (front rest : List ℕ) → IsLength n front → length_at (front ++ rest) ≡ Ok (n, rest)
length_again n front rest (short k small is whole) = rw (whole, is, lt-ltb _ _ small) refl
length_again n front rest (long digits some few is whole) =
    rw (whole, is, le-ltb (128 + length digits) 128 (omega arith), ne_eqb (128 + length digits) 128 (omega arith), le-ltb 136 (128 + length digits) (omega arith))
    (let size : 128 + length digits - 128 ≡ length digits = omega arith in
    rw (size, le-ltb (length (digits ++ rest)) (length digits) (omega (arith, length-append digits rest)), take-append_seam digits rest, drop-append_seam digits rest) refl)
length_again n front rest (indefinite is whole) = rw (whole, is) refl
