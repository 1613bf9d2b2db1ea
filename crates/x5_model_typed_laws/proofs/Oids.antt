-- An object identifier reads back from the octets that are written for it (X.690, section 8.19).
use Rattle.std.proofs.Common.{◌≡◌, ℕ, zero, suc, ◌+◌, ◌-◌, ◌*◌, ◌^◌, ◌<◌, ◌≤◌, Bool, true, false, ◌&&◌, ◌||◌, ◌==◌, nat_lt, List, [], ◌∷◌, ◌++◌, refl, ap, ap₂, ◌∙◌, arith}
use Rattle.std.specs.Prelude.{◌/◌, ◌%◌, flat_map}
use Rattle.std.proofs.lemmas.Bool.{lt-ltb, ltb-true, ltb-false, le-ltb}
use Rattle.std.proofs.lemmas.Bool.Decides.{nat_tests}
use Rattle.std.specs.List.{list_all}
use Rattle.std.specs.declared.option.Option.{Option}
use Rattle.std.specs.declared.option.Option.TheVariants.{None, Some}
use Rattle.x5_model.specs.Words.{in_option}
use Rattle.x5_model.specs.Normal.{is_oid}
use Rattle.x5_model.proofs.Lists.{both_true}
use Rattle.x5_model_octets.specs.Elements.{groups}
use Rattle.x5_model_typed.specs.Leaves.{where_so, cons_to, subidentifiers, first_arc, arcs_of, oid_of, oid_octets}

-- ---- one number

last_group : (fresh : Bool) (before o : ℕ) (rest : List ℕ) → o < 128
    → subidentifiers fresh before (o ∷ rest) ≡ cons_to (subidentifiers true 0 rest) (before * 128 + o)
last_group true before o rest less =
    let other : (o == 128) ≡ false = grind (arith, nat_tests) in
    let low : nat_lt o 128 ≡ true = lt-ltb o 128 less in rw (other, low) refl
last_group false before o rest less = let low : nat_lt o 128 ≡ true = lt-ltb o 128 less in rw low refl

first_group : (g : ℕ) (rest : List ℕ) → 128 < g
    → subidentifiers true 0 (g ∷ rest) ≡ subidentifiers false (0 * 128 + g % 128) rest
first_group g rest more =
    let other : (g == 128) ≡ false = grind (arith, nat_tests) in
    let high : nat_lt g 128 ≡ false = le-ltb g 128 (omega arith) in rw (other, high) refl

next_group : (before g : ℕ) (rest : List ℕ) → 128 ≤ g
    → subidentifiers false before (g ∷ rest) ≡ subidentifiers false (before * 128 + g % 128) rest
next_group before g rest more = let high : nat_lt g 128 ≡ false = le-ltb g 128 more in rw high refl

groups_back : (n : ℕ) (rest : List ℕ) → n < 2 ^ 35
    → subidentifiers true 0 (groups n ++ rest) ≡ cons_to (subidentifiers true 0 rest) n
groups_back n rest small =
    by (nat_lt n (2 ^ 28)) (nat_lt n (2 ^ 21)) (nat_lt n (2 ^ 14)) (nat_lt n (2 ^ 7)) refl refl refl refl
  where
    lowest : n % 128 < 128
    lowest = omega arith

    is : (k : ℕ) → k ≡ n → cons_to (subidentifiers true 0 rest) k ≡ cons_to (subidentifiers true 0 rest) n
    is k e = ap (λ (j : ℕ). cons_to (subidentifiers true 0 rest) j) e

    by : (p q r s : Bool) → nat_lt n (2 ^ 28) ≡ p → nat_lt n (2 ^ 21) ≡ q → nat_lt n (2 ^ 14) ≡ r
        → nat_lt n (2 ^ 7) ≡ s → subidentifiers true 0 (groups n ++ rest) ≡ cons_to (subidentifiers true 0 rest) n
    by true true true true hp hq hr hs =
        let below : n < 2 ^ 7 = ltb-true _ _ hs in
        rw (hp, hq, hr, hs) (last_group true 0 (n % 128) rest lowest ∙ is (0 * 128 + n % 128) (omega arith))
    by true true true false hp hq hr hs =
        let below : n < 2 ^ 14 = ltb-true _ _ hr in
        let above : 2 ^ 7 ≤ n = ltb-false _ _ hs in
        let a : ℕ = 128 + n / 2 ^ 7 % 128 in
        rw (hp, hq, hr, hs)
        (first_group a (n % 128 ∷ rest) (omega arith) ∙ last_group false (0 * 128 + a % 128)
        (n % 128) rest lowest ∙ is ((0 * 128 + a % 128) * 128 + n % 128) (omega arith))
    by true true false s hp hq hr hs =
        let below : n < 2 ^ 21 = ltb-true _ _ hq in
        let above : 2 ^ 14 ≤ n = ltb-false _ _ hr in
        let a : ℕ = 128 + n / 2 ^ 14 % 128 in
        let b : ℕ = 128 + n / 2 ^ 7 % 128 in
        rw (hp, hq, hr, le-ltb n (2 ^ 7) (omega arith))
        (first_group a (b ∷ n % 128 ∷ rest) (omega arith) ∙ next_group (0 * 128 + a % 128) b (n % 128 ∷ rest)
        (omega arith)
        ∙ last_group false ((0 * 128 + a % 128) * 128 + b % 128) (n % 128) rest lowest
        ∙ is (((0 * 128 + a % 128) * 128 + b % 128) * 128 + n % 128) (omega arith))
    by true false r s hp hq hr hs =
        let below : n < 2 ^ 28 = ltb-true _ _ hp in
        let above : 2 ^ 21 ≤ n = ltb-false _ _ hq in
        let a : ℕ = 128 + n / 2 ^ 21 % 128 in
        let b : ℕ = 128 + n / 2 ^ 14 % 128 in
        let c : ℕ = 128 + n / 2 ^ 7 % 128 in
        rw (hp, hq, le-ltb n (2 ^ 14) (omega arith), le-ltb n (2 ^ 7) (omega arith))
        (first_group a (b ∷ c ∷ n % 128 ∷ rest) (omega arith) ∙ next_group (0 * 128 + a % 128) b (c ∷ n % 128 ∷ rest)
        (omega arith)
        ∙ next_group ((0 * 128 + a % 128) * 128 + b % 128) c (n % 128 ∷ rest) (omega arith)
        ∙ last_group false (((0 * 128 + a % 128) * 128 + b % 128) * 128 + c % 128) (n % 128) rest lowest
        ∙ is ((((0 * 128 + a % 128) * 128 + b % 128) * 128 + c % 128) * 128 + n % 128) (omega arith))
    by false q r s hp hq hr hs =
        let above : 2 ^ 28 ≤ n = ltb-false _ _ hp in
        let a : ℕ = 128 + n / 2 ^ 28 % 128 in
        let b : ℕ = 128 + n / 2 ^ 21 % 128 in
        let c : ℕ = 128 + n / 2 ^ 14 % 128 in
        let d : ℕ = 128 + n / 2 ^ 7 % 128 in
        rw (hp, le-ltb n (2 ^ 21) (omega arith), le-ltb n (2 ^ 14) (omega arith), le-ltb n (2 ^ 7) (omega arith))
        (first_group a (b ∷ c ∷ d ∷ n % 128 ∷ rest) (omega arith) ∙ next_group (0 * 128 + a % 128) b
        (c ∷ d ∷ n % 128 ∷ rest) (omega arith)
        ∙ next_group ((0 * 128 + a % 128) * 128 + b % 128) c (d ∷ n % 128 ∷ rest) (omega arith)
        ∙ next_group (((0 * 128 + a % 128) * 128 + b % 128) * 128 + c % 128) d (n % 128 ∷ rest) (omega arith)
        ∙ last_group false ((((0 * 128 + a % 128) * 128 + b % 128) * 128 + c % 128) * 128 + d % 128)
        (n % 128) rest lowest
        ∙ is (((((0 * 128 + a % 128) * 128 + b % 128) * 128 + c % 128) * 128 + d % 128) * 128 + n % 128)
        (omega arith))

-- ---- all numbers

abbrev is_arc : ℕ → Bool
is_arc n = nat_lt n (2 ^ 32)

all_groups_back : (ns : List ℕ) → list_all is_arc ns ≡ true → subidentifiers true 0 (flat_map groups ns) ≡ Some ns
all_groups_back [] h = refl
all_groups_back (n ∷ ns) h =
    let w = both_true (is_arc n) (list_all is_arc ns) h in
    let less : n < 2 ^ 32 = ltb-true n (2 ^ 32) w.0 in
    groups_back n (flat_map groups ns) (omega arith)
    ∙ ap (λ (o : Option (List ℕ)). cons_to o n) (all_groups_back ns w.1)

-- ---- the two first arcs

first_is : (a b : ℕ) → nat_lt a 3 ≡ true → (nat_lt 1 a || nat_lt b 40) ≡ true → first_arc (40 * a + b) ≡ a
first_is zero b h k =
    let less : b < 40 = ltb-true b 40 k in
    let low : nat_lt (40 * 0 + b) 40 ≡ true = lt-ltb (40 * 0 + b) 40 (omega arith) in rw low refl
first_is (suc zero) b h k =
    let less : b < 40 = ltb-true b 40 k in
    let high : nat_lt (40 * 1 + b) 40 ≡ false = le-ltb (40 * 1 + b) 40 (omega arith) in
    let low : nat_lt (40 * 1 + b) 80 ≡ true = lt-ltb (40 * 1 + b) 80 (omega arith) in rw (high, low) refl
first_is (suc (suc zero)) b h k =
    let high : nat_lt (40 * 2 + b) 40 ≡ false = le-ltb (40 * 2 + b) 40 (omega arith) in
    let higher : nat_lt (40 * 2 + b) 80 ≡ false = le-ltb (40 * 2 + b) 80 (omega arith) in rw (high, higher) refl
first_is (suc (suc (suc a))) b h k =
    let less : suc (suc (suc a)) < 3 = ltb-true (suc (suc (suc a))) 3 h in absurd (omega arith)

pub oid_back : (arcs : List ℕ) → is_oid arcs ≡ true → oid_of (oid_octets arcs) ≡ Some arcs
oid_back [] h = absurd (cc h)
oid_back (a ∷ []) h = absurd (cc h)
oid_back (a ∷ b ∷ arcs) h =
    let x = both_true (nat_lt a 3 && (nat_lt 1 a || nat_lt b 40)) (list_all is_arc (a ∷ b ∷ arcs)) h in
    let y = both_true (nat_lt a 3) (nat_lt 1 a || nat_lt b 40) x.0 in
    let z = both_true (is_arc a) (list_all is_arc (b ∷ arcs)) x.1 in
    let u = both_true (is_arc b) (list_all is_arc arcs) z.1 in
    let less : a < 3 = ltb-true a 3 y.0 in
    let small : b < 2 ^ 32 = ltb-true b (2 ^ 32) u.0 in
    let n : ℕ = 40 * a + b in
    let whole : subidentifiers true 0 (groups n ++ flat_map groups arcs) ≡ Some (n ∷ arcs) =
    groups_back n (flat_map groups arcs) (omega arith)
    ∙ ap (λ (o : Option (List ℕ)). cons_to o n) (all_groups_back arcs u.1) in
    let first : first_arc n ≡ a = first_is a b y.0 y.1 in
    let second : n - 40 * first_arc n ≡ b = ap (λ (k : ℕ). n - 40 * k) first ∙ omega arith in
    let same : arcs_of (n ∷ arcs) ≡ a ∷ b ∷ arcs = ap₂ (λ (k l : ℕ). k ∷ l ∷ arcs) first second in
    ap (λ (o : Option (List ℕ)). in_option None (λ ns. where_so (is_oid (arcs_of ns)) (arcs_of ns)) o) whole
    ∙ ap (λ (l : List ℕ). where_so (is_oid l) l) same ∙ ap (λ (t : Bool). where_so t (a ∷ b ∷ arcs)) h
