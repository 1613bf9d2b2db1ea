-- A number of eight octets at most reads back from the octets that are written for it (X.690, section 8.3).
use Rattle.std.proofs.Common.{◌≡◌, ℕ, zero, suc, ◌+◌, ◌-◌, ◌*◌, ◌^◌, ◌<◌, ◌≤◌, Bool, true, false, not, ◌&&◌, ◌==◌, nat_lt, nat_le, if◌then◌else◌, List, [], ◌∷◌, map, length, refl, sym, ap, ap₂, ◌∙◌, arith}
use Rattle.std.specs.Prelude.{ℤ, pos, negsuc}
use Rattle.std.proofs.lemmas.Bool.{lt-ltb, ltb-true, ltb-false, le-ltb, le-leb, lt-leb}
use Rattle.std.proofs.lemmas.Bool.Decides.{nat_tests}
use Rattle.std.proofs.lemmas.List.{length-map}
use Rattle.std.specs.Int.{to_be_bytes, bytes_high_first, byte_at, w64}
use Rattle.std.specs.List.{list_all}
use Rattle.std.specs.declared.option.Option.TheVariants.{Some}
use Rattle.x5_model.proofs.Lists.{both_true, and_true}
use Rattle.x5_model_octets.specs.Headers.{big_endian}
use Rattle.x5_model_octets.specs.Elements.{without_zeros}
use Rattle.x5_model_typed.specs.Leaves.{where_so, is_shortest, complement, number_of, unsigned, number_octets, is_short_number}

-- ---- the octets of a number without leading zeros

abbrev is_octet : ℕ → Bool
is_octet o = nat_lt o 256

-- the first isn't zero
abbrev is_led : List ℕ → Bool
is_led [] = true
is_led (a ∷ os) = not (a == 0)

pub record AreDigits (n : ℕ) (ds : List ℕ) : Type 0 where
  pub gives : big_endian 0 ds ≡ n
  pub octets : list_all is_octet ds ≡ true
  pub led : is_led ds ≡ true
  pub few : length (unsigned ds) ≤ 8

kept_value : (ds : List ℕ) → big_endian 0 (without_zeros ds) ≡ big_endian 0 ds
kept_value [] = refl
kept_value (d ∷ ds) = by (d == 0) refl (kept_value ds)
  where
    by : (b : Bool) → (d == 0) ≡ b → big_endian 0 (without_zeros ds) ≡ big_endian 0 ds
        → big_endian 0 (without_zeros (d ∷ ds)) ≡ big_endian (0 * 256 + d) ds
    by true e again = let none : d ≡ 0 = grind (arith, nat_tests) in rw (e, none) again
    by false e again = rw e refl

kept_octets : (ds : List ℕ) → list_all is_octet ds ≡ true → list_all is_octet (without_zeros ds) ≡ true
kept_octets [] h = refl
kept_octets (d ∷ ds) h = by (d == 0) refl (kept_octets ds (both_true (is_octet d) (list_all is_octet ds) h).1)
  where
    by : (b : Bool) → (d == 0) ≡ b → list_all is_octet (without_zeros ds) ≡ true
        → list_all is_octet (without_zeros (d ∷ ds)) ≡ true
    by true e again = rw e again
    by false e again = rw e h

now_led : (ds : List ℕ) → is_led (without_zeros ds) ≡ true
now_led [] = refl
now_led (d ∷ ds) = by (d == 0) refl (now_led ds)
  where
    by : (b : Bool) → (d == 0) ≡ b → is_led (without_zeros ds) ≡ true → is_led (without_zeros (d ∷ ds)) ≡ true
    by true e again = rw e again
    by false e again = rw (e, e) refl

no_longer : (ds : List ℕ) → length (without_zeros ds) ≤ length ds
no_longer [] = omega arith
no_longer (d ∷ ds) = by (d == 0) refl (no_longer ds)
  where
    by : (b : Bool) → (d == 0) ≡ b → length (without_zeros ds) ≤ length ds
        → length (without_zeros (d ∷ ds)) ≤ suc (length ds)
    by true e again = rw e (omega arith)
    by false e again = rw e (omega arith)

one_more : (ds : List ℕ) → length (unsigned ds) ≤ length ds + 1
one_more [] = omega arith
one_more (a ∷ os) = by (nat_lt a 128) refl
  where
    by : (b : Bool) → nat_lt a 128 ≡ b → length (unsigned (a ∷ os)) ≤ suc (length os) + 1
    by true e = rw e (omega arith)
    by false e = rw e (omega arith)

-- eight octets of which the first is below 128
room : (d : ℕ) (ds : List ℕ) → d < 128 → length ds ≡ 7 → length (unsigned (without_zeros (d ∷ ds))) ≤ 8
room d ds less seven = by (d == 0) refl
  where
    by : (b : Bool) → (d == 0) ≡ b → length (unsigned (without_zeros (d ∷ ds))) ≤ 8
    by true e = rw e (omega (arith, one_more (without_zeros ds), no_longer ds))
    by false e = let low : nat_lt d 128 ≡ true = lt-ltb d 128 less in rw (e, low) (omega arith)

octets_give : (n : ℕ) → n < 2 ^ 64 → big_endian 0 (to_be_bytes w64 n) ≡ n
octets_give n small = omega arith

byte_below : (k n : ℕ) → byte_at k n < 256
byte_below zero n = omega arith
byte_below (suc k) n = omega arith

octets_below : (k n : ℕ) → list_all is_octet (bytes_high_first k n) ≡ true
octets_below zero n = refl
octets_below (suc k) n =
    and_true (is_octet (byte_at k n)) (list_all is_octet (bytes_high_first k n))
    (lt-ltb (byte_at k n) 256 (byte_below k n)) (octets_below k n)

first_below : (n : ℕ) → n < 2 ^ 63 → byte_at 7 n < 128
first_below n small = omega arith

digits_of : (n : ℕ) → n < 2 ^ 63 → AreDigits n (without_zeros (to_be_bytes w64 n))
digits_of n small = record {
  gives = kept_value (to_be_bytes w64 n) ∙ octets_give n (omega arith);
  octets = kept_octets (to_be_bytes w64 n) (octets_below 8 n);
  led = now_led (to_be_bytes w64 n);
  few = room (byte_at 7 n) (bytes_high_first 7 n) (first_below n small) refl;
}

-- ---- numbers from zero

gives_back : (ds : List ℕ) → complement (unsigned ds) ≡ pos (big_endian 0 ds)
gives_back [] = refl
gives_back (a ∷ os) = by (nat_lt a 128) refl
  where
    by : (b : Bool) → nat_lt a 128 ≡ b → complement (unsigned (a ∷ os)) ≡ pos (big_endian (0 * 256 + a) os)
    by true e = rw (e, e) refl
    by false e = rw e refl

shortest : (ds : List ℕ) → is_led ds ≡ true → is_shortest (unsigned ds) ≡ true
shortest [] h = refl
shortest (a ∷ []) h = by (nat_lt a 128) refl
  where
    by : (b : Bool) → nat_lt a 128 ≡ b → is_shortest (unsigned (a ∷ [])) ≡ true
    by true e = rw e refl
    by false e = rw (e, e) refl
shortest (a ∷ b ∷ os) h = by (nat_lt a 128) refl
  where
    by : (t : Bool) → nat_lt a 128 ≡ t → is_shortest (unsigned (a ∷ b ∷ os)) ≡ true
    by true e =
        let less : a < 128 = ltb-true a 128 e in
        let some : (a == 0) ≡ false = grind (arith, nat_tests) in
        let low : (a == 255) ≡ false = grind (arith, nat_tests) in
        rw (e, some, low) refl
    by false e = rw (e, e) refl

pub positive_back : (n : ℕ) → n < 2 ^ 63 → number_of (number_octets (pos n)) ≡ Some (pos n)
positive_back n small =
    let d = digits_of n small in
    let ds : List ℕ = without_zeros (to_be_bytes w64 n) in
    ap₂ (λ (b c : Bool). where_so (b && c) (complement (unsigned ds))) (shortest ds d.led)
    (le-leb (length (unsigned ds)) 8 d.few)
    ∙ ap (λ (k : ℤ). Some k) (gives_back ds ∙ ap (λ (k : ℕ). pos k) d.gives)

-- ---- numbers below zero

abbrev flip : ℕ → ℕ
flip o = 255 - o

pub power : (k : ℕ) → 2 ^ (8 * suc k) ≡ 256 * 2 ^ (8 * k)
power k =
    let e : 8 * suc k ≡ suc (suc (suc (suc (suc (suc (suc (suc (8 * k)))))))) = omega arith in
    let f : 2 ^ suc (suc (suc (suc (suc (suc (suc (suc (8 * k)))))))) ≡ 256 * 2 ^ (8 * k) = omega arith in
    ap (λ (j : ℕ). 2 ^ j) e ∙ f

pub regroup : (s q : ℕ) → s * 256 * q ≡ s * (256 * q)
regroup s q = omega arith

flipped_sum : (us : List ℕ) (x y : ℕ) → list_all is_octet us ≡ true
    → big_endian x (map flip us) + big_endian y us + 1 ≡ (x + y + 1) * 2 ^ (8 * length us)
flipped_sum [] x y h = omega arith
flipped_sum (d ∷ us) x y h =
    let w = both_true (is_octet d) (list_all is_octet us) h in
    let low : d < 256 = ltb-true d 256 w.0 in
    let rest = flipped_sum us (x * 256 + (255 - d)) (y * 256 + d) w.1 in
    let front : x * 256 + (255 - d) + (y * 256 + d) + 1 ≡ (x + y + 1) * 256 = omega arith in
    rest ∙ ap (λ (k : ℕ). k * 2 ^ (8 * length us)) front ∙ regroup (x + y + 1) (2 ^ (8 * length us))
    ∙ ap (λ (q : ℕ). (x + y + 1) * q) (sym (power (length us)))

flipped_gives : (a : ℕ) (os : List ℕ) → a < 128 → list_all is_octet (a ∷ os) ≡ true
    → complement (map flip (a ∷ os)) ≡ negsuc (big_endian 0 (a ∷ os))
flipped_gives a os less h =
    let high : nat_lt (255 - a) 128 ≡ false = le-ltb (255 - a) 128 (omega arith) in
    let sum : big_endian 0 (map flip (a ∷ os)) + big_endian 0 (a ∷ os) + 1 ≡ (0 + 0 + 1) * 2 ^ (8 * length (a ∷ os)) =
    flipped_sum (a ∷ os) 0 0 h in
    let same : length (map flip (a ∷ os)) ≡ length (a ∷ os) = length-map (a ∷ os) flip in
    let size : 2 ^ (8 * length (map flip (a ∷ os))) ≡ 2 ^ (8 * length (a ∷ os)) = ap (λ (k : ℕ). 2 ^ (8 * k)) same in
    let value : 2 ^ (8 * length (map flip (a ∷ os))) - 1 - big_endian 0 (map flip (a ∷ os)) ≡ big_endian 0 (a ∷ os) =
    omega (arith, sum, size) in
    ap
    (λ (b : Bool). if b then pos (big_endian 0 (map flip (a ∷ os))) else negsuc
    (2 ^ (8 * length (map flip (a ∷ os))) - 1 - big_endian 0 (map flip (a ∷ os)))) high
    ∙ ap (λ (k : ℕ). negsuc k) value

below_back : (ds : List ℕ) → list_all is_octet ds ≡ true
    → complement (map flip (unsigned ds)) ≡ negsuc (big_endian 0 ds)
below_back [] h = refl
below_back (a ∷ os) h = by (nat_lt a 128) refl
  where
    by : (b : Bool) → nat_lt a 128 ≡ b
        → complement (map flip (unsigned (a ∷ os))) ≡ negsuc (big_endian (0 * 256 + a) os)
    by true e = rw e (flipped_gives a os (ltb-true a 128 e) h)
    by false e = rw e (flipped_gives 0 (a ∷ os) (omega arith) (and_true true (list_all is_octet (a ∷ os)) refl h))

flipped_shortest : (ds : List ℕ) → is_led ds ≡ true → is_shortest (map flip (unsigned ds)) ≡ true
flipped_shortest [] h = refl
flipped_shortest (a ∷ []) h = by (nat_lt a 128) refl
  where
    by : (b : Bool) → nat_lt a 128 ≡ b → is_shortest (map flip (unsigned (a ∷ []))) ≡ true
    by true e = rw e refl
    by false e =
        let more : 128 ≤ a = ltb-false a 128 e in
        let low : nat_le 128 (255 - a) ≡ false = lt-leb 128 (255 - a) (omega arith) in rw (e, low) refl
flipped_shortest (a ∷ b ∷ os) h = by (nat_lt a 128) refl
  where
    by : (t : Bool) → nat_lt a 128 ≡ t → is_shortest (map flip (unsigned (a ∷ b ∷ os))) ≡ true
    by true e =
        let less : a < 128 = ltb-true a 128 e in
        let some : (a == 0) ≡ false = grind (arith, nat_tests) in
        let high : (255 - a == 0) ≡ false = grind (arith, nat_tests) in
        let full : (255 - a == 255) ≡ false = grind (arith, nat_tests) in
        rw (e, high, full) refl
    by false e =
        let more : 128 ≤ a = ltb-false a 128 e in
        let low : nat_le 128 (255 - a) ≡ false = lt-leb 128 (255 - a) (omega arith) in rw (e, low) refl

pub negative_back : (n : ℕ) → n < 2 ^ 63 → number_of (number_octets (negsuc n)) ≡ Some (negsuc n)
negative_back n small =
    let d = digits_of n small in
    let ds : List ℕ = without_zeros (to_be_bytes w64 n) in
    let few : length (map flip (unsigned ds)) ≤ 8 = omega (arith, d.few, length-map (unsigned ds) flip) in
    ap₂ (λ (b c : Bool). where_so (b && c) (complement (map flip (unsigned ds)))) (flipped_shortest ds d.led)
    (le-leb (length (map flip (unsigned ds))) 8 few)
    ∙ ap (λ (k : ℤ). Some k) (below_back ds d.octets ∙ ap (λ (k : ℕ). negsuc k) d.gives)

-- ---- the leaf

pub number_back : (k : ℤ) → is_short_number k ≡ true → number_of (number_octets k) ≡ Some k
number_back (pos n) h = positive_back n (ltb-true n (2 ^ 63) h)
number_back (negsuc n) h = negative_back n (ltb-true n (2 ^ 63) h)
