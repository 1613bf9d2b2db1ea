-- Prefixes of keys: a partial order, and what it says of parents. A prefix is a `take`.
use Rattle.std.proofs.Common.{◌≡◌, ℕ, zero, suc, ◌+◌, ◌-◌, ◌<◌, ◌≤◌, Bool, true, false, ◌&&◌, ◌==◌, nat_lt, List, [], ◌∷◌, length, take, refl, sym, ap, subst, ◌∙◌, arith, length-take}
use Rattle.std.proofs.Math.Seq.{take-length}
use Rattle.std.specs.Bool.{Decides}
use Rattle.x5_model.specs.Keys.{Key, IsPrefix, parent, is_prefix, is_child, is_below}
use Rattle.x5_model.proofs.KeyLaws.{key_decides}

pub take_take : {A : Type 0} (n m : ℕ) (xs : List A) → n ≤ m → take n (take m xs) ≡ take n xs
take_take zero m xs h = refl
take_take (suc n) zero xs h = absurd (omega arith)
take_take (suc n) (suc m) [] h = refl
take_take {A} (suc n) (suc m) (x ∷ xs) h = ap (λ (ys : List A). x ∷ ys) (take_take n m xs (omega arith))

pub prefix_itself : (a : Key) → IsPrefix a a
prefix_itself a = take-length a

pub root_is_prefix : (a : Key) → IsPrefix [] a
root_is_prefix a = refl

pub prefix_length : (a b : Key) → IsPrefix a b → length a ≤ length b
prefix_length a b p = let e : length (take (length a) b) ≡ length a = ap length p in omega (arith, length-take (length a) b)

pub prefix_chain : (a b c : Key) → IsPrefix a b → IsPrefix b c → IsPrefix a c
prefix_chain a b c p q = sym (take_take (length a) (length b) c (prefix_length a b p)) ∙ ap (take (length a)) q ∙ p

-- of two prefixes of one key the shorter is a prefix of the longer, and as long ones are equal
pub prefix_by_length : (a b c : Key) → IsPrefix a c → IsPrefix b c → length a ≤ length b → IsPrefix a b
prefix_by_length a b c p q h = ap (take (length a)) (sym q) ∙ take_take (length a) (length b) c h ∙ p

pub same_by_length : (a b c : Key) → IsPrefix a c → IsPrefix b c → length a ≡ length b → a ≡ b
same_by_length a b c p q h = sym p ∙ ap (λ (n : ℕ). take n c) h ∙ q

-- prefixes of each other are one
pub prefix_both_ways : (a b : Key) → IsPrefix a b → IsPrefix b a → a ≡ b
prefix_both_ways a b p q =
    let h : length a ≤ length b = prefix_length a b p in
    let k : length b ≤ length a = prefix_length b a q in
    same_by_length a b b p (prefix_itself b) (omega arith)

pub take_is_prefix : (n : ℕ) (a : Key) → n ≤ length a → IsPrefix (take n a) a
take_is_prefix n a h = let e : length (take n a) ≡ n = omega (arith, length-take n a) in ap (λ (m : ℕ). take m a) e

pub parent_length : (a : Key) → 0 < length a → length (parent a) + 1 ≡ length a
parent_length a h = omega (arith, length-take (length a - 1) a)

pub parent_is_prefix : (a : Key) → IsPrefix (parent a) a
parent_is_prefix a = take_is_prefix (length a - 1) a (omega arith)

-- what is a prefix and shorter is a prefix of the parent
pub prefix_of_parent : (a b : Key) → IsPrefix a b → length a < length b → IsPrefix a (parent b)
prefix_of_parent a b p h =
    let e : length (parent b) + 1 ≡ length b = parent_length b (omega arith) in
    prefix_by_length a (parent b) b p (parent_is_prefix b) (omega arith)

-- the tests agree
pub prefix_decides : (a b : Key) → Decides (is_prefix a b) (IsPrefix a b)
prefix_decides a b = key_decides (take (length a) b) a

first_of_two : (s t : Bool) → (s && t) ≡ true → s ≡ true
first_of_two true t e = refl
first_of_two false t e = e

second_of_two : (s t : Bool) → (s && t) ≡ true → t ≡ true
second_of_two true t e = e
second_of_two false t e = cc

-- a child is what has the other as its parent
pub child_decides : (above a : Key) → Decides (is_child above a) ((0 < length a) × (parent a ≡ above))
child_decides above a = (from, to)
  where
    from : is_child above a ≡ true → (0 < length a) × (parent a ≡ above)
    from e =
        let n : length a ≡ length above + 1 = (let t = first_of_two (length a == (length above + 1)) (is_prefix above a) e in grind arith) in
        let p : IsPrefix above a = (prefix_decides above a).0 (second_of_two (length a == (length above + 1)) (is_prefix above a) e) in
        let h : length (parent a) + 1 ≡ length a = parent_length a (omega arith) in
        (omega arith, same_by_length (parent a) above a (parent_is_prefix a) p (omega arith))

    to : (0 < length a) × (parent a ≡ above) → is_child above a ≡ true
    to h =
        let n : length (parent a) + 1 ≡ length a = parent_length a h.0 in
        let m : length (parent a) ≡ length above = ap length h.1 in
        let s : (length a == (length above + 1)) ≡ true = (let k : length a ≡ length above + 1 = omega arith in grind arith) in
        let t : is_prefix above a ≡ true = (prefix_decides above a).1 (subst (λ (k : Key). IsPrefix k a) h.1 (parent_is_prefix a)) in
        λ i. s i && t i

-- below is a longer name with the other as a prefix
pub below_decides : (above a : Key) → Decides (is_below above a) ((length above < length a) × IsPrefix above a)
below_decides above a = (from, to)
  where
    from : is_below above a ≡ true → (length above < length a) × IsPrefix above a
    from e =
        let n : length above < length a = (let t = first_of_two (nat_lt (length above) (length a)) (is_prefix above a) e in grind arith) in
        (n, (prefix_decides above a).0 (second_of_two (nat_lt (length above) (length a)) (is_prefix above a) e))

    to : (length above < length a) × IsPrefix above a → is_below above a ≡ true
    to h =
        let s : nat_lt (length above) (length a) ≡ true = (let k : length above < length a = h.0 in grind arith) in
        let t : is_prefix above a ≡ true = (prefix_decides above a).1 h.1 in
        λ i. s i && t i
