-- The search for longer pins, length by length: one length more brings the first context whose prefix is that of the name.
use Rattle.std.proofs.Common.{◌≡◌, ℕ, ◌+◌, ◌<◌, ◌≤◌, true, ◌&&◌, ◌||◌, nat_lt, nat_le, ◌⊎◌, inl, inr, List, take, length, Option, sym, ap, subst, ◌∙◌, arith, length-take}
use Rattle.std.specs.Cmp.{both_ways}
use Rattle.x5_model.specs.Keys.{Key, IsPrefix, same_key, is_prefix}
use Rattle.x5_model.specs.Entries.{Named}
use Rattle.x5_model.proofs.KeyLaws.{key_decides}
use Rattle.x5_model.proofs.Lists.{both_true, and_true, either_true, or_left, or_right}
use Rattle.x5_model.proofs.Prefixes.{prefix_decides, take_is_prefix}
use Rattle.x5_model_tree.specs.Tree.{key_at}
use Rattle.x5_model_tree.specs.Masters.{Mastered, pin_of}
use Rattle.x5_check.specs.Rows.{IsNext}
use Rattle.x5_check.specs.Numbers.{prefix_places}
use Rattle.x5_check.specs.Parts.{IsPlace, earlier, is_longer_within}
use Rattle.x5_check.proofs.Places.{place_of_next, place_join, place_same}

at_most_or : (n count : ℕ) → n ≤ count + 1 → (n ≤ count) ⊎ (n ≡ count + 1)
at_most_or n count h = grind arith

le_of : (a b : ℕ) → nat_le a b ≡ true → a ≤ b
le_of a b e = grind arith

of_le : (a b : ℕ) → a ≤ b → nat_le a b ≡ true
of_le a b h = grind arith

of_lt : (a b : ℕ) → a < b → nat_lt a b ≡ true
of_lt a b h = grind arith

module _ (a count : ℕ) (pin k : Key) (low : a ≤ count) (high : count < length k) where
  more : ((nat_lt a (length pin) && nat_le (length pin) count) && is_prefix pin k) ≡ true → ((nat_lt a (length pin) && nat_le (length pin) (count + 1)) && is_prefix pin k) ≡ true
  more e =
      let w = both_true (nat_lt a (length pin) && nat_le (length pin) count) (is_prefix pin k) e in
      let v = both_true (nat_lt a (length pin)) (nat_le (length pin) count) w.0 in
      let le : length pin ≤ count = le_of (length pin) count v.1 in
      and_true (nat_lt a (length pin) && nat_le (length pin) (count + 1)) (is_prefix pin k) (and_true (nat_lt a (length pin)) (nat_le (length pin) (count + 1)) v.0 (of_le (length pin) (count + 1) (omega arith))) w.1

  exact : same_key pin (take (count + 1) k) ≡ true → ((nat_lt a (length pin) && nat_le (length pin) (count + 1)) && is_prefix pin k) ≡ true
  exact e =
      let s : pin ≡ take (count + 1) k = (key_decides pin (take (count + 1) k)).0 e in
      let n : length pin ≡ count + 1 = (let l : length pin ≡ length (take (count + 1) k) = ap length s in omega (arith, length-take (count + 1) k)) in
      let p : IsPrefix pin k = subst (λ (x : Key). IsPrefix x k) (sym s) (take_is_prefix (count + 1) k (omega arith)) in
      and_true (nat_lt a (length pin) && nat_le (length pin) (count + 1)) (is_prefix pin k) (and_true (nat_lt a (length pin)) (nat_le (length pin) (count + 1)) (of_lt a (length pin) (omega arith)) (of_le (length pin) (count + 1) (omega arith))) ((prefix_decides pin k).1 p)

  fewer : ((nat_lt a (length pin) && nat_le (length pin) (count + 1)) && is_prefix pin k) ≡ true → (((nat_lt a (length pin) && nat_le (length pin) count) && is_prefix pin k) || same_key pin (take (count + 1) k)) ≡ true
  fewer e =
      let w = both_true (nat_lt a (length pin) && nat_le (length pin) (count + 1)) (is_prefix pin k) e in
      let v = both_true (nat_lt a (length pin)) (nat_le (length pin) (count + 1)) w.0 in
      elim (at_most_or (length pin) count (le_of (length pin) (count + 1) v.1)) [
        | inl le ↦ or_left ((nat_lt a (length pin) && nat_le (length pin) count) && is_prefix pin k) (same_key pin (take (count + 1) k)) (and_true (nat_lt a (length pin) && nat_le (length pin) count) (is_prefix pin k) (and_true (nat_lt a (length pin)) (nat_le (length pin) count) v.0 (of_le (length pin) count le)) w.1)
        | inr n ↦ or_right ((nat_lt a (length pin) && nat_le (length pin) count) && is_prefix pin k) (same_key pin (take (count + 1) k)) (let p : IsPrefix pin k = (prefix_decides pin k).0 w.1 in (key_decides pin (take (count + 1) k)).1 (sym p ∙ ap (λ (m : ℕ). take m k) n))
      ]

  one_length : (((nat_lt a (length pin) && nat_le (length pin) count) && is_prefix pin k) || same_key pin (take (count + 1) k)) ≡ ((nat_lt a (length pin) && nat_le (length pin) (count + 1)) && is_prefix pin k)
  one_length =
      both_ways (((nat_lt a (length pin) && nat_le (length pin) count) && is_prefix pin k) || same_key pin (take (count + 1) k)) ((nat_lt a (length pin) && nat_le (length pin) (count + 1)) && is_prefix pin k) (λ e. elim (either_true ((nat_lt a (length pin) && nat_le (length pin) count) && is_prefix pin k) (same_key pin (take (count + 1) k)) e) [ inl h ↦ more h | inr h ↦ exact h ]) fewer

pub longer_more : (ms : List Mastered) (m : Mastered) (e : Named) (count : ℕ) (key : Key) (found next : Option ℕ) → key ≡ key_at e → length (pin_of m) ≤ count → count < length key → IsPlace (is_longer_within count m e) ms found → IsNext (prefix_places ms) (take (count + 1) key) 0 next → IsPlace (is_longer_within (count + 1) m e) ms (earlier found next)
longer_more ms m e count key found next s low high h n =
    let lt : count < length (key_at e) = subst (λ (k : Key). count < length k) s high in
    let at : IsPlace (λ p. same_key (pin_of p) (take (count + 1) (key_at e))) ms next =
    place_of_next (λ (p : Mastered). same_key (pin_of p) (take (count + 1) (key_at e))) ms next (subst (λ (k : Key). IsNext (prefix_places ms) (take (count + 1) k) 0 next) s n) in
    place_same (λ (p : Mastered). is_longer_within count m e p || same_key (pin_of p) (take (count + 1) (key_at e))) (λ p. is_longer_within (count + 1) m e p) ms (earlier found next) (λ p. one_length (length (pin_of m)) count (pin_of p) (key_at e) low lt) (place_join (λ (p : Mastered). is_longer_within count m e p) (λ p. same_key (pin_of p) (take (count + 1) (key_at e))) ms found next h at)
