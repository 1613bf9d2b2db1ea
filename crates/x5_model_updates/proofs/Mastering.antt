-- The master of a pin among contexts: the first that has it.
use Rattle.std.proofs.Common.{◌≡◌, ℕ, Bool, true, false, ◌⊎◌, inl, inr, List, [], ◌∷◌, map, refl, sym, ap, subst, ◌∙◌, Option, Some, if◌then◌else◌}
use Rattle.x5_model.specs.Members.{In, Once, here, there}
use Rattle.x5_model.specs.Keys.{Key, same_key}
use Rattle.x5_model.proofs.KeyLaws.{key_decides}
use Rattle.x5_model.proofs.Lists.{true_or_false, in_first, in_map}
use Rattle.x5_model_tree.specs.Masters.{Mastered, pin_of, master_among}

abbrev first_or : Mastered → List Mastered → Key → Bool → Option ℕ
first_or m ms pin b = if b then Some m.master else master_among ms pin

inside_some : (a b : ℕ) → Some a ≡ Some b → a ≡ b
inside_some a b e = cc

-- a pin's master masters it
pub among : (ms : List Mastered) (pin : Key) (o : ℕ) → master_among ms pin ≡ Some o → (m : Mastered) × In m ms × (m.master ≡ o) × (pin_of m ≡ pin)
among [] pin o e = cc
among (m ∷ ms) pin o e = by (same_key (pin_of m) pin) refl e (among ms pin o)
  where
    by : (b : Bool) → same_key (pin_of m) pin ≡ b → first_or m ms pin b ≡ Some o → (master_among ms pin ≡ Some o → (q : Mastered) × In q ms × (q.master ≡ o) × (pin_of q ≡ pin))
        → (q : Mastered) × In q (m ∷ ms) × (q.master ≡ o) × (pin_of q ≡ pin)
    by true s e rest = (m, here, inside_some m.master o e, (key_decides (pin_of m) pin).0 s)
    by false s e rest = (let q = rest e in (q.0, there q.1, q.2, q.3))

-- and where pins come once, each context's master is found
abbrev some_master : Mastered → Option ℕ
some_master m = Some m.master

pub found_among : (ms : List Mastered) (m : Mastered) → Once (map pin_of ms) → In m ms → master_among ms (pin_of m) ≡ Some m.master
found_among [] m o i = elim i [ ]
found_among (x ∷ ms) m o i = by (in_first m x ms i) (found_among ms m o.1)
  where
    by : (m ≡ x) ⊎ In m ms → (In m ms → master_among ms (pin_of m) ≡ Some m.master) → first_or x ms (pin_of m) (same_key (pin_of x) (pin_of m)) ≡ Some m.master
    by (inl s) rest =
        ap (first_or x ms (pin_of m)) ((key_decides (pin_of x) (pin_of m)).1 (ap pin_of (sym s))) ∙ ap (λ (y : Mastered). some_master y) (sym s)
    by (inr j) rest =
        elim (true_or_false (same_key (pin_of x) (pin_of m))) [
          | inl t ↦ absurd (o.0 (subst (λ (y : Key). In y (map pin_of ms)) (sym ((key_decides (pin_of x) (pin_of m)).0 t)) (in_map pin_of m ms j)))
          | inr f ↦ ap (first_or x ms (pin_of m)) f ∙ rest j
        ]
