-- A name that stands at a later place isn't among the earlier ones, where no two are the same; so it's added.
use Rattle.std.proofs.Common.{◌≡◌, ℕ, zero, suc, ◌+◌, Bool, true, false, not, ◌||◌, inl, inr, List, [], ◌∷◌, ◌++◌, take, slice_get, refl, sym, ap, subst, ◌∙◌, arith, Some}
use Rattle.std.specs.Prelude.{if◌then◌else◌}
use Rattle.std.specs.List.{list_any}
use Rattle.std.specs.Cmp.Lexicographic.{bytes_decides}
use Rattle.x5_model.specs.Words.{has, distinct, same_octets}
use Rattle.x5_model.proofs.Lists.{both_true, true_or_false}
use Rattle.x5_know.specs.Names.{has_name, with_name}

false_true : false ≡ true → ⊥
false_true e = cc

either : (b c : Bool) → b ≡ true → (b || c) ≡ true
either true c e = refl
either false c e = absurd (false_true e)

later : (b c : Bool) → c ≡ true → (b || c) ≡ true
later true c e = refl
later false c e = e

neither : (b c : Bool) → b ≡ false → c ≡ false → (b || c) ≡ false
neither true c e f = absurd (false_true (sym e))
neither false c e f = f

no : (b : Bool) → not b ≡ true → b ≡ false
no true q = absurd (false_true q)
no false q = refl

member : (ys : List (List ℕ)) (i : ℕ) (x : List ℕ) → slice_get ys i ≡ Some x → has same_octets ys x ≡ true
member [] i x e = cc
member (z ∷ zs) zero x e =
    let q : z ≡ x = cc in either (same_octets z x) (has same_octets zs x) ((bytes_decides z x).1 q)
member (z ∷ zs) (suc i) x e = later (same_octets z x) (has same_octets zs x) (member zs i x e)

apart : (ys : List (List ℕ)) (i : ℕ) (x y : List ℕ) → has same_octets ys y ≡ false → slice_get ys i ≡ Some x
    → same_octets x y ≡ false
apart ys i x y h e = elim (true_or_false (same_octets x y)) [
  | inl t ↦
      (let same : x ≡ y = (bytes_decides x y).0 t in
      absurd
      (false_true (sym h ∙ subst (λ (z : List ℕ). has same_octets ys z ≡ true) same (member ys i x e))))
  | inr f ↦ f
]

new_name : (names : List (List ℕ)) (i : ℕ) (x : List ℕ) → distinct same_octets names ≡ true
    → slice_get names i ≡ Some x → has_name (take i names) x ≡ false
new_name [] i x d e = cc
new_name (y ∷ ys) zero x d e = refl
new_name (y ∷ ys) (suc i) x d e =
    let b = both_true (not (has same_octets ys y)) (distinct same_octets ys) d in
    neither (same_octets x y) (list_any (same_octets x) (take i ys))
    (apart ys i x y (no (has same_octets ys y) b.0) e) (new_name ys i x b.1 e)

take_more : (names : List (List ℕ)) (i : ℕ) (x : List ℕ) → slice_get names i ≡ Some x
    → take i names ++ x ∷ [] ≡ take (suc i) names
take_more [] i x e = cc
take_more (y ∷ ys) zero x e = let q : x ≡ y = cc in ap (λ (z : List ℕ). z ∷ []) q
take_more (y ∷ ys) (suc i) x e = ap (λ (zs : List (List ℕ)). y ∷ zs) (take_more ys i x e)

added : (b : Bool) (names more : List (List ℕ)) → b ≡ false → (if b then names else more) ≡ more
added true names more e = absurd (false_true (sym e))
added false names more e = refl

pub one_more : (names copy next : List (List ℕ)) (i : ℕ) (x : List ℕ) → distinct same_octets names ≡ true
    → slice_get names i ≡ Some x → copy ≡ take i names → next ≡ with_name copy x → next ≡ take (i + 1) names
one_more names copy next i x d e c n =
    let one : suc i ≡ i + 1 = omega arith in
    n ∙ ap (λ (ns : List (List ℕ)). with_name ns x) c
    ∙ added (has_name (take i names) x) (take i names) (take i names ++ x ∷ []) (new_name names i x d e)
    ∙ take_more names i x e ∙ ap (λ (k : ℕ). take k names) one
