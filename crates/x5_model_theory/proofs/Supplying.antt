-- Who supplies a copy: no two agreements give an agent one context.
use Rattle.std.proofs.Common.{◌≡◌, ℕ, suc, ◌<◌, Bool, true, false, cond, inl, inr, List, [], ◌∷◌, map, length, refl, sym, ap, subst, ◌∙◌, arith, Some, if◌then◌else◌}
use Rattle.std.specs.Bool.{Decides}
use Rattle.std.specs.List.{filter}
use Rattle.x5_model.specs.Members.{In, here, there, Once}
use Rattle.x5_model.specs.Keys.{Key}
use Rattle.x5_model.specs.Values.{key_of}
use Rattle.x5_model.proofs.Lists.{in_first, in_map, of_map, true_or_false}
use Rattle.x5_model_tree.specs.World.{Agreement, World}
use Rattle.x5_model_tree.specs.Masters.{is_consumer, supplier_among, supplier_of}
use Rattle.x5_model_theory.specs.Knowledge.{Supply}
use Rattle.x5_model_theory.specs.Described.{supply_of}
use Rattle.x5_model_theory.proofs.Tests.{false_true}
use Rattle.x5_model_theory.proofs.Views.{consumer_decides}

-- how many members have the image that x has
module _ {A B : Type 0} (f : A → B) (same : A → A → Bool) (decides : (x y : A) → Decides (same x y) (f y ≡ f x)) where
  counted : (b : Bool) (y : A) (rest : List A) → (b ≡ true → length (cond b (y ∷ rest) rest) ≡ suc (length rest)) × (b ≡ false → length (cond b (y ∷ rest) rest) ≡ length rest)
  counted true y rest = (λ e. refl, λ e. absurd (false_true (sym e)))
  counted false y rest = (λ e. absurd (false_true e), λ e. refl)

  some_counted : (x y : A) (xs : List A) → In y xs → f y ≡ f x → 0 < length (filter (same x) xs)
  some_counted x y [] i e = elim i [ ]
  some_counted x y (z ∷ xs) i e =
      let c = counted (same x z) z (filter (same x) xs) in
      elim (in_first y z xs i) [
        | inl p ↦
            let n : length (filter (same x) (z ∷ xs)) ≡ suc (length (filter (same x) xs)) = c.0 ((decides x z).1 (ap f (sym p) ∙ e)) in
            omega arith
        | inr j ↦
            let more : 0 < length (filter (same x) xs) = some_counted x y xs j e in
            elim (true_or_false (same x z)) [
              | inl t ↦ let n : length (filter (same x) (z ∷ xs)) ≡ suc (length (filter (same x) xs)) = c.0 t in omega arith
              | inr u ↦ let n : length (filter (same x) (z ∷ xs)) ≡ length (filter (same x) xs) = c.1 u in omega arith
            ]
      ]

  none_counted : (x : A) (xs : List A) → ((y : A) → In y xs → f y ≡ f x → ⊥) → length (filter (same x) xs) ≡ 0
  none_counted x [] h = refl
  none_counted x (z ∷ xs) h =
      let c = counted (same x z) z (filter (same x) xs) in
      elim (true_or_false (same x z)) [
        | inl t ↦ absurd (h z here ((decides x z).0 t))
        | inr u ↦ c.1 u ∙ none_counted x xs (λ y i. h y (there i))
      ]

  pub once_apart : (xs : List A) → ((x : A) → In x xs → length (filter (same x) xs) ≡ 1) → Once (map f xs)
  once_apart [] h = tt
  once_apart (z ∷ xs) h =
      let c = counted (same z z) z (filter (same z) xs) in
      let twice : length (filter (same z) (z ∷ xs)) ≡ suc (length (filter (same z) xs)) = c.0 ((decides z z).1 refl) in
      let new : In (f z) (map f xs) → ⊥ = λ i.
      let w = of_map f (f z) xs i in
      let some : 0 < length (filter (same z) xs) = some_counted z w.0 xs w.1 (sym w.2) in
      let one : length (filter (same z) (z ∷ xs)) ≡ 1 = h z here in
      omega arith in
      let rest : (x : A) → In x xs → length (filter (same x) xs) ≡ 1 = λ x i.
      let one : length (filter (same x) (z ∷ xs)) ≡ 1 = h x (there i) in
      let some : 0 < length (filter (same x) xs) = some_counted x x xs i refl in
      let d = counted (same x z) z (filter (same x) xs) in
      elim (true_or_false (same x z)) [
        | inl t ↦ let n : length (filter (same x) (z ∷ xs)) ≡ suc (length (filter (same x) xs)) = d.0 t in omega arith
        | inr u ↦ sym (d.1 u) ∙ one
      ] in
      (new, once_apart xs rest)

  apart_once : (xs : List A) → Once (map f xs) → (x : A) → In x xs → length (filter (same x) xs) ≡ 1
  apart_once [] d x i = elim i [ ]
  apart_once (z ∷ xs) d x i =
      let c = counted (same x z) z (filter (same x) xs) in
      elim (in_first x z xs i) [
        | inl e ↦
            let none : length (filter (same x) xs) ≡ 0 = none_counted x xs (λ y j same. d.0 (subst (λ (b : B). In b (map f xs)) (same ∙ ap f e) (in_map f y xs j))) in
            let one : length (filter (same x) (z ∷ xs)) ≡ suc (length (filter (same x) xs)) = c.0 ((decides x z).1 (ap f (sym e))) in
            omega arith
        | inr j ↦
            let one : length (filter (same x) xs) ≡ 1 = apart_once xs d.1 x j in
            elim (true_or_false (same x z)) [
              | inl t ↦ absurd (d.0 (subst (λ (b : B). In b (map f xs)) (sym ((decides x z).0 t)) (in_map f x xs j)))
              | inr u ↦ c.1 u ∙ one
            ]
      ]

abbrev pub given : Agreement → ℕ × Key
given g = (g.consumer, key_of g.context)

abbrev pub same_given : Agreement → Agreement → Bool
same_given g h = is_consumer g.consumer (key_of g.context) h

pub given_decides : (g h : Agreement) → Decides (same_given g h) (given h ≡ given g)
given_decides g h =
    let d = consumer_decides g.consumer (key_of g.context) h in
    let left : ℕ → ℕ × Key = λ n. (n, key_of h.context) in
    let right : Key → ℕ × Key = λ p. (g.consumer, p) in
    (λ t. let e = d.0 t in ap left e.0 ∙ ap right e.1, λ e. d.1 (ap (λ (p : ℕ × Key). p.0) e, ap (λ (p : ℕ × Key). p.1) e))

-- the one supplier
supplier_among_is : (gs : List Agreement) (g : Agreement) → Once (map given gs) → In g gs → supplier_among gs g.consumer (key_of g.context) ≡ Some g.supplier
supplier_among_is [] g d i = elim i [ ]
supplier_among_is (h ∷ gs) g d i =
    elim (in_first g h gs i) [
      | inl e ↦ chosen (same_given g h) ((given_decides g h).1 (ap given (sym e))) (ap (λ (x : Agreement). Some x.supplier) (sym e))
      | inr j ↦
          let other : same_given g h ≡ true → ⊥ = λ t. d.0 (subst (λ (x : ℕ × Key). In x (map given gs)) (sym ((given_decides g h).0 t)) (in_map given g gs j)) in
          passed (same_given g h) other (supplier_among_is gs g d.1 j)
    ]
  where
    chosen : (b : Bool) → b ≡ true → Some h.supplier ≡ Some g.supplier → (if b then Some h.supplier else supplier_among gs g.consumer (key_of g.context)) ≡ Some g.supplier
    chosen true e s = s
    chosen false e s = absurd (false_true e)

    passed : (b : Bool) → (b ≡ true → ⊥) → supplier_among gs g.consumer (key_of g.context) ≡ Some g.supplier → (if b then Some h.supplier else supplier_among gs g.consumer (key_of g.context)) ≡ Some g.supplier
    passed true h e = absurd (h refl)
    passed false h e = e

pub of_supplier : (gs : List Agreement) (a b : ℕ) (pin : Key) → supplier_among gs a pin ≡ Some b → (g : Agreement) × In g gs × (g.consumer ≡ a) × (key_of g.context ≡ pin) × (g.supplier ≡ b)
of_supplier [] a b pin e = cc
of_supplier (h ∷ gs) a b pin e = go (is_consumer a pin h) refl e (of_supplier gs a b pin)
  where
    go : (c : Bool) → is_consumer a pin h ≡ c → (if c then Some h.supplier else supplier_among gs a pin) ≡ Some b
        → (supplier_among gs a pin ≡ Some b → (g : Agreement) × In g gs × (g.consumer ≡ a) × (key_of g.context ≡ pin) × (g.supplier ≡ b))
        → (g : Agreement) × In g (h ∷ gs) × (g.consumer ≡ a) × (key_of g.context ≡ pin) × (g.supplier ≡ b)
    go true t s more = let d = (consumer_decides a pin h).0 t in let same : h.supplier ≡ b = cc in (h, here, d.0, d.1, same)
    go false t s more = let w = more s in (w.0, there w.1, w.2, w.3, w.4)

module _ (w : World) where
  pub supplier_is : (s : Supply) → Once (map given w.agreements) → In s (map supply_of w.agreements) → supplier_of w s.consumer s.prefix ≡ Some s.supplier
  supplier_is s d i =
      let g = of_map supply_of s w.agreements i in
      subst (λ (x : Supply). supplier_of w x.consumer x.prefix ≡ Some x.supplier) (sym g.2) (supplier_among_is w.agreements g.0 d g.1)
