-- Lists whose members come once, and lists of references no two of which meet.
use Rattle.std.proofs.Common.{◌≡◌, ◌≢◌, ℕ, Bool, true, false, cond, not, inl, inr, List, [], ◌∷◌, ◌++◌, map, refl, sym, subst, ◌∙◌, ◌||◌, ◌⊎◌}
use Rattle.std.specs.Prelude.{⊤}
use Rattle.std.specs.List.{filter, list_any, flat_map}
use Rattle.x5_model.specs.Members.{In, Once, here, there}
use Rattle.x5_model.specs.Values.{key_of}
use Rattle.x5_model.specs.References.{Reference}
use Rattle.x5_model.proofs.Lists.{in_first, in_either, in_map, of_map, of_flat, of_filter, and_true}
use Rattle.x5_model_tree.specs.World.{World}
use Rattle.x5_model_run.specs.Covers.{meet, are_apart}

pub of_kept_map : {A K : Type 0} (f : A → K) (test : A → Bool) (y : K) (xs : List A) → In y (map f (filter test xs)) → In y (map f xs)
of_kept_map {A} {K} f test y xs i =
    let x = of_map f y (filter test xs) i in
    subst (λ (z : K). In z (map f xs)) (sym x.2) (in_map f x.0 xs (of_filter test x.0 xs x.1).0)

pub once_filter : {A K : Type 0} (f : A → K) (test : A → Bool) (xs : List A) → Once (map f xs) → Once (map f (filter test xs))
once_filter f test [] o = tt
once_filter {A} {K} f test (x ∷ xs) o = go (test x) (once_filter f test xs o.1)
  where
    go : (b : Bool) → Once (map f (filter test xs)) → Once (map f (cond b (x ∷ filter test xs) (filter test xs)))
    go true rest = (λ i. o.0 (of_kept_map f test (f x) xs i), rest)
    go false rest = rest

pub once_append : {A K : Type 0} (f : A → K) (xs ys : List A) → Once (map f xs) → Once (map f ys) → ((x y : A) → In x xs → In y ys → f x ≡ f y → ⊥) → Once (map f (xs ++ ys))
once_append f [] ys a b apart = b
once_append {A} {K} f (x ∷ xs) ys a b apart = (
  λ i.
      let z = of_map f (f x) (xs ++ ys) i in
      elim (in_either z.0 xs ys z.1) [
        | inl j ↦ a.0 (subst (λ (k : K). In k (map f xs)) (sym z.2) (in_map f z.0 xs j))
        | inr j ↦ apart x z.0 here j z.2
      ],
  once_append f xs ys a.1 b (λ u y i j. apart u y (there i) j),
)

-- ---- references

-- They cover no common name, and where their targets are the same they name no common agent, and aren't one.
pub record Other (w : World) (r q : Reference) : Type 0 where
  pub apart : meet w r q ≡ false
  pub unlike : key_of r.target ≡ key_of q.target → (r.agents ≡ q.agents) ⊎ ((a : ℕ) × In a r.agents × In a q.agents) → ⊥

module _ (w : World) where
  abbrev pub Lone : List Reference → Type 0
  Lone [] = ⊤
  Lone (r ∷ rs) = ((q : Reference) → In q rs → Other w r q) × Lone rs

  none_meets : (r : Reference) (rs : List Reference) → ((q : Reference) → In q rs → Other w r q) → not (list_any (meet w r) rs) ≡ true
  none_meets r [] f = refl
  none_meets r (q ∷ rs) f = go (meet w r q) (f q here).apart (none_meets r rs (λ x i. f x (there i)))
    where
      go : (b : Bool) → b ≡ false → not (list_any (meet w r) rs) ≡ true → not (b || list_any (meet w r) rs) ≡ true
      go true e rest = cc
      go false e rest = rest

  pub lone_apart : (rs : List Reference) → Lone rs → are_apart w rs ≡ true
  lone_apart [] l = refl
  lone_apart (r ∷ rs) l = and_true _ _ (none_meets r rs l.0) (lone_apart rs l.1)

  -- two of them are one, or each is another than the other
  pub lone_pair : (rs : List Reference) → Lone rs → (r q : Reference) → In r rs → In q rs → (r ≡ q) ⊎ (Other w r q ⊎ Other w q r)
  lone_pair [] l r q i j = elim i [ ]
  lone_pair (x ∷ rs) l r q i j =
      elim (in_first r x rs i) [
        | inl e ↦ elim (in_first q x rs j) [
          | inl f ↦ inl (e ∙ sym f)
          | inr g ↦ inr (inl (subst (λ (z : Reference). Other w z q) (sym e) (l.0 q g)))
        ]
        | inr h ↦ elim (in_first q x rs j) [
          | inl f ↦ inr (inr (subst (λ (z : Reference). Other w z r) (sym f) (l.0 r h)))
          | inr g ↦ lone_pair rs l.1 r q h g
        ]
      ]

  pub lone_once : (rs : List Reference) → Lone rs → Once rs
  lone_once [] l = tt
  lone_once (r ∷ rs) l = (λ i. (l.0 r i).unlike refl (inl refl), lone_once rs l.1)

  pub lone_append : (xs ys : List Reference) → Lone xs → Lone ys → ((r q : Reference) → In r xs → In q ys → Other w r q) → Lone (xs ++ ys)
  lone_append [] ys a b apart = b
  lone_append (x ∷ xs) ys a b apart =
      (λ q i. elim (in_either q xs ys i) [ inl j ↦ a.0 q j | inr j ↦ apart x q here j ], lone_append xs ys a.1 b (λ r q i j. apart r q (there i) j))

  module _ {A K : Type 0} (f : A → List Reference) (key : A → K) where
    pub lone_flat : (xs : List A) → Once (map key xs) → ((x : A) → In x xs → Lone (f x))
        → ((x y : A) (r q : Reference) → In x xs → In y xs → key x ≢ key y → In r (f x) → In q (f y) → Other w r q) → Lone (flat_map f xs)
    lone_flat [] o each apart = tt
    lone_flat (x ∷ xs) o each apart =
        lone_append (f x) (flat_map f xs) (each x here) (lone_flat xs o.1 (λ y i. each y (there i)) (λ y z r q i j. apart y z r q (there i) (there j)))
        (λ r q i j.
        (let y = of_flat f q xs j in
        apart x y.0 r q here (there y.1) (λ e. o.0 (subst (λ (k : K). In k (map key xs)) (sym e) (in_map key y.0 xs y.1))) i y.2))

  module _ {A K : Type 0} (f : A → Reference) (key : A → K) where
    pub lone_map : (xs : List A) → Once (map key xs) → ((x y : A) → In x xs → In y xs → key x ≢ key y → Other w (f x) (f y)) → Lone (map f xs)
    lone_map [] o apart = tt
    lone_map (x ∷ xs) o apart = (
      λ q i.
          let y = of_map f q xs i in
          subst (λ (z : Reference). Other w (f x) z) (sym y.2) (apart x y.0 here (there y.1) (λ e. o.0 (subst (λ (k : K). In k (map key xs)) (sym e) (in_map key y.0 xs y.1)))),
      lone_map xs o.1 (λ y z i j. apart y z (there i) (there j)),
    )
