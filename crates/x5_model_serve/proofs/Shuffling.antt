-- Lists with the same members, each as often: two lists of which each member is there once are so if they have the same
-- members, and what is said of the members of the one is said of those of the other. By induction on the first list.
use Rattle.std.proofs.Common.{◌≡◌, Bool, true, false, cond, ◌⊎◌, inl, inr, List, [], ◌∷◌, ◌++◌, map, refl, sym, ap, subst, ◌∙◌}
use Rattle.std.specs.List.{filter, flat_map}
use Rattle.x5_model.specs.Members.{In, here, there, Once}
use Rattle.x5_model.proofs.Lists.{in_first, in_left, in_right, in_either, in_map, of_filter, of_map}
use Rattle.x5_model_serve.specs.Walked.{Shuffled, none, one}

-- ---- a member between others
pub widen : {A : Type 0} (x z : A) (xs ys : List A) → In z (xs ++ ys) → In z (xs ++ x ∷ ys)
widen x z xs ys i = elim (in_either z xs ys i) [
  | inl j ↦ in_left z xs (x ∷ ys) j
  | inr j ↦ in_right z xs (x ∷ ys) (there j)
]

pub narrow : {A : Type 0} (x z : A) (xs ys : List A) → In z (xs ++ x ∷ ys) → (z ≡ x) ⊎ In z (xs ++ ys)
narrow x z xs ys i = elim (in_either z xs (x ∷ ys) i) [
  | inl j ↦ inr (in_left z xs ys j)
  | inr j ↦ elim (in_first z x ys j) [ inl p ↦ inl p | inr k ↦ inr (in_right z xs ys k) ]
]

pub split_at : {A : Type 0} (x : A) (ys : List A) → In x ys → (cs : List A) × (bs : List A) × (ys ≡ cs ++ x ∷ bs)
split_at x [] i = elim i [ ]
split_at x (y ∷ ys) i = elim (in_first x y ys i) [
  | inl p ↦ ([], ys, ap (λ z. z ∷ ys) (sym p))
  | inr j ↦ (let w = split_at x ys j in (y ∷ w.0, w.1, ap (λ zs. y ∷ zs) w.2))
]

pub once_split : {A : Type 0} (x : A) (cs bs : List A) → Once (cs ++ x ∷ bs) → Once (cs ++ bs) × (In x (cs ++ bs) → ⊥)
once_split x [] bs o = (o.1, o.0)
once_split x (a ∷ cs) bs o =
    let w = once_split x cs bs o.1 in (
      ((λ i. o.0 (widen x a cs bs i)), w.0),
      λ i. elim (in_first x a (cs ++ bs) i) [
        | inl p ↦ o.0 (subst (λ z. In z (cs ++ x ∷ bs)) p (in_right x cs (x ∷ bs) here))
        | inr j ↦ w.1 j
      ],
    )

-- ---- members once
pub once_of_map : {A B : Type 0} (f : A → B) (xs : List A) → Once (map f xs) → Once xs
once_of_map f [] o = tt
once_of_map f (x ∷ xs) o = ((λ i. o.0 (in_map f x xs i)), once_of_map f xs o.1)

pub once_filtered : {A B : Type 0} (f : A → B) (t : A → Bool) (xs : List A) → Once (map f xs)
    → Once (map f (filter t xs))
once_filtered f t [] o = tt
once_filtered f t (x ∷ xs) o = by (t x) (once_filtered f t xs o.1)
  where
    by : (b : Bool) → Once (map f (filter t xs)) → Once (map f (cond b (x ∷ filter t xs) (filter t xs)))
    by true rest = (
      (λ i. (let w = of_map f (f x) (filter t xs) i in
          o.0 (subst (λ y. In y (map f xs)) (sym w.2) (in_map f w.0 xs (of_filter t w.0 xs w.1).0)))),
      rest,
    )
    by false rest = rest

-- ---- with the same members
pub shuffled_by : {A : Type 0} (xs ys : List A) → Once xs → Once ys → ((z : A) → In z xs → In z ys)
    → ((z : A) → In z ys → In z xs) → Shuffled xs ys
shuffled_by [] [] o p f g = none
shuffled_by [] (y ∷ ys) o p f g = elim (g y here) [ ]
shuffled_by {A} (x ∷ xs) ys o p f g =
    let w = split_at x ys (f x here) in
    let s = once_split x w.0 w.1 (subst Once w.2 p) in
    let to : (z : A) → In z xs → In z (w.0 ++ w.1) = λ z i.
    elim (narrow x z w.0 w.1 (subst (λ zs. In z zs) w.2 (f z (there i)))) [
      | inl e ↦ absurd (o.0 (subst (λ y. In y xs) e i))
      | inr j ↦ j
    ] in
    let back : (z : A) → In z (w.0 ++ w.1) → In z xs = λ z i.
    elim (in_first z x xs (g z (subst (λ zs. In z zs) (sym w.2) (widen x z w.0 w.1 i)))) [
      | inl e ↦ absurd (s.1 (subst (λ y. In y (w.0 ++ w.1)) e i))
      | inr j ↦ j
    ] in
    subst (λ zs. Shuffled (x ∷ xs) zs) (sym w.2) (one w.0 w.1 (shuffled_by xs (w.0 ++ w.1) o.1 s.0 to back))

pub of_shuffled : {A : Type 0} (xs ys : List A) (z : A) → Shuffled xs ys → In z xs → In z ys
of_shuffled _ _ z none i = i
of_shuffled _ _ z (one {x} {xs} ys zs s) i = elim (in_first z x xs i) [
  | inl p ↦ subst (λ y. In y (ys ++ x ∷ zs)) (sym p) (in_right x ys (x ∷ zs) here)
  | inr j ↦ widen x z ys zs (of_shuffled xs (ys ++ zs) z s j)
]

pub in_shuffled : {A : Type 0} (xs ys : List A) (z : A) → Shuffled xs ys → In z ys → In z xs
in_shuffled _ _ z none i = i
in_shuffled _ _ z (one {x} {xs} ys zs s) i = elim (narrow x z ys zs i) [
  | inl p ↦ subst (λ y. In y (x ∷ xs)) (sym p) here
  | inr j ↦ there (in_shuffled xs (ys ++ zs) z s j)
]

pub once_shuffled : {A : Type 0} (xs ys : List A) → Shuffled xs ys → Once ys → Once xs
once_shuffled _ _ none o = tt
once_shuffled _ _ (one {x} {xs} ys zs s) o =
    let w = once_split x ys zs o in
    ((λ i. w.1 (of_shuffled xs (ys ++ zs) x s i)), once_shuffled xs (ys ++ zs) s w.0)

-- ---- lists that are made of them
assoc : {B : Type 0} (us vs ws : List B) → (us ++ vs) ++ ws ≡ us ++ (vs ++ ws)
assoc [] vs ws = refl
assoc (u ∷ us) vs ws = ap (λ zs. u ∷ zs) (assoc us vs ws)

flat_joined : {A B : Type 0} (f : A → List B) (xs ys : List A) → flat_map f (xs ++ ys) ≡ flat_map f xs ++ flat_map f ys
flat_joined f [] ys = refl
flat_joined f (x ∷ xs) ys = ap (λ zs. f x ++ zs) (flat_joined f xs ys)
    ∙ sym (assoc (f x) (flat_map f xs) (flat_map f ys))

between : {A : Type 0} (us xs ys zs : List A) → Shuffled xs (ys ++ zs) → Shuffled (us ++ xs) (ys ++ (us ++ zs))
between [] xs ys zs s = s
between (u ∷ us) xs ys zs s = one ys (us ++ zs) (between us xs ys zs s)

pub shuffled_more : {A : Type 0} (us xs ys : List A) → Shuffled xs ys → Shuffled (us ++ xs) (us ++ ys)
shuffled_more us xs ys s = between us xs [] ys s

pub shuffled_flat : {A B : Type 0} (f : A → List B) (xs ys : List A) → Shuffled xs ys
    → Shuffled (flat_map f xs) (flat_map f ys)
shuffled_flat f _ _ none = none
shuffled_flat f _ _ (one {x} {xs} ys zs s) =
    subst (λ bs. Shuffled (f x ++ flat_map f xs) bs) (sym (flat_joined f ys (x ∷ zs)))
    (between (f x) (flat_map f xs) (flat_map f ys) (flat_map f zs)
    (subst (λ bs. Shuffled (flat_map f xs) bs) (flat_joined f ys zs) (shuffled_flat f xs (ys ++ zs) s)))

map_joined : {A B : Type 0} (f : A → B) (xs ys : List A) → map f (xs ++ ys) ≡ map f xs ++ map f ys
map_joined f [] ys = refl
map_joined f (x ∷ xs) ys = ap (λ zs. f x ∷ zs) (map_joined f xs ys)

pub shuffled_map : {A B : Type 0} (f : A → B) (xs ys : List A) → Shuffled xs ys → Shuffled (map f xs) (map f ys)
shuffled_map f _ _ none = none
shuffled_map f _ _ (one {x} {xs} ys zs s) =
    subst (λ bs. Shuffled (f x ∷ map f xs) bs) (sym (map_joined f ys (x ∷ zs)))
    (one (map f ys) (map f zs) (subst (λ bs. Shuffled (map f xs) bs) (map_joined f ys zs)
    (shuffled_map f xs (ys ++ zs) s)))
