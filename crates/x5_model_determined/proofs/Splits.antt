-- How a list is split in two ways: at the same place, or one place comes first.
use Rattle.std.proofs.Common.{◌≡◌, true, false, Bool, ◌⊎◌, inl, inr, List, [], ◌∷◌, ◌++◌, refl, sym, ◌∙◌}

pub true_false : {X : Type 0} (b : Bool) → b ≡ true → b ≡ false → X
true_false b e f = (let g : true ≡ false = sym e ∙ f in cc)

pub no_snoc : {A : Type 0} (xs : List A) (x : A) (ys : List A) → xs ++ x ∷ ys ≡ [] → ⊥
no_snoc [] x ys e = cc
no_snoc (b ∷ xs) x ys e = cc

head_tail : {A : Type 0} (a b : A) (xs ys : List A) → a ∷ xs ≡ b ∷ ys → (a ≡ b) × (xs ≡ ys)
head_tail a b xs ys e = (cc, cc)

-- the last member, and what is before it
pub snoc_same : {A : Type 0} (xs zs : List A) (x z : A) → xs ++ x ∷ [] ≡ zs ++ z ∷ [] → (xs ≡ zs) × (x ≡ z)
snoc_same [] [] x z e = (refl, (head_tail x z [] [] e).0)
snoc_same [] (c ∷ zs) x z e = absurd (no_snoc zs z [] (sym (head_tail x c [] (zs ++ z ∷ []) e).1))
snoc_same (b ∷ xs) [] x z e = absurd (no_snoc xs x [] (head_tail b z (xs ++ x ∷ []) [] e).1)
snoc_same (b ∷ xs) (c ∷ zs) x z e =
    let h = head_tail b c (xs ++ x ∷ []) (zs ++ z ∷ []) e in
    let r = snoc_same xs zs x z h.1 in
    (λ t. h.0 t ∷ r.0 t, r.1)

-- a member of such a list is the last one, or stands before it
pub split_snoc : {A : Type 0} (xs before more : List A) (x a : A) → xs ++ x ∷ [] ≡ before ++ a ∷ more
    → ((before ≡ xs) × (a ≡ x)) ⊎ ((rest : List A) × (xs ≡ before ++ a ∷ rest))
split_snoc [] [] more x a e = inl (refl, sym (head_tail x a [] more e).0)
split_snoc [] (c ∷ before) more x a e = absurd (no_snoc before a more (sym (head_tail x c [] (before ++ a ∷ more) e).1))
split_snoc (b ∷ xs) [] more x a e = inr (xs, (let h = head_tail b a (xs ++ x ∷ []) more e in λ t. h.0 t ∷ xs))
split_snoc (b ∷ xs) (c ∷ before) more x a e =
    let h = head_tail b c (xs ++ x ∷ []) (before ++ a ∷ more) e in
    elim (split_snoc xs before more x a h.1) [
      | inl s ↦ inl ((λ t. sym h.0 t ∷ s.0 t), s.1)
      | inr w ↦ inr (w.0, (λ t. h.0 t ∷ w.1 t))
    ]

-- two members are one, or the one stands before the other
pub compare : {A : Type 0} (xs ys zs ws : List A) (x z : A) → xs ++ x ∷ ys ≡ zs ++ z ∷ ws
    → ((zs ≡ xs) × (z ≡ x)) ⊎ (((rest : List A) × (zs ≡ xs ++ x ∷ rest)) ⊎ ((rest : List A) × (xs ≡ zs ++ z ∷ rest)))
compare [] ys [] ws x z e = inl (refl, sym (head_tail x z ys ws e).0)
compare [] ys (c ∷ zs) ws x z e = inr (inl (zs, (let h = head_tail x c ys (zs ++ z ∷ ws) e in λ t. sym h.0 t ∷ zs)))
compare (b ∷ xs) ys [] ws x z e = inr (inr (xs, (let h = head_tail b z (xs ++ x ∷ ys) ws e in λ t. h.0 t ∷ xs)))
compare (b ∷ xs) ys (c ∷ zs) ws x z e =
    let h = head_tail b c (xs ++ x ∷ ys) (zs ++ z ∷ ws) e in
    elim (compare xs ys zs ws x z h.1) [
      | inl s ↦ inl ((λ t. sym h.0 t ∷ s.0 t), s.1)
      | inr r ↦ elim r [ inl w ↦ inr (inl (w.0, (λ t. sym h.0 t ∷ w.1 t))) | inr w ↦ inr (inr (w.0, (λ t. h.0 t ∷ w.1 t))) ]
    ]
