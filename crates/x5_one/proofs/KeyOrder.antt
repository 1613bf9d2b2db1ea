-- The order of keys and their beginnings: what stands at a key or below it stands together,
-- right behind what is below the key.
use Rattle.std.proofs.Common.{◌≡◌, true, false, [], ◌∷◌, ◌++◌, length, take, refl, sym, ap, ◌∙◌, inl, inr}
use Rattle.std.specs.Cmp.{tied_itself, Equal-is}
use Rattle.std.specs.Ordering.{is_lt, ordering_then, ordering_reverse}
use Rattle.std.specs.declared.cmp.Ordering.{Ordering}
use Rattle.std.specs.declared.cmp.Ordering.TheVariants.{Less, Equal, Greater}
use Rattle.x5_model.specs.Keys.{Key, KeyRdn, IsPrefix, rdn_cmp, key_cmp, key_below}
use Rattle.x5_model.proofs.KeyLaws.{rdn_cmp_total, rdn_decides, rdn_ties}
use Rattle.x5_model.proofs.Lists.{true_or_false}

equal_rdns : (x y : KeyRdn) → rdn_cmp x y ≡ Equal → x ≡ y
equal_rdns x y e = (rdn_decides x y).0 (rdn_ties x y ∙ (Equal-is (rdn_cmp x y)).1 e)

-- what two lists begin with, and what follows
first_same : (r s : KeyRdn) (a b : Key) → r ∷ a ≡ s ∷ b → r ≡ s
first_same r s a b e = cc

rest_same : (r s : KeyRdn) (a b : Key) → r ∷ a ≡ s ∷ b → a ≡ b
rest_same r s a b e = cc

-- what begins with a key isn't below it
pub prefix_not_below : (a x : Key) → IsPrefix a x → key_below x a ≡ false
prefix_not_below [] [] h = refl
prefix_not_below [] (s ∷ x) h = refl
prefix_not_below (r ∷ a) [] h = cc
prefix_not_below (r ∷ a) (s ∷ x) h =
    let same : s ≡ r = first_same s r (take (length a) x) a h in
    ap (λ (t : KeyRdn). is_lt (ordering_then (rdn_cmp t r) (key_cmp x a))) same
    ∙ ap (λ (o : Ordering). is_lt (ordering_then o (key_cmp x a))) (tied_itself rdn_cmp_total r)
    ∙ prefix_not_below a x (rest_same s r (take (length a) x) a h)

-- what stands between a key and something that begins with it begins with it too
pub between : (a x z : Key) → key_below x a ≡ false → key_below z x ≡ false → IsPrefix a z → IsPrefix a x
between [] x z p q h = refl
between (r ∷ a) [] z p q h = cc
between (r ∷ a) (s ∷ x) [] p q h = cc
between (r ∷ a) (s ∷ x) (t ∷ z) p q h = by (rdn_cmp s r) refl (λ p_rest q_rest. between a x z p_rest q_rest
    (rest_same t r (take (length a) z) a h))
  where
    same : t ≡ r
    same = first_same t r (take (length a) z) a h

    by : (o : Ordering) → rdn_cmp s r ≡ o → (key_below x a ≡ false → key_below z x ≡ false → IsPrefix a x)
        → IsPrefix (r ∷ a) (s ∷ x)
    by Less e rest = absurd (let f : is_lt (ordering_then (rdn_cmp s r) (key_cmp x a))
        ≡ true = ap (λ (o : Ordering). is_lt (ordering_then o (key_cmp x a))) e in let g : true ≡ false = sym f
        ∙ p in cc)
    by Greater e rest = absurd (
        let back : rdn_cmp t s ≡ Less = ap (λ (u : KeyRdn). rdn_cmp u s) same ∙ rdn_cmp_total.antisymm r s
        ∙ ap ordering_reverse e in
        let f : is_lt (ordering_then (rdn_cmp t s) (key_cmp z x))
        ≡ true = ap (λ (o : Ordering). is_lt (ordering_then o (key_cmp z x))) back in
        let g : true ≡ false = sym f ∙ q in cc)
    by Equal e rest =
        let is : s ≡ r = equal_rdns s r e in
        let back : rdn_cmp t s ≡ Equal = (λ i. rdn_cmp (same i) (is i)) ∙ tied_itself rdn_cmp_total r in
        let p_rest : key_below x a ≡ false = sym (ap (λ (o : Ordering). is_lt (ordering_then o (key_cmp x a))) e) ∙ p in
        let q_rest : key_below z x ≡ false = sym (ap (λ (o : Ordering). is_lt (ordering_then o
        (key_cmp z x))) back) ∙ q in
        let behind : take (length a) x ≡ a = rest p_rest q_rest in
        λ i. is i ∷ behind i

-- what doesn't begin with a key and isn't below it stands behind all that begins with it
pub past : (a x y : Key) → IsPrefix a x → key_below y a ≡ false → (IsPrefix a y → ⊥) → key_below x y ≡ true
past a x y h p f = elim (true_or_false (key_below x y)) [ inl t ↦ t | inr n ↦ absurd (f (between a y x p n h)) ]

-- keys with one beginning stand as what follows it does
pub behind_alike : (n x y : Key) → key_cmp (n ++ x) (n ++ y) ≡ key_cmp x y
behind_alike [] x y = refl
behind_alike (r ∷ n) x y =
    ap (λ (o : Ordering). ordering_then o (key_cmp (n ++ x) (n ++ y))) (tied_itself rdn_cmp_total r) ∙ behind_alike n x y
