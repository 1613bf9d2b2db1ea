-- Keys between others: what stands between two keys that begin alike begins so too, and what stands behind a key, but not below it.
use Rattle.std.proofs.Common.{◌≡◌, true, ◌⊎◌, inl, inr, [], ◌∷◌, ◌++◌, refl, sym, ap, ◌∙◌}
use Rattle.std.specs.Cmp.{tied_itself}
use Rattle.std.specs.Ordering.{is_lt, ordering_then, ordering_reverse}
use Rattle.std.specs.declared.cmp.Ordering.{Ordering}
use Rattle.std.specs.declared.cmp.Ordering.TheVariants.{Less, Equal, Greater}
use Rattle.x5_model.specs.Keys.{Key, KeyRdn, key_cmp, key_below, rdn_cmp}
use Rattle.x5_model.proofs.KeyLaws.{rdn_cmp_total}
use Rattle.x5_dse.proofs.Spots.{equal_rdns}

-- two keys that begin alike stand as what is left of them does
pub same_front : (p a b : Key) → key_cmp (p ++ a) (p ++ b) ≡ key_cmp a b
same_front [] a b = refl
same_front (x ∷ p) a b = ap (λ (o : Ordering). ordering_then o (key_cmp (p ++ a) (p ++ b))) (tied_itself rdn_cmp_total x) ∙ same_front p a b

-- what stands between two keys that begin alike begins so too
pub squeezed : (p a b z : Key) → key_below (p ++ a) z ≡ true → key_below z (p ++ b) ≡ true → (w : Key) × (z ≡ p ++ w) × (key_below a w ≡ true) × (key_below w b ≡ true)
squeezed [] a b z l m = (z, refl, l, m)
squeezed (x ∷ p) a b [] l m = cc
squeezed (x ∷ p) a b (y ∷ z) l m = by (squeezed p a b z) (rdn_cmp x y) refl l
  where
    Between : Type 0
    Between = (w : Key) × (z ≡ p ++ w) × (key_below a w ≡ true) × (key_below w b ≡ true)

    by : (key_below (p ++ a) z ≡ true → key_below z (p ++ b) ≡ true → Between)
        → (o : Ordering) → rdn_cmp x y ≡ o → is_lt (ordering_then o (key_cmp (p ++ a) z)) ≡ true
        → (w : Key) × (y ∷ z ≡ x ∷ (p ++ w)) × (key_below a w ≡ true) × (key_below w b ≡ true)
    by rest Less e h =
        absurd (let f : rdn_cmp y x ≡ Greater = rdn_cmp_total.antisymm y x ∙ ap ordering_reverse e in
        let g : is_lt (ordering_then Greater (key_cmp z (p ++ b))) ≡ true = ap (λ (o : Ordering). is_lt (ordering_then o (key_cmp z (p ++ b)))) (sym f) ∙ m in cc)
    by rest Equal e h =
        let same : x ≡ y = equal_rdns x y e in
        let f : rdn_cmp y x ≡ Equal = rdn_cmp_total.antisymm y x ∙ ap ordering_reverse e in
        let g : key_below z (p ++ b) ≡ true = ap (λ (o : Ordering). is_lt (ordering_then o (key_cmp z (p ++ b)))) (sym f) ∙ m in
        let w = rest h g in
        (w.0, (λ i. sym same i ∷ w.1 i), w.2, w.3)
    by rest Greater e h = cc

-- behind one RDN: another that is greater, or the same with more
pub behind_one : (r : KeyRdn) (w : Key) → key_below (r ∷ []) w ≡ true → (t : KeyRdn) × (rest : Key) × (w ≡ t ∷ rest) × ((is_lt (rdn_cmp r t) ≡ true) ⊎ (r ≡ t))
behind_one r [] l = cc
behind_one r (t ∷ rest) l = (t, rest, refl, by (rdn_cmp r t) refl l)
  where
    by : (o : Ordering) → rdn_cmp r t ≡ o → is_lt (ordering_then o (key_cmp [] rest)) ≡ true → (is_lt (rdn_cmp r t) ≡ true) ⊎ (r ≡ t)
    by Less e h = inl (ap is_lt e)
    by Equal e h = inr (equal_rdns r t e)
    by Greater e h = cc

-- before one RDN stands one that is less
pub before_one : (s t : KeyRdn) (rest : Key) → key_below (t ∷ rest) (s ∷ []) ≡ true → is_lt (rdn_cmp t s) ≡ true
before_one s t rest l = by (rdn_cmp t s) rest l
  where
    by : (o : Ordering) (k : Key) → is_lt (ordering_then o (key_cmp k [])) ≡ true → is_lt o ≡ true
    by Less k h = refl
    by Equal [] h = cc
    by Equal (x ∷ k) h = cc
    by Greater k h = cc

pub some_one : (w : Key) → key_below [] w ≡ true → (t : KeyRdn) × (rest : Key) × (w ≡ t ∷ rest)
some_one [] l = cc
some_one (t ∷ rest) l = (t, rest, refl)

-- what begins with a lesser RDN stands before one that is greater
pub below_sibling : (p : Key) (r s : KeyRdn) (rest : Key) → is_lt (rdn_cmp r s) ≡ true → key_below (p ++ r ∷ rest) (p ++ s ∷ []) ≡ true
below_sibling p r s rest l = ap is_lt (same_front p (r ∷ rest) (s ∷ [])) ∙ by (rdn_cmp r s) l
  where
    by : (o : Ordering) → is_lt o ≡ true → is_lt (ordering_then o (key_cmp rest [])) ≡ true
    by Less e = refl
    by Equal e = cc
    by Greater e = cc
