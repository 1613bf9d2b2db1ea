-- The order of keys and parents: a prefix stands first, so an entry stands behind the one just above it.
use Rattle.std.proofs.Common.{◌≡◌, ℕ, zero, suc, ◌-◌, ◌<◌, true, [], ◌∷◌, length, take, refl, sym, ap, ◌∙◌, arith}
use Rattle.std.proofs.lemmas.List.{take-map, length-map}
use Rattle.std.specs.Cmp.{tied_itself}
use Rattle.std.specs.Ordering.{is_lt, ordering_then}
use Rattle.std.specs.declared.cmp.Ordering.{Ordering}
use Rattle.std.specs.declared.cmp.Ordering.TheVariants.{Less}
use Rattle.x5_model.specs.Keys.{Key, key_cmp, key_below, parent}
use Rattle.x5_model.specs.Values.{Name, key_of_rdn, key_of}
use Rattle.x5_model.proofs.KeyLaws.{rdn_cmp_total}

pub front_less : (n : ℕ) (a : Key) → n < length a → key_cmp (take n a) a ≡ Less
front_less zero [] l = absurd (omega arith)
front_less zero (x ∷ xs) l = refl
front_less (suc n) [] l = absurd (omega arith)
front_less (suc n) (x ∷ xs) l =
    ap (λ (o : Ordering). ordering_then o (key_cmp (take n xs) xs)) (tied_itself rdn_cmp_total x) ∙ front_less n xs (omega arith)

pub parent_below : (a : Key) → 0 < length a → key_below (parent a) a ≡ true
parent_below a l = ap is_lt (front_less (length a - 1) a (omega arith))

-- the root is its own parent
pub short_parent : (k : Key) → length k ≡ 0 → parent k ≡ k
short_parent [] e = refl
short_parent (r ∷ k) e = absurd (omega arith)

-- the RDNs of a name but the last are its parent's
pub parent_of : (n : ℕ) (rdns name : Name) → rdns ≡ name → n ≡ length rdns - 1 → key_of (take n rdns) ≡ parent (key_of name)
parent_of n rdns name p q =
    sym (take-map key_of_rdn n rdns)
    ∙ ap (λ (m : ℕ). take m (key_of rdns)) (q ∙ ap (λ (m : ℕ). m - 1) (sym (length-map rdns key_of_rdn)))
    ∙ ap (λ (ns : Name). parent (key_of ns)) p
