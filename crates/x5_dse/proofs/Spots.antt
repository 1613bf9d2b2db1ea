-- Spots of nodes: their order is total, and what a search by halves among spots in order keeps and finds.
use Rattle.std.proofs.Common.{◌≡◌, ℕ, zero, suc, ◌+◌, ◌<◌, ◌≤◌, true, ◌⊎◌, inl, inr, List, [], ◌∷◌, length, get_or, refl, sym, ap, subst, ◌∙◌, arith, Ok, Err, Some, None}
use Rattle.std.proofs.lemmas.List.{get_or-map, length-map}
use Rattle.std.specs.Cmp.{IsTotalOrder, tied_itself, Equal-is, nat_cmp_total, on_total, then_total}
use Rattle.std.specs.FinMap.{nat_cmp-IsAntisymmetric}
use Rattle.std.specs.Ordering.{is_lt, nat_cmp, ordering_then, ordering_reverse}
use Rattle.std.specs.declared.cmp.Ordering.{Ordering}
use Rattle.std.specs.declared.cmp.Ordering.TheVariants.{Less, Equal, Greater}
use Rattle.x5_model.specs.Words.{ascending}
use Rattle.x5_model.specs.Members.{In, here, there}
use Rattle.x5_model.specs.Keys.{KeyRdn, rdn_cmp}
use Rattle.x5_model.proofs.KeyLaws.{rdn_cmp_total, rdn_decides, rdn_ties}
use Rattle.x5_model.proofs.Lists.{in_first, in_map}
use Rattle.x5_model.proofs.Ascending.{rest_ascending, first_below}
use Rattle.x5_dse.specs.Inside.{Slots, Spot, spot_at, spots_of, spot_cmp, spot_below, IsPlace, IsChild}
use Rattle.x5_dse.specs.declared.node.NodeId.{NodeId}

-- ---- the order

pub spot_total : IsTotalOrder spot_cmp
spot_total = then_total (on_total (λ (p : Spot). p.0) nat_cmp_total) (on_total (λ (p : Spot). p.1) rdn_cmp_total)

is_less : (o : Ordering) → is_lt o ≡ true → o ≡ Less
is_less Less e = refl
is_less Equal e = cc
is_less Greater e = cc

pub spot_chain : (x y z : Spot) → spot_below x y ≡ true → spot_below y z ≡ true → spot_below x z ≡ true
spot_chain x y z p q = ap is_lt (spot_total.trans x y z (is_less (spot_cmp x y) p) (is_less (spot_cmp y z) q))

pub spot_never : (x : Spot) → spot_below x x ≡ true → ⊥
spot_never x e = let h = ap is_lt (tied_itself spot_total x) in cc

first_equal : (o p : Ordering) → ordering_then o p ≡ Equal → o ≡ Equal
first_equal Less p e = e
first_equal Equal p e = refl
first_equal Greater p e = e

then_equal : (o p : Ordering) → ordering_then o p ≡ Equal → p ≡ Equal
then_equal Less p e = cc
then_equal Equal p e = e
then_equal Greater p e = cc

pub equal_rdns : (x y : KeyRdn) → rdn_cmp x y ≡ Equal → x ≡ y
equal_rdns x y e = (rdn_decides x y).0 (rdn_ties x y ∙ (Equal-is (rdn_cmp x y)).1 e)

pub equal_spots : (x y : Spot) → spot_cmp x y ≡ Equal → x ≡ y
equal_spots x y e =
    let a : x.0 ≡ y.0 = nat_cmp-IsAntisymmetric x.0 y.0 (first_equal (nat_cmp x.0 y.0) (rdn_cmp x.1 y.1) e) in
    let b : x.1 ≡ y.1 = equal_rdns x.1 y.1 (then_equal (nat_cmp x.0 y.0) (rdn_cmp x.1 y.1) e) in
    λ i. (a i, b i)

-- of two spots of one node above, the order is that of the RDNs
pub same_above : (x y : Spot) → x.0 ≡ y.0 → spot_cmp x y ≡ rdn_cmp x.1 y.1
same_above x y e =
    ap (λ (n : ℕ). ordering_then (nat_cmp n y.0) (rdn_cmp x.1 y.1)) e ∙ ap (λ (o : Ordering). ordering_then o (rdn_cmp x.1 y.1)) (tied_itself nat_cmp_total y.0)

-- ---- places in lists

module _ {A : Type 0} where
  pub in_get : (xs : List A) (i : ℕ) (d : A) → i < length xs → In (get_or xs i d) xs
  in_get [] i d l = absurd (omega arith)
  in_get (x ∷ xs) zero d l = here
  in_get (x ∷ xs) (suc i) d l = there (in_get xs i d (omega arith))

  pub get_in : (z : A) (xs : List A) → In z xs → (k : ℕ) × (k < length xs) × ((d : A) → get_or xs k d ≡ z)
  get_in z [] i = elim i [ ]
  get_in z (x ∷ xs) i = elim (in_first z x xs i) [
    | inl p ↦ (0, omega arith, λ d. sym p)
    | inr j ↦ (let w = get_in z xs j in (suc w.0, omega arith, w.2))
  ]

pub lt_or_le : (k n : ℕ) → (k < n) ⊎ (n ≤ k)
lt_or_le k zero = inr (omega arith)
lt_or_le zero (suc n) = inl (omega arith)
lt_or_le (suc k) (suc n) = elim (lt_or_le k n) [ inl l ↦ inl (omega arith) | inr l ↦ inr (omega arith) ]

pub lt_or_eq : (k n : ℕ) → k < n + 1 → (k < n) ⊎ (k ≡ n)
lt_or_eq k n h = elim (lt_or_le k n) [ inl l ↦ inl l | inr l ↦ inr (omega arith) ]

-- ---- the steps of a search

-- what stands earlier is below what stands later
pub rising : (xs : List Spot) (d : Spot) (i j : ℕ) → ascending spot_below xs ≡ true → i < j → j < length xs → spot_below (get_or xs i d) (get_or xs j d) ≡ true
rising [] d i j h l m = absurd (omega arith)
rising (x ∷ xs) d zero zero h l m = absurd (omega arith)
rising (x ∷ xs) d zero (suc j) h l m = first_below spot_below spot_chain x (get_or xs j d) xs h (in_get xs j d (omega arith))
rising (x ∷ xs) d (suc i) zero h l m = absurd (omega arith)
rising (x ∷ xs) d (suc i) (suc j) h l m = rising xs d i j (rest_ascending spot_below spot_chain x xs h) (omega arith) (omega arith)

abbrev pub BelowAll : List Spot → Spot → ℕ → Type 0
BelowAll spots spot low = (k : ℕ) (d : Spot) → k < low → spot_below (get_or spots k d) spot ≡ true

abbrev pub AboveAll : List Spot → Spot → ℕ → Type 0
AboveAll spots spot high = (k : ℕ) (d : Spot) → high ≤ k → k < length spots → spot_below spot (get_or spots k d) ≡ true

pub go_up : (spots : List Spot) (spot : Spot) (middle : ℕ) → ascending spot_below spots ≡ true → middle < length spots
    → ((d : Spot) → spot_cmp (get_or spots middle d) spot ≡ Less) → BelowAll spots spot (middle + 1)
go_up spots spot middle h l e k d m =
    elim (lt_or_eq k middle m) [
      | inl p ↦ spot_chain (get_or spots k d) (get_or spots middle d) spot (rising spots d k middle h p l) (ap is_lt (e d))
      | inr p ↦ subst (λ (n : ℕ). spot_below (get_or spots n d) spot ≡ true) (sym p) (ap is_lt (e d))
    ]

pub go_down : (spots : List Spot) (spot : Spot) (middle : ℕ) → ascending spot_below spots ≡ true
    → ((d : Spot) → spot_cmp (get_or spots middle d) spot ≡ Greater) → AboveAll spots spot middle
go_down spots spot middle h e k d l m =
    elim (lt_or_eq middle k (omega arith)) [
      | inl p ↦ spot_chain spot (get_or spots middle d) (get_or spots k d) under (rising spots d middle k h p m)
      | inr p ↦ subst (λ (n : ℕ). spot_below spot (get_or spots n d) ≡ true) p under
    ]
  where
    under : spot_below spot (get_or spots middle d) ≡ true
    under = ap is_lt (spot_total.antisymm spot (get_or spots middle d) ∙ ap ordering_reverse (e d))

-- ---- what a place says

-- where it would go, it isn't
pub missing : (spots : List Spot) (spot : Spot) (i : ℕ) → IsPlace spots spot (Err i) → In spot spots → ⊥
missing spots spot i w m =
    let at = get_in spot spots m in
    elim (lt_or_le at.0 i) [
      | inl l ↦ spot_never spot (subst (λ (s : Spot). spot_below s spot ≡ true) (at.2 spot) (w.1 at.0 spot l))
      | inr l ↦ spot_never spot (subst (λ (s : Spot). spot_below spot s ≡ true) (at.2 spot) (w.2 at.0 spot l at.1))
    ]

-- ---- spots of nodes

pub spot_get : (slots : Slots) (order : List NodeId) (i : ℕ) (n : NodeId) (d : Spot) → i < length order → get_or (spots_of slots order) i d ≡ spot_at slots (get_or order i n)
spot_get slots order i n d l = get_or-map (spot_at slots) order i n d l

pub spots_length : (slots : Slots) (order : List NodeId) → length (spots_of slots order) ≡ length order
spots_length slots order = length-map order (spot_at slots)

pub child_found : (slots : Slots) (order : List NodeId) (spot : Spot) (i : ℕ) (n : NodeId) → IsPlace (spots_of slots order) spot (Ok i) → IsChild slots order spot (Some (get_or order i n))
child_found slots order spot i n w =
    let l : i < length order = (let m = w.0 in omega (arith, spots_length slots order)) in
    (in_get order i n l, sym (spot_get slots order i n spot l) ∙ w.1 spot)

pub child_missing : (slots : Slots) (order : List NodeId) (spot : Spot) (i : ℕ) → IsPlace (spots_of slots order) spot (Err i) → IsChild slots order spot None
child_missing slots order spot i w c m e = missing (spots_of slots order) spot i w (subst (λ (s : Spot). In s (spots_of slots order)) e (in_map (spot_at slots) c order m))
