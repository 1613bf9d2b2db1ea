-- What stands just below a node is one run in order: where it begins, and what is told by what stands there.
use Rattle.std.proofs.Common.{◌≡◌, ℕ, ◌-◌, ◌<◌, ◌≤◌, true, ◌⊎◌, inl, inr, List, [], ◌∷◌, length, get_or, refl, sym, ap, subst, ◌∙◌, arith, Ok, Err}
use Rattle.std.specs.Cmp.{ranked}
use Rattle.std.specs.Ordering.{is_lt, nat_cmp, ordering_then}
use Rattle.std.specs.declared.cmp.Ordering.{Ordering}
use Rattle.std.specs.declared.cmp.Ordering.TheVariants.{Less, Equal, Greater}
use Rattle.x5_model.specs.Words.{ascending}
use Rattle.x5_model.specs.Members.{In}
use Rattle.x5_model.specs.Keys.{KeyRdn, rdn_cmp}
use Rattle.x5_dse.specs.declared.node.NodeId.{NodeId}
use Rattle.x5_dse.specs.Inside.{Slots, Spot, top, parent_at, spots_of, spot_below, IsPlace, IsStart}
use Rattle.x5_dse.proofs.Ids.{same_id}
use Rattle.x5_dse.proofs.Spots.{rising, get_in, lt_or_eq, lt_or_le, spot_get, spots_length}

-- a spot below another has no greater node above
below_above : (o p : Ordering) (a b : ℕ) → o ≡ nat_cmp a b → is_lt (ordering_then o p) ≡ true → a ≤ b
below_above Less p a b e h = let l : a < b = ranked a b Less e in omega arith
below_above Equal p a b e h = let l : a ≡ b = ranked a b Equal e in omega arith
below_above Greater p a b e h = cc

pub no_greater : (a b : Spot) → spot_below a b ≡ true → a.0 ≤ b.0
no_greater a b h = below_above (nat_cmp a.0 b.0) (rdn_cmp a.1 b.1) a.0 b.0 refl h

never_less : (r : KeyRdn) → is_lt (rdn_cmp r []) ≡ true → ⊥
never_less [] h = cc
never_less (x ∷ r) h = cc

below_start : (o : Ordering) (r : KeyRdn) (a b : ℕ) → o ≡ nat_cmp a b → is_lt (ordering_then o (rdn_cmp r [])) ≡ true → a < b
below_start Less r a b e h = ranked a b Less e
below_start Equal r a b e h = absurd (never_less r h)
below_start Greater r a b e h = cc

-- nothing of a run is below its start
pub less_above : (a : Spot) (n : ℕ) → spot_below a (n, []) ≡ true → a.0 < n
less_above a n h = below_start (nat_cmp a.0 n) a.1 a.0 n refl h

pub start_found : (spots : List Spot) (node : NodeId) (at : ℕ) → ascending spot_below spots ≡ true → IsPlace spots (node.0, []) (Ok at) → IsStart spots node at
start_found spots node at h w = record {
  within = (let l = w.0 in omega arith);
  before = λ k d l. less_above (get_or spots k d) node.0 (subst (λ (s : Spot). spot_below (get_or spots k d) s ≡ true) (w.1 d) (rising spots d k at h l w.0));
  after = λ k d l m. elim (lt_or_eq at k (omega arith)) [
    | inl p ↦ no_greater (node.0, []) (get_or spots k d) (subst (λ (s : Spot). spot_below s (get_or spots k d) ≡ true) (w.1 d) (rising spots d at k h p m))
    | inr p ↦ (let e : (get_or spots at d).0 ≡ node.0 = ap (λ (s : Spot). s.0) (w.1 d) in let f : (get_or spots at d).0 ≡ (get_or spots k d).0 = ap (λ (n : ℕ). (get_or spots n d).0) p in omega arith)
  ];
}

pub start_missing : (spots : List Spot) (node : NodeId) (at : ℕ) → IsPlace spots (node.0, []) (Err at) → IsStart spots node at
start_missing spots node at w = record {
  within = w.0;
  before = λ k d l. less_above (get_or spots k d) node.0 (w.1 k d l);
  after = λ k d l m. no_greater (node.0, []) (get_or spots k d) (w.2 k d l m);
}

pub not_last : (at n : ℕ) → at ≤ n → (at ≡ n → ⊥) → at < n
not_last at n l h = elim (lt_or_eq at n (omega arith)) [ inl p ↦ p | inr e ↦ absurd (h e) ]

module _ (slots : Slots) (order : List NodeId) (h : ascending spot_below (spots_of slots order) ≡ true) (node : NodeId) (at : ℕ) where
  above_at : (k : ℕ) (d : Spot) → k < length order → (get_or (spots_of slots order) k d).0 ≡ (parent_at slots (get_or order k top)).0
  above_at k d l = ap (λ (s : Spot). s.0) (spot_get slots order k top d l)

  above_rises : (i j : ℕ) (d : Spot) → i ≤ j → j < length (spots_of slots order) → (get_or (spots_of slots order) i d).0 ≤ (get_or (spots_of slots order) j d).0
  above_rises i j d l m = elim (lt_or_eq i j (omega arith)) [
    | inl p ↦ no_greater (get_or (spots_of slots order) i d) (get_or (spots_of slots order) j d) (rising (spots_of slots order) d i j h p m)
    | inr p ↦ (let e : (get_or (spots_of slots order) i d).0 ≡ (get_or (spots_of slots order) j d).0 = ap (λ (n : ℕ). (get_or (spots_of slots order) n d).0) p in omega arith)
  ]

  -- the last before a place stands below a node of a lower number, so all before it do
  pub all_before : 0 < at → at ≤ length order → (parent_at slots (get_or order (at - 1) top)).0 < node.0 → (k : ℕ) (d : Spot) → k < at → (get_or (spots_of slots order) k d).0 < node.0
  all_before some within less k d l =
      let e : (get_or (spots_of slots order) (at - 1) d).0 ≡ (parent_at slots (get_or order (at - 1) top)).0 = above_at (at - 1) d (omega arith) in
      let r : (get_or (spots_of slots order) k d).0 ≤ (get_or (spots_of slots order) (at - 1) d).0 = above_rises k (at - 1) d (omega arith) (omega (arith, spots_length slots order)) in
      omega arith

  -- and what stands at a place below the node or one of a higher number, so do all from there on
  pub all_from : at < length order → node.0 ≤ (parent_at slots (get_or order at top)).0 → (k : ℕ) (d : Spot) → at ≤ k → k < length (spots_of slots order) → node.0 ≤ (get_or (spots_of slots order) k d).0
  all_from within more k d l m =
      let e : (get_or (spots_of slots order) at d).0 ≡ (parent_at slots (get_or order at top)).0 = above_at at d within in
      let r : (get_or (spots_of slots order) at d).0 ≤ (get_or (spots_of slots order) k d).0 = above_rises at k d l m in
      omega arith

module _ (slots : Slots) (order : List NodeId) (h : ascending spot_below (spots_of slots order) ≡ true) (node : NodeId) (at : ℕ) (start : IsStart (spots_of slots order) node at) where
  -- with something below the node, the first of it is where the run begins
  pub first_of_run : (c : NodeId) → In c order → parent_at slots c ≡ node → (at < length order) × (parent_at slots (get_or order at top) ≡ node)
  first_of_run c i e =
      let w = get_in c order i in
      let is : (get_or (spots_of slots order) w.0 (0, [])).0 ≡ node.0 = ap (λ (s : Spot). s.0) (spot_get slots order w.0 top (0, []) w.1) ∙ ap (λ (m : NodeId). (parent_at slots m).0) (w.2 top) ∙ ap (λ (m : NodeId). m.0) e in
      let long : w.0 < length (spots_of slots order) = (let l = w.1 in omega (arith, spots_length slots order)) in
      elim (lt_or_le w.0 at) [
        | inl l ↦ absurd (let b = start.before w.0 (0, []) l in omega arith)
        | inr l ↦ (
          (let m = w.1 in omega arith),
          by w.0 l w.1 long is (lt_or_eq at w.0 (omega arith)),
        )
      ]
    where
      by : (k : ℕ) → at ≤ k → k < length order → k < length (spots_of slots order) → (get_or (spots_of slots order) k (0, [])).0 ≡ node.0 → (at < k) ⊎ (at ≡ k) → parent_at slots (get_or order at top) ≡ node
      by k l m n e (inl p) =
          let a : node.0 ≤ (get_or (spots_of slots order) at (0, [])).0 = start.after at (0, []) (omega arith) (omega arith) in
          let b : (get_or (spots_of slots order) at (0, [])).0 ≤ (get_or (spots_of slots order) k (0, [])).0 = no_greater (get_or (spots_of slots order) at (0, [])) (get_or (spots_of slots order) k (0, [])) (rising (spots_of slots order) (0, []) at k h p n) in
          let f : (get_or (spots_of slots order) at (0, [])).0 ≡ (parent_at slots (get_or order at top)).0 = ap (λ (s : Spot). s.0) (spot_get slots order at top (0, []) (omega arith)) in
          same_id (parent_at slots (get_or order at top)) node (omega arith)
      by k l m n e (inr p) =
          let f : (get_or (spots_of slots order) k (0, [])).0 ≡ (parent_at slots (get_or order k top)).0 = ap (λ (s : Spot). s.0) (spot_get slots order k top (0, []) m) in
          same_id (parent_at slots (get_or order at top)) node (ap (λ (i : ℕ). (parent_at slots (get_or order i top)).0) p ∙ sym f ∙ e)
