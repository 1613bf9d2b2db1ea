-- Something stands below an entry where a walk over it and what stands below it has a second member.
use Rattle.std.proofs.Common.{◌≡◌, ◌<◌, ◌≤◌, Bool, true, false, cond, inl, inr, List, [], ◌∷◌, map, length, refl, sym, ap, subst, ◌∙◌, arith, Option, Some, None}
use Rattle.std.specs.List.{filter}
use Rattle.std.specs.Prelude.{MatchOption}
use Rattle.std.specs.Option.{is_some}
use Rattle.x5_model.specs.Words.{ascending, in_option}
use Rattle.x5_model.specs.Members.{In, here, there}
use Rattle.x5_model.specs.Keys.{Key, IsPrefix, root, is_below, is_prefix, same_key}
use Rattle.x5_model.specs.Entries.{Named}
use Rattle.x5_model.proofs.KeyLaws.{key_decides}
use Rattle.x5_model.proofs.Lists.{true_or_false, and_true, both_true, any_in, of_any, in_first, in_map, in_filter, of_filter}
use Rattle.x5_model.proofs.Ascending.{filter_ascending}
use Rattle.x5_model.proofs.Decide.{less_decides}
use Rattle.x5_model.proofs.Prefixes.{prefix_decides, prefix_itself, prefix_length, same_by_length}
use Rattle.x5_model_tree.specs.Tree.{key_at, keys_of, named_below, has_below}
use Rattle.x5_model_tree.proofs.Order.{named_chain}
use Rattle.x5_model_updates.proofs.Lookups.{once_keys}
use Rattle.x5_dse.specs.declared.node.NodeId.{NodeId}
use Rattle.x5_dse.specs.Linked.{Node, IsLinked, entries_of, id_of, named_of, node_key, node_with, subtree_of}
use Rattle.x5_model.proofs.Lists.{of_find}
use Rattle.x5_update.proofs.Seats.{ascending_entries}

abbrev pub has_two : {A : Type 0} → List A → Bool
has_two [] = false
has_two (x ∷ []) = false
has_two (x ∷ y ∷ xs) = true

two_mapped : {A B : Type 0} (f : A → B) (xs : List A) → has_two (map f xs) ≡ has_two xs
two_mapped f [] = refl
two_mapped f (x ∷ []) = refl
two_mapped f (x ∷ y ∷ xs) = refl

-- what two calls yield of a list
abbrev pub Yielded : List NodeId → Option NodeId → List NodeId → Type 0
Yielded l r m = MatchOption r ((l ≡ []) × (m ≡ [])) (λ x. l ≡ x ∷ m)

pub second : (l m t : List NodeId) (a b : Option NodeId) → Yielded l a m → Yielded m b t → is_some b ≡ has_two l
second l m t None None p q = sym (ap (λ (z : List NodeId). has_two z) p.0)
second l m t None (Some y) p q = absurd (let e : [] ≡ y ∷ t = sym p.1 ∙ q in cc)
second l m t (Some x) None p q = sym (ap (λ (z : List NodeId). has_two z) (p ∙ ap (λ (z : List NodeId). x ∷ z) q.0))
second l m t (Some x) (Some y) p q = sym (ap (λ (z : List NodeId). has_two z) (p ∙ ap (λ (z : List NodeId). x ∷ z) q))

-- ---- those at or below a key

at_or_below : (test : Named → Bool) (nodes : List Node) → map named_of (filter (λ n. test n.named) nodes) ≡ filter test (map named_of nodes)
at_or_below test [] = refl
at_or_below test (n ∷ nodes) = by (test n.named) (at_or_below test nodes)
  where
    by : (b : Bool) → map named_of (filter (λ m. test m.named) nodes) ≡ filter test (map named_of nodes)
        → map named_of (cond b (n ∷ filter (λ m. test m.named) nodes) (filter (λ m. test m.named) nodes))
        ≡ cond b (n.named ∷ filter test (map named_of nodes)) (filter test (map named_of nodes))
    by true e = ap (λ (es : List Named). n.named ∷ es) e
    by false e = e

longer : (key : Key) (x : Named) → is_prefix key (key_at x) ≡ true → (key_at x ≡ key → ⊥) → is_below key (key_at x) ≡ true
longer key x p other =
    and_true _ _
    ((less_decides (length key) (length (key_at x))).1 by_length)
    p
  where
    on : IsPrefix key (key_at x)
    on = (prefix_decides key (key_at x)).0 p

    by_length : length key < length (key_at x)
    by_length =
        let l : length key ≤ length (key_at x) = prefix_length key (key_at x) on in
        let n : length key ≡ length (key_at x) → ⊥ = (λ e. other (sym (same_by_length key (key_at x) (key_at x) on (prefix_itself (key_at x)) e))) in
        grind arith

module _ (es : List Named) (key : Key) (e : Named) (order : ascending named_below es ≡ true) (mine : In e es) (is : key_at e ≡ key) where
  abbrev on : Named → Bool
  on x = is_prefix key (key_at x)

  on_itself : on e ≡ true
  on_itself = (prefix_decides key (key_at e)).1 (subst (λ (k : Key). IsPrefix key k) (sym is) (prefix_itself key))

  member : (x : Named) (l : List Named) → filter on es ≡ l → In x l → In x es × (on x ≡ true)
  member x l q i = of_filter on x es (subst (λ (z : List Named). In x z) (sym q) i)

  deep : (x : Named) (l : List Named) → filter on es ≡ l → In x l → (key_at x ≡ key → ⊥) → has_below es key ≡ true
  deep x l q i other =
      let w = member x l q i in
      any_in (λ (y : Named). is_below key (key_at y)) x es w.0 (longer key x w.1 other)

  by : (l : List Named) → filter on es ≡ l → has_two l ≡ has_below es key
  by [] q = absurd (elim (subst (λ (z : List Named). In e z) q (in_filter on e es mine on_itself)) [ ])
  by (a ∷ []) q =
      elim (true_or_false (has_below es key)) [
        | inr f ↦ sym f
        | inl t ↦ absurd (
            let w = of_any (λ (y : Named). is_below key (key_at y)) es t in
            let b = both_true _ _ w.2 in
            let x_in : In w.0 (a ∷ []) = subst (λ (z : List Named). In w.0 z) q (in_filter on w.0 es w.1 b.1) in
            let e_in : In e (a ∷ []) = subst (λ (z : List Named). In e z) q (in_filter on e es mine on_itself) in
            let x_is : w.0 ≡ a = only w.0 x_in in
            let e_is : e ≡ a = only e e_in in
            let k : key_at w.0 ≡ key = ap key_at (x_is ∙ sym e_is) ∙ is in
            let n : length (key_at w.0) ≡ length key = ap length k in
            let l : length key < length (key_at w.0) = (less_decides (length key) (length (key_at w.0))).0 b.0 in
            omega arith)
      ]
    where
      only : (x : Named) → In x (a ∷ []) → x ≡ a
      only x i = elim (in_first x a [] i) [ inl s ↦ s | inr j ↦ elim j [ ] ]
  by (a ∷ b ∷ l) q =
      elim (true_or_false (same_key (key_at a) key)) [
        | inr f ↦ sym (deep a (a ∷ b ∷ l) q here (λ s. let t : same_key (key_at a) key ≡ true = (key_decides (key_at a) key).1 s in cc))
        | inl t ↦ sym (deep b (a ∷ b ∷ l) q (there here) (λ s.
            (once_keys (a ∷ b ∷ l) (subst (λ (z : List Named). ascending named_below z ≡ true) q (filter_ascending named_below named_chain on es order))).0
            (subst (λ (k : Key). In k (key_at b ∷ keys_of l)) (s ∙ sym ((key_decides (key_at a) key).0 t)) here)))
      ]

  pub two_below : has_two (filter on es) ≡ has_below es key
  two_below = by (filter on es) refl

pub walked : (nodes : List Node) (id : NodeId) (n : Node) → IsLinked nodes → node_with nodes id ≡ Some n
    → has_two (subtree_of nodes id) ≡ has_below (entries_of nodes) (node_key n)
walked nodes id n linked w =
    ap (λ (k : Key). has_two (map id_of (filter (λ (m : Node). is_prefix k (node_key m)) nodes))) (ap (in_option root node_key) w)
    ∙ two_mapped id_of (filter (λ (m : Node). is_prefix (node_key n) (node_key m)) nodes)
    ∙ sym (two_mapped named_of (filter (λ (m : Node). is_prefix (node_key n) (node_key m)) nodes))
    ∙ ap (λ (z : List Named). has_two z) (at_or_below (λ (x : Named). is_prefix (node_key n) (key_at x)) nodes)
    ∙ two_below (entries_of nodes) (node_key n) n.named (ascending_entries nodes linked.in_order)
    (in_map named_of n nodes (of_find _ n nodes w).0) refl
