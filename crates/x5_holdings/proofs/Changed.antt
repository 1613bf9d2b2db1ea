-- The index of a context's entries where one of them is removed, replaced or renamed: its node's postings are dropped, or become
-- those of what takes its place; so the postings stay those of the entries.
use Rattle.std.proofs.Common.{◌≡◌, ◌≢◌, ℕ, Bool, true, false, not, if◌then◌else◌, ◌==◌, inl, inr, List, [], ◌∷◌, map, length}
use Rattle.std.proofs.Common.{Option, Some, None, refl, sym, ap, subst, ◌∙◌}
use Rattle.std.specs.List.{filter}
use Rattle.std.specs.Option.{option_map}
use Rattle.x5_model.specs.Words.{ascending, sorted}
use Rattle.x5_model.specs.Members.{In}
use Rattle.x5_model.specs.Keys.{Key, same_key, is_prefix, key_below}
use Rattle.x5_model.specs.Values.{Rdn, name_above}
use Rattle.x5_model.specs.Entries.{Entry, Named}
use Rattle.x5_model.proofs.Decide.{nat_same_decides}
use Rattle.x5_model.proofs.KeyLaws.{key_decides}
use Rattle.x5_model.proofs.Lists.{true_or_false, in_first, of_map, of_find, not_found}
use Rattle.x5_model.proofs.Ascending.{of_sorted, in_sorted, first_below, rest_ascending}
use Rattle.x5_model_tree.specs.Apply.{respelled}
use Rattle.x5_dse.specs.declared.node.NodeId.{NodeId}
use Rattle.x5_dse.specs.Linked.{Node, Nodes, AreNumbered, IsLinked, node_below, node_key, node_with, has_id}
use Rattle.x5_dse.specs.Changes.{Replaced, Renamed, with_entry, moved}
use Rattle.x5_dse.proofs.Named.{node_chain, node_never}
use Rattle.x5_index.specs.Index.{Posting, IsEntryAt, IsPut, IsDropped, OthersStay}
use Rattle.x5_index.proofs.Laws.{absent_elsewhere, entry_elsewhere}
use Rattle.x5_holdings.specs.State.{IsPosted, ArePosted}

-- ---- nodes by their numbers

number_is : (a b : NodeId) → (a.0 == b.0) ≡ true → a ≡ b
number_is a b e = (let p = (nat_same_decides a.0 b.0).0 e in λ i. record { 0 = p i })

pub node_gone : (id : NodeId) (nodes : List Node) → node_with (filter (λ n. not (has_id id n)) nodes) id ≡ None
node_gone id [] = refl
node_gone id (n ∷ nodes) = by (has_id id n) refl (node_gone id nodes)
  where
    by : (b : Bool) → has_id id n ≡ b → node_with (filter (λ n. not (has_id id n)) nodes) id ≡ None →
        node_with (filter (λ n. not (has_id id n)) (n ∷ nodes)) id ≡ None
    by true f rest =
        ap (λ (b : Bool). node_with (if not b then n ∷ filter (λ n. not (has_id id n)) nodes else filter
        (λ n. not (has_id id n)) nodes) id) f
        ∙ rest
    by false f rest =
        ap (λ (b : Bool). node_with (if not b then n ∷ filter (λ n. not (has_id id n)) nodes else filter
        (λ n. not (has_id id n)) nodes) id) f
        ∙ (ap (λ (b : Bool). if b then Some n else node_with (filter (λ n. not (has_id id n)) nodes) id) f ∙ rest)

pub node_left : (id k : NodeId) → (id.0 == k.0) ≡ false → (nodes : List Node) →
    node_with (filter (λ n. not (has_id id n)) nodes) k ≡ node_with nodes k
node_left id k e [] = refl
node_left id k e (n ∷ nodes) = by (has_id id n) refl (node_left id k e nodes)
  where
    by : (b : Bool) → has_id id n ≡ b → node_with (filter (λ n. not (has_id id n)) nodes) k ≡ node_with nodes k →
        node_with (filter (λ n. not (has_id id n)) (n ∷ nodes)) k ≡ node_with (n ∷ nodes) k
    by true f rest =
        let other : has_id k n ≡ false = ap (λ (m : ℕ). m == k.0) ((nat_same_decides n.id.0 id.0).0 f) ∙ e in
        ap (λ (b : Bool). node_with (if not b then n ∷ filter (λ n. not (has_id id n)) nodes else filter
        (λ n. not (has_id id n)) nodes) k) f
        ∙ (rest ∙ sym (ap (λ (b : Bool). if b then Some n else node_with nodes k) other))
    by false f rest =
        ap (λ (b : Bool). node_with (if not b then n ∷ filter (λ n. not (has_id id n)) nodes else filter
        (λ n. not (has_id id n)) nodes) k) f
        ∙ ap (λ (o : Option Node). if has_id k n then Some n else o) rest

-- where each node keeps its number
pub node_mapped : (f : Node → Node) → ((n : Node) → (f n).id ≡ n.id) → (nodes : List Node) (k : NodeId) →
    node_with (map f nodes) k ≡ option_map f (node_with nodes k)
node_mapped f ids [] k = refl
node_mapped f ids (n ∷ nodes) k = by (has_id k n) refl (node_mapped f ids nodes k)
  where
    number : has_id k (f n) ≡ has_id k n
    number = ap (λ (i : NodeId). i.0 == k.0) (ids n)

    by : (b : Bool) → has_id k n ≡ b → node_with (map f nodes) k ≡ option_map f (node_with nodes k) →
        node_with (map f (n ∷ nodes)) k ≡ option_map f (node_with (n ∷ nodes) k)
    by true e rest =
        ap (λ (b : Bool). if b then Some (f n) else node_with (map f nodes) k) (number ∙ e)
        ∙ sym (ap (λ (b : Bool). option_map f (if b then Some n else node_with nodes k)) e)
    by false e rest =
        ap (λ (b : Bool). if b then Some (f n) else node_with (map f nodes) k) (number ∙ e)
        ∙ (rest ∙ sym (ap (λ (b : Bool). option_map f (if b then Some n else node_with nodes k)) e))

-- in whatever order they stand
pub node_sorted : (xs : List Node) → AreNumbered xs → (k : NodeId) → node_with (sorted node_below xs) k ≡ node_with xs k
node_sorted xs numbered k = by (node_with (sorted node_below xs) k) refl
  where
    none : (o : Option Node) → node_with xs k ≡ o → node_with (sorted node_below xs) k ≡ None → node_with xs k ≡ None
    none None p q = p
    none (Some m) p q =
        let w = of_find (has_id k) m xs p in
        let f : has_id k m ≡ false = not_found (has_id k) m (sorted node_below xs) q (in_sorted node_below m xs w.0) in
        let t = w.1 in cc

    by : (o : Option Node) → node_with (sorted node_below xs) k ≡ o → node_with (sorted node_below xs) k ≡ node_with xs k
    by None p = p ∙ sym (none (node_with xs k) refl p)
    by (Some m) p =
        let w = of_find (has_id k) m (sorted node_below xs) p in
        p ∙ sym (subst (λ (i : NodeId). node_with xs i ≡ Some m) (number_is m.id k w.1)
        (numbered m (of_sorted node_below m xs w.0)))

pub numbered_mapped : (f : Node → Node) → ((n : Node) → (f n).id ≡ n.id) → (nodes : List Node) → AreNumbered nodes →
    AreNumbered (map f nodes)
numbered_mapped f ids nodes numbered y i =
    let w = of_map f y nodes i in
    subst (λ (z : Node). node_with (map f nodes) z.id ≡ Some z) (sym w.2)
    (subst (λ (k : NodeId). node_with (map f nodes) k ≡ Some (f w.0)) (sym (ids w.0))
    (node_mapped f ids nodes w.0.id ∙ ap (option_map f) (numbered w.0 w.1)))

-- two with one key are one
pub same_node : (nodes : List Node) → ascending node_below nodes ≡ true → (n m : Node) → In n nodes → In m nodes →
    node_key n ≡ node_key m → n ≡ m
same_node [] h n m i j e = elim i [ ]
same_node (x ∷ xs) h n m i j e = elim (in_first n x xs i) [
  | inl p ↦ elim (in_first m x xs j) [
    | inl q ↦ p ∙ sym q
    | inr k ↦ absurd (node_never m (subst (λ (z : Key). key_below z (node_key m) ≡ true) (sym (ap node_key p) ∙ e)
        (first_below node_below node_chain x m xs h k)))
  ]
  | inr l ↦ elim (in_first m x xs j) [
    | inl q ↦ absurd (node_never n (subst (λ (z : Key). key_below z (node_key n) ≡ true) (sym (ap node_key q) ∙ sym e)
        (first_below node_below node_chain x n xs h l)))
    | inr k ↦ same_node xs (rest_ascending node_below node_chain x xs h) n m l k e
  ]
]

-- ---- what is posted

other_number : (id k : NodeId) → (id.0 == k.0) ≡ false → k.0 ≢ id.0
other_number id k e f = (let t : (id.0 == k.0) ≡ true = (nat_same_decides id.0 k.0).1 (sym f) in cc)

stay : (old new : List Posting) (id k : NodeId) → OthersStay old id.0 new → (id.0 == k.0) ≡ false → (o : Option Node) →
    IsPosted old k o → IsPosted new k o
stay old new id k others e None p = absent_elsewhere old new id.0 k.0 others (other_number id k e) p
stay old new id k others e (Some n) p = entry_elsewhere old new id.0 k.0 others (other_number id k e) n.named.entry p

-- a node is dropped
pub posted_without : (old new : List Posting) (id : NodeId) (nodes : List Node) → IsDropped old id.0 new → ArePosted old
    nodes → ArePosted new (filter (λ n. not (has_id id n)) nodes)
posted_without old new id nodes dropped are k = by (id.0 == k.0) refl
  where
    by : (b : Bool) → (id.0 == k.0) ≡ b → IsPosted new k (node_with (filter (λ n. not (has_id id n)) nodes) k)
    by true t = subst (λ (i : NodeId). IsPosted new i (node_with (filter (λ n. not (has_id id n)) nodes) i))
        (number_is id k t)
        (subst (λ (o : Option Node). IsPosted new id o) (sym (node_gone id nodes)) dropped.gone)
    by false t = subst (λ (o : Option Node). IsPosted new k o) (sym (node_left id k t nodes))
        (stay old new id k dropped.others t (node_with nodes k) (are k))

-- one node gets another entry, and all others keep theirs
module _ (old new : List Posting) (id : NodeId) (entry : Entry) (nodes : List Node) (node : Node) (f : Node → Node)
    (there_is : node_with nodes id ≡ Some node) (put : IsPut old id.0 entry new)
    (here_is : (f node).named.entry ≡ entry)
    (others : (n : Node) → In n nodes → has_id id n ≡ false → (f n).named.entry ≡ n.named.entry) where
  kept_entry : (k : NodeId) → (id.0 == k.0) ≡ false → (o : Option Node) → node_with nodes k ≡ o → IsPosted new k o →
      IsPosted new k (option_map f o)
  kept_entry k t None p q = q
  kept_entry k t (Some n) p q =
      let w = of_find (has_id k) n nodes p in
      let at : n.id.0 ≡ k.0 = (nat_same_decides n.id.0 k.0).0 w.1 in
      let apart : has_id id n ≡ false = elim (true_or_false (has_id id n)) [
        | inl y ↦ absurd (other_number id k t (sym at ∙ (nat_same_decides n.id.0 id.0).0 y))
        | inr y ↦ y
      ] in
      subst (λ (e : Entry). IsEntryAt new k.0 e) (sym (others n w.0 apart)) q

  pub posted_changed : ArePosted old nodes → (after : List Node) →
      ((k : NodeId) → node_with after k ≡ option_map f (node_with nodes k)) → ArePosted new after
  posted_changed are after mapped k = by (id.0 == k.0) refl
    where
      by : (b : Bool) → (id.0 == k.0) ≡ b → IsPosted new k (node_with after k)
      by true t = subst (λ (i : NodeId). IsPosted new i (node_with after i)) (number_is id k t)
          (subst (λ (o : Option Node). IsPosted new id o) (sym (mapped id ∙ ap (option_map f) there_is))
          (subst (λ (e : Entry). IsEntryAt new id.0 e) (sym here_is) put.here))
      by false t = subst (λ (o : Option Node). IsPosted new k o) (sym (mapped k))
          (kept_entry k t (node_with nodes k) refl
          (stay old new id k put.others t (node_with nodes k) (are k)))

-- ---- each change

abbrev with_if : Entry → Bool → Node → Node
with_if entry b n = if b then record n { named = record { name = n.named.name; entry = entry } } else n

with_ids : (entry : Entry) (b : Bool) (n : Node) → (with_if entry b n).id ≡ n.id
with_ids entry true n = refl
with_ids entry false n = refl

pub posted_replaced : (old new : List Posting) (before after : Nodes) (id : NodeId) (entry was : Entry) → Replaced
    before id entry was after → IsPut old id.0 entry new → ArePosted old before.nodes → ArePosted new after.nodes
posted_replaced old new before after id entry was replaced put are =
    subst (λ (ns : List Node). ArePosted new ns) (sym replaced.nodes)
    (posted_changed old new id entry before.nodes replaced.node (with_entry id entry) replaced.there put
    (ap (λ (b : Bool). (with_if entry b replaced.node).named.entry)
    (of_find (has_id id) replaced.node before.nodes replaced.there).1)
    (λ n i e. ap (λ (b : Bool). (with_if entry b n).named.entry) e) are (map (with_entry id entry) before.nodes)
    (node_mapped (with_entry id entry) (λ n. with_ids entry (has_id id n) n) before.nodes))

abbrev move_if : Named → Rdn → Entry → Bool → Bool → Named → Named
move_if x rdn entry b d e =
    if b then record { name = respelled (length (name_above x.name)) rdn e.name; entry = entry }
    else (if d then record e { name = respelled (length (name_above x.name)) rdn e.name } else e)

entry_stays : (x : Named) (rdn : Rdn) (entry : Entry) (d : Bool) (e : Named) → (move_if x rdn entry false d e).entry ≡
    e.entry
entry_stays x rdn entry true e = refl
entry_stays x rdn entry false e = refl

module _ (before : Nodes) (id : NodeId) (node : Node) (rdn : Rdn) (entry : Entry) (linked : IsLinked before.nodes)
    (there_is : node_with before.nodes id ≡ Some node) where
  found : In node before.nodes × (has_id id node ≡ true)
  found = of_find (has_id id) node before.nodes there_is

  moved_here : (moved node.named rdn entry node).named.entry ≡ entry
  moved_here = ap (λ (b : Bool). (move_if node.named rdn entry b (is_prefix (node_key node) (node_key node)) node.named).entry)
      ((key_decides (node_key node) (node_key node)).1 refl)

  other_key : (n : Node) → In n before.nodes → has_id id n ≡ false → same_key (node_key n) (node_key node) ≡ false
  other_key n i e = elim (true_or_false (same_key (node_key n) (node_key node))) [
    | inl y ↦ absurd (let p = same_node before.nodes linked.in_order n node i found.0
        ((key_decides (node_key n) (node_key node)).0 y) in let t : has_id id n ≡ true = ap (has_id id) p ∙ found.1 in cc)
    | inr y ↦ y
  ]

  moved_others : (n : Node) → In n before.nodes → has_id id n ≡ false → (moved node.named rdn entry n).named.entry ≡
      n.named.entry
  moved_others n i e =
      ap (λ (b : Bool). (move_if node.named rdn entry b (is_prefix (node_key node) (node_key n)) n.named).entry)
      (other_key n i e)
      ∙ entry_stays node.named rdn entry (is_prefix (node_key node) (node_key n)) n.named

pub posted_renamed : (old new : List Posting) (before after : Nodes) (id : NodeId) (rdn : Rdn) (entry : Entry) →
    IsLinked before.nodes → AreNumbered before.nodes → Renamed before id rdn entry after → IsPut old id.0 entry new
    → ArePosted old before.nodes → ArePosted new after.nodes
posted_renamed old new before after id rdn entry linked numbered renamed put are =
    subst (λ (ns : List Node). ArePosted new ns) (sym renamed.nodes)
    (posted_changed old new id entry before.nodes renamed.node (moved renamed.node.named rdn entry) renamed.there put
    (moved_here before id renamed.node rdn entry linked renamed.there)
    (moved_others before id renamed.node rdn entry linked renamed.there) are
    (sorted node_below (map (moved renamed.node.named rdn entry) before.nodes))
    (λ k. node_sorted (map (moved renamed.node.named rdn entry) before.nodes)
    (numbered_mapped (moved renamed.node.named rdn entry) (λ n. refl) before.nodes numbered) k
    ∙ node_mapped (moved renamed.node.named rdn entry) (λ n. refl) before.nodes k))
