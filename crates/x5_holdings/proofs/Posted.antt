-- The index of a context's entries: where it begins with one entry, and where an entry is added, its postings stay
-- those of the
-- entries.
use Rattle.std.proofs.Common.{◌≡◌, ◌≢◌, ℕ, Bool, true, false, if◌then◌else◌, ◌||◌, ◌==◌, List, [], ◌∷◌, Option, Some}
use Rattle.std.proofs.Common.{None, refl, sym, ap, subst, ◌∙◌}
use Rattle.std.specs.List.{list_any}
use Rattle.std.specs.Option.{option_map}
use Rattle.x5_model.specs.Words.{insert_sorted, first_of}
use Rattle.x5_model.specs.Entries.{Entry, Named}
use Rattle.x5_model.proofs.Decide.{nat_same_decides}
use Rattle.x5_model_tree.specs.Tree.{key_at}
use Rattle.x5_dse.specs.declared.node.NodeId.{NodeId}
use Rattle.x5_dse.specs.Linked.{Node, id_of, entries_of, entry_in, node_below, node_with, has_id, is_live, prefix_of}
use Rattle.x5_index.specs.Index.{Posting, IsEntryAt, IsPut}
use Rattle.x5_index.proofs.Laws.{absent_elsewhere, entry_elsewhere}
use Rattle.x5_holdings.specs.State.{IsPosted, ArePosted}

-- ---- nodes by their numbers

pub not_live : (nodes : List Node) (id : NodeId) → is_live nodes id ≡ false → node_with nodes id ≡ None
not_live [] id e = refl
not_live (n ∷ nodes) id e = by (has_id id n) refl (not_live nodes id)
  where
    by : (b : Bool) → has_id id n ≡ b → (is_live nodes id ≡ false → node_with nodes id ≡ None) → node_with (n ∷ nodes)
        id ≡ None
    by true f rest = absurd (let t : is_live (n ∷ nodes) id ≡ true = ap
        (λ (b : Bool). b || list_any (has_id id) nodes) f in cc)
    by false f rest =
        ap (λ (b : Bool). if b then Some n else node_with nodes id) f
        ∙ rest (sym (ap (λ (b : Bool). b || list_any (has_id id) nodes) f) ∙ e)

pub top_live : (nodes : List Node) (id : NodeId) → option_map id_of (first_of nodes) ≡ Some id → is_live nodes id ≡ true
top_live [] id e = cc
top_live (n ∷ nodes) id e =
    let f : n.id ≡ id = inside e in
    ap (λ (b : Bool). b || list_any (has_id id) nodes) ((nat_same_decides n.id.0 id.0).1 (ap (λ (i : NodeId). i.0) f))
  where
    inside : Some n.id ≡ Some id → n.id ≡ id
    inside g = cc

pub one_prefix : (nodes : List Node) (e : Named) → entries_of nodes ≡ e ∷ [] → prefix_of nodes ≡ key_at e
one_prefix [] e h = cc
one_prefix (n ∷ nodes) e h = ap key_at (first e h)
  where
    first : (e : Named) → n.named ∷ entries_of nodes ≡ e ∷ [] → n.named ≡ e
    first e h = cc

-- one that is added is found, and the others as before
module _ (x : Node) (id : NodeId) where
  find_if : Bool → Node → List Node → Option Node
  find_if b n nodes = if b then Some n else node_with nodes id

  pub node_added : (nodes : List Node) → has_id id x ≡ true → is_live nodes id ≡ false → node_with
      (insert_sorted node_below x nodes) id ≡ Some x
  node_added [] h l = ap (λ (b : Bool). if b then Some x else None) h
  node_added (n ∷ nodes) h l = by (node_below n x) refl (has_id id n) refl (node_added nodes h)
    where
      by : (b : Bool) → node_below n x ≡ b → (d : Bool) → has_id id n ≡ d →
          (is_live nodes id ≡ false → node_with (insert_sorted node_below x nodes) id ≡ Some x) → node_with
          (insert_sorted node_below x (n ∷ nodes)) id ≡ Some x
      by b e true f rest = absurd
          (let t : is_live (n ∷ nodes) id ≡ true = ap (λ (b : Bool). b || list_any (has_id id) nodes) f in cc)
      by true e false f rest =
          ap (λ (b : Bool). node_with (if b then n ∷ insert_sorted node_below x nodes else (x ∷ n ∷ nodes)) id) e
          ∙ (ap (λ (b : Bool). if b then Some n else node_with (insert_sorted node_below x nodes) id) f
          ∙ rest (sym (ap (λ (b : Bool). b || list_any (has_id id) nodes) f) ∙ l))
      by false e false f rest =
          ap (λ (b : Bool). node_with (if b then n ∷ insert_sorted node_below x nodes else (x ∷ n ∷ nodes)) id) e
          ∙ ap (λ (b : Bool). if b then Some x else node_with (n ∷ nodes) id) h

  pub node_other : (nodes : List Node) → has_id id x ≡ false → node_with (insert_sorted node_below x nodes) id ≡
      node_with nodes id
  node_other [] h = ap (λ (b : Bool). if b then Some x else None) h
  node_other (n ∷ nodes) h = by (node_below n x) refl (node_other nodes h)
    where
      by : (b : Bool) → node_below n x ≡ b → node_with (insert_sorted node_below x nodes) id ≡ node_with nodes id →
          node_with (insert_sorted node_below x (n ∷ nodes)) id ≡ node_with (n ∷ nodes) id
      by true e rest =
          ap (λ (b : Bool). node_with (if b then n ∷ insert_sorted node_below x nodes else (x ∷ n ∷ nodes)) id) e
          ∙ ap (λ (o : Option Node). if has_id id n then Some n else o) rest
      by false e rest =
          ap (λ (b : Bool). node_with (if b then n ∷ insert_sorted node_below x nodes else (x ∷ n ∷ nodes)) id) e
          ∙ ap (λ (b : Bool). if b then Some x else node_with (n ∷ nodes) id) h

-- ---- what is posted

module _ (old new : List Posting) (id : NodeId) (entry : Entry) (put : IsPut old id.0 entry new) where
  at_number : (k : NodeId) → (id.0 == k.0) ≡ true → IsEntryAt new k.0 entry
  at_number k e = subst (λ (n : ℕ). IsEntryAt new n entry) ((nat_same_decides id.0 k.0).0 e) put.here

  other_number : (k : NodeId) → (id.0 == k.0) ≡ false → k.0 ≢ id.0
  other_number k e f = (let t : (id.0 == k.0) ≡ true = (nat_same_decides id.0 k.0).1 (sym f) in cc)

  others_stay : (k : NodeId) → (id.0 == k.0) ≡ false → (o : Option Node) → IsPosted old k o → IsPosted new k o
  others_stay k e None p = absent_elsewhere old new id.0 k.0 put.others (other_number k e) p
  others_stay k e (Some n) p = entry_elsewhere old new id.0 k.0 put.others (other_number k e) (entry_in n) p

  pub posted_more : (nodes : List Node) (x : Node) → x.id ≡ id → x.named.entry ≡ entry → is_live nodes id ≡ false →
      ArePosted old nodes → ArePosted new (insert_sorted node_below x nodes)
  posted_more nodes x e f fresh are k = by (id.0 == k.0) refl
    where
      number : has_id k x ≡ (id.0 == k.0)
      number = ap (λ (i : NodeId). i.0 == k.0) e

      by : (b : Bool) → (id.0 == k.0) ≡ b → IsPosted new k (node_with (insert_sorted node_below x nodes) k)
      by true t =
          let same : id ≡ k = same_number ((nat_same_decides id.0 k.0).0 t) in
          subst (λ (o : Option Node). IsPosted new k o)
          (sym (node_added x k nodes (number ∙ t) (subst (λ (i : NodeId). is_live nodes i ≡ false) same fresh)))
          (subst (λ (g : Entry). IsEntryAt new k.0 g) (sym f) (at_number k t))
        where
          same_number : id.0 ≡ k.0 → id ≡ k
          same_number p = λ i. record { 0 = p i }
      by false t = subst (λ (o : Option Node). IsPosted new k o) (sym (node_other x k nodes (number ∙ t)))
          (others_stay k t (node_with nodes k) (are k))

-- the prefix's entry alone
pub posted_alone : (new : List Posting) (nodes : List Node) (e : Named) (id : NodeId) (entry : Entry) → entries_of
    nodes ≡ e ∷ [] → option_map id_of (first_of nodes) ≡ Some id
    → option_map entry_in (node_with nodes id) ≡ Some entry → IsPut [] id.0 entry new → ArePosted new nodes
posted_alone new [] e id entry h i f put = cc
posted_alone new (n ∷ m ∷ nodes) e id entry h i f put = absurd (two (n.named) (m.named) (entries_of nodes) h)
  where
    two : (a b : Named) (rest : List Named) → a ∷ b ∷ rest ≡ e ∷ [] → ⊥
    two a b rest g = cc
posted_alone new (n ∷ []) e id entry h i f put = posted_more [] new id entry put [] n (inside i) same refl (λ k. refl)
  where
    inside : Some n.id ≡ Some id → n.id ≡ id
    inside g = cc

    found : has_id id n ≡ true
    found = (nat_same_decides n.id.0 id.0).1 (ap (λ (j : NodeId). j.0) (inside i))

    same : n.named.entry ≡ entry
    same = (let g : Some n.named.entry ≡ Some entry = sym
        (ap (λ (b : Bool). option_map entry_in (if b then Some n else None)) found) ∙ f in cc)
