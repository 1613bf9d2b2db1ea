-- The node that is found by a key in a context's entries.
use Rattle.std.proofs.Common.{◌≡◌, Bool, true, false, ◌||◌, List, [], ◌∷◌, refl, sym, ap, subst, ◌∙◌, Option, Some, None, if◌then◌else◌}
use Rattle.std.specs.Option.{is_some, option_map}
use Rattle.x5_model.specs.Keys.{Key, same_key}
use Rattle.x5_model.proofs.Lists.{any_in, of_find}
use Rattle.x5_model.proofs.Decide.{nat_same_decides}
use Rattle.x5_model_tree.specs.Tree.{entry_at, is_there}
use Rattle.x5_dse.specs.declared.node.NodeId.{NodeId}
use Rattle.x5_dse.specs.Linked.{Node, entries_of, has_id, id_of, is_live, node_at, node_key}

pub no_node : (nodes : List Node) (key : Key) → None ≡ option_map id_of (node_at nodes key) → entry_at (entries_of nodes) key ≡ None
no_node [] key e = refl
no_node (n ∷ nodes) key e = by (same_key (node_key n) key) refl (no_node nodes key)
  where
    by : (b : Bool) → same_key (node_key n) key ≡ b
        → (None ≡ option_map id_of (node_at nodes key) → entry_at (entries_of nodes) key ≡ None) → entry_at (entries_of (n ∷ nodes)) key ≡ None
    by true s rest =
        absurd (let q : None ≡ Some n.id = e ∙ ap (λ (b : Bool). option_map id_of (if b then Some n else node_at nodes key)) s in cc)
    by false s rest =
        ap (λ (b : Bool). if b then Some n.named else entry_at (entries_of nodes) key) s
        ∙ rest (e ∙ ap (λ (b : Bool). option_map id_of (if b then Some n else node_at nodes key)) s)

pub there_by_node : (nodes : List Node) (key : Key) → is_some (option_map id_of (node_at nodes key)) ≡ is_there (entries_of nodes) key
there_by_node [] key = refl
there_by_node (n ∷ nodes) key = by (same_key (node_key n) key) (there_by_node nodes key)
  where
    by : (b : Bool) → is_some (option_map id_of (node_at nodes key)) ≡ is_there (entries_of nodes) key
        → is_some (option_map id_of (if b then Some n else node_at nodes key)) ≡ (b || is_there (entries_of nodes) key)
    by true rest = refl
    by false rest = rest

pub found_node : (nodes : List Node) (key : Key) (id : NodeId) → Some id ≡ option_map id_of (node_at nodes key)
    → (n : Node) × (node_at nodes key ≡ Some n) × (id ≡ n.id)
found_node nodes key id e = by (node_at nodes key) refl
  where
    inside : {a b : NodeId} → Some a ≡ Some b → a ≡ b
    inside q = cc

    by : (o : Option Node) → node_at nodes key ≡ o → (n : Node) × (node_at nodes key ≡ Some n) × (id ≡ n.id)
    by None q = absurd (let z : Some id ≡ None = e ∙ ap (option_map id_of) q in cc)
    by (Some n) q = (n, q, inside (e ∙ ap (option_map id_of) q))

pub live_found : (nodes : List Node) (key : Key) (id : NodeId) → Some id ≡ option_map id_of (node_at nodes key) → is_live nodes id ≡ true
live_found nodes key id e =
    let w = found_node nodes key id e in
    any_in (has_id id) w.0 nodes (of_find (λ (x : Node). same_key (node_key x) key) w.0 nodes w.1).0
    (subst (λ (j : NodeId). has_id j w.0 ≡ true) (sym w.2) ((nat_same_decides w.0.id.0 w.0.id.0).1 refl))
