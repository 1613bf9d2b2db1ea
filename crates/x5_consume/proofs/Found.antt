-- The node that a name is found at.
use Rattle.std.proofs.Common.{◌≡◌, Bool, true, false, ◌||◌, List, [], ◌∷◌, refl, ap, ◌∙◌, Option, Some, None, if◌then◌else◌}
use Rattle.std.specs.Option.{is_some, option_map}
use Rattle.x5_model.specs.Keys.{Key, same_key}
use Rattle.x5_model.proofs.Lists.{of_find}
use Rattle.x5_model_tree.specs.Tree.{is_there}
use Rattle.x5_dse.specs.declared.node.NodeId.{NodeId}
use Rattle.x5_dse.specs.Linked.{AreNumbered, Node, entries_of, id_of, node_at, node_key, node_with}
use Rattle.x5_consume.specs.Ready.{IsNodeOf}

there_by_node : (nodes : List Node) (key : Key) → is_some (option_map id_of (node_at nodes key)) ≡ is_there (entries_of nodes) key
there_by_node [] key = refl
there_by_node (n ∷ nodes) key = by (same_key (node_key n) key) (there_by_node nodes key)
  where
    by : (b : Bool) → is_some (option_map id_of (node_at nodes key)) ≡ is_there (entries_of nodes) key
        → is_some (option_map id_of (if b then Some n else node_at nodes key)) ≡ (b || is_there (entries_of nodes) key)
    by true rest = refl
    by false rest = rest

pub lacks : (nodes : List Node) (key : Key) → None ≡ option_map id_of (node_at nodes key)
    → is_there (entries_of nodes) key ≡ true → ⊥
lacks nodes key e t =
    let f : false ≡ is_there (entries_of nodes) key =
    ap (λ (o : Option NodeId). is_some o) e ∙ there_by_node nodes key in cc

pub found_node : (nodes : List Node) (key : Key) (id : NodeId) → AreNumbered nodes
    → Some id ≡ option_map id_of (node_at nodes key) → IsNodeOf nodes key id
found_node nodes key id numbered e = by (node_at nodes key) refl
  where
    inside : {a b : NodeId} → Some a ≡ Some b → a ≡ b
    inside q = cc

    by : (o : Option Node) → node_at nodes key ≡ o → IsNodeOf nodes key id
    by None q = absurd (let z : Some id ≡ None = e ∙ ap (option_map id_of) q in cc)
    by (Some n) q =
        let same : id ≡ n.id = inside (e ∙ ap (option_map id_of) q) in
        record {
          node = n;
          there = ap (node_with nodes) same ∙ numbered n (of_find (λ (x : Node). same_key (node_key x) key) n nodes q).0;
          at = q;
        }
