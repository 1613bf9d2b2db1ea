-- What a caller knows of a node that was found, and of one that isn't the first.
use Rattle.std.proofs.Common.{◌≡◌, true, false, List, refl, sym, ◌∙◌, inl, inr, Option, Some, None}
use Rattle.std.specs.Option.{option_map}
use Rattle.x5_model.specs.Words.{first_of, in_option}
use Rattle.x5_model.specs.Keys.{Key, same_key}
use Rattle.x5_model.proofs.Lists.{true_or_false, any_in, of_find}
use Rattle.x5_dse.specs.declared.node.NodeId.{NodeId}
use Rattle.x5_dse.specs.Linked.{Node, id_of, node_key, node_at, has_id, is_live, is_first}
use Rattle.x5_dse.proofs.Ids.{id_decides}

pub found_live : (nodes : List Node) (key : Key) (id : NodeId) → Some id ≡ option_map id_of (node_at nodes key) → is_live nodes id ≡ true
found_live nodes key id e = by (node_at nodes key) refl e
  where
    by : (o : Option Node) → node_at nodes key ≡ o → Some id ≡ option_map id_of o → is_live nodes id ≡ true
    by None p q = cc
    by (Some n) p q =
        let w = of_find (λ (m : Node). same_key (node_key m) key) n nodes p in
        let s : n.id ≡ id = cc in
        any_in (has_id id) n nodes w.0 ((id_decides n.id id).1 s)

pub other_first : (nodes : List Node) (top id : NodeId) → option_map id_of (first_of nodes) ≡ Some top → (id ≡ top → ⊥) → is_first nodes id ≡ false
other_first nodes top id e f = by (first_of nodes) e
  where
    by : (o : Option Node) → option_map id_of o ≡ Some top → in_option false (has_id id) o ≡ false
    by None p = refl
    by (Some n) p = elim (true_or_false (has_id id n)) [
      | inl q ↦ absurd (let s : n.id ≡ top = cc in f (sym ((id_decides n.id id).0 q) ∙ s))
      | inr q ↦ q
    ]
