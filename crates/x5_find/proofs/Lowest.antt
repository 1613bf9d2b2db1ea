-- The lowest node on the way to a name is that of the lowest entry on the way, as the definitions say it of a list of
-- entries.
use Rattle.std.proofs.Common.{◌≡◌, ℕ, ◌<◌, ◌≤◌, Bool, true, false, if◌then◌else◌, List, [], ◌∷◌, map, length, Option}
use Rattle.std.proofs.Common.{Some, None, refl, sym, ap, subst, ◌∙◌, arith}
use Rattle.std.specs.List.{find}
use Rattle.std.specs.Option.{option_map}
use Rattle.x5_model.specs.Members.{In, here, Once}
use Rattle.x5_model.specs.Words.{ascending, first_of, in_option}
use Rattle.x5_model.specs.Keys.{Key, root, IsPrefix, same_key, is_prefix}
use Rattle.x5_model.specs.Entries.{Named}
use Rattle.x5_model.proofs.KeyLaws.{key_decides}
use Rattle.x5_model.proofs.Prefixes.{prefix_decides}
use Rattle.x5_model.proofs.Lists.{both_true, and_true, in_map, of_map, of_find, not_found, once_map}
use Rattle.x5_model.proofs.Decide.{nat_same_decides, once_decides}
use Rattle.x5_model_tree.specs.Tree.{key_at, keys_of, named_below, lowest}
use Rattle.x5_model_tree.proofs.Longest.{lowest_is}
use Rattle.x5_model_tree.proofs.Order.{entries_once}
use Rattle.x5_dse.specs.declared.node.NodeId.{NodeId}
use Rattle.x5_dse.specs.Linked.{Node, id_of, named_of, entries_of, node_key, node_below, node_at, node_with, has_id}
use Rattle.x5_dse.specs.Linked.{prefix_of, length_in, IsLowest, IsLinked}

ascending_entries : (nodes : List Node) → ascending node_below nodes ≡ true → ascending named_below (entries_of nodes)
    ≡ true
ascending_entries [] h = refl
ascending_entries (n ∷ []) h = refl
ascending_entries (n ∷ m ∷ ns) h =
    let w = both_true (node_below n m) (ascending node_below (m ∷ ns)) h in
    and_true (named_below n.named m.named) (ascending named_below (entries_of (m ∷ ns))) w.0
    (ascending_entries (m ∷ ns) w.1)

module _ (nodes : List Node) (linked : IsLinked nodes) where
  -- each key stands once
  one_entry : (f g : Named) → In f (entries_of nodes) → In g (entries_of nodes) → key_at f ≡ key_at g → f ≡ g
  one_entry f g i j e =
      once_map key_at (entries_of nodes) f g
      ((once_decides same_key key_decides (keys_of (entries_of nodes))).0
      (entries_once (entries_of nodes) (ascending_entries nodes linked.in_order))) i j e

  one_node : (m n : Node) → In m nodes → In n nodes → node_key m ≡ node_key n → m ≡ n
  one_node m n i j e = once_map node_key nodes m n keys_once i j e
    where
      same_keys : (ns : List Node) → map node_key ns ≡ keys_of (entries_of ns)
      same_keys [] = refl
      same_keys (n ∷ ns) = ap (λ (l : List Key). node_key n ∷ l) (same_keys ns)

      keys_once : Once (map node_key nodes)
      keys_once =
          subst (λ (l : List Key). Once l) (sym (same_keys nodes))
          ((once_decides same_key key_decides (keys_of (entries_of nodes))).0
          (entries_once (entries_of nodes) (ascending_entries nodes linked.in_order)))

  -- the first node is there
  first_in : (n : Node) → first_of nodes ≡ Some n → In n nodes
  first_in n e = by nodes e
    where
      by : (ns : List Node) → first_of ns ≡ Some n → In n ns
      by [] f = cc
      by (m ∷ ns) f = (let s : m ≡ n = inside f in subst (λ (x : Node). In n (x ∷ ns)) (sym s) here)
        where
          inside : Some m ≡ Some n → m ≡ n
          inside g = cc

  module _ (key : Key) (id : NodeId) (low : IsLowest nodes key id) (prefixed : is_prefix (prefix_of nodes) key ≡ true)
      (full : 0 < length (prefix_of nodes)) where
    there_in : In low.node nodes
    there_in = (of_find (has_id id) low.node nodes low.there).0

    long : 0 < length (node_key low.node)
    long = by (first_of nodes) refl
      where
        by : (o : Option Node) → first_of nodes ≡ o → 0 < length (node_key low.node)
        by None e = absurd (let z : 0 < length (in_option root node_key None) = subst
            (λ (o : Option Node). 0 < length (in_option root node_key o)) e full in omega arith)
        by (Some n) e =
            let z : 0 < length (node_key n) = subst (λ (o : Option Node). 0 < length (in_option root node_key o)) e
            full in
            let p : is_prefix (node_key n) key ≡ true = subst
            (λ (o : Option Node). is_prefix (in_option root node_key o) key ≡ true) e prefixed in
            let l : length (node_key n) ≤ length (node_key low.node) = low.longest n (first_in n e) p in
            omega arith

    pub lowest_entry : lowest (entries_of nodes) key ≡ Some low.node.named
    lowest_entry =
        lowest_is (entries_of nodes) key low.node.named one_entry long (in_map named_of low.node nodes there_in)
        ((prefix_decides (node_key low.node) key).0 low.is_above)
        (λ f i y. let w = of_map named_of f nodes i in
        subst (λ (g : Named). length (key_at g) ≤ length (node_key low.node)) (sym w.2)
        (low.longest w.0 w.1 ((prefix_decides (node_key w.0) key).1
        (subst (λ (g : Named). IsPrefix (key_at g) key) w.2 y))))

    pub named_at : option_map named_of (node_with nodes id) ≡ Some low.node.named
    named_at = ap (option_map named_of) low.there

    -- how many RDNs of the name the entry has
    pub as_long : (n : ℕ) → option_map length_in (node_with nodes id) ≡ Some n → length low.node.named.name ≡ n
    as_long n e = (let f : Some (length low.node.named.name) ≡ Some n = sym (ap (option_map length_in) low.there) ∙ e
        in cc)

    -- it's at the name
    pub at_name : key_at low.node.named ≡ key → option_map id_of (node_at nodes key) ≡ Some id
    at_name e = by (node_at nodes key) refl
      where
        by : (o : Option Node) → node_at nodes key ≡ o → option_map id_of (node_at nodes key) ≡ Some id
        by None f = absurd (let s : same_key (node_key low.node) key ≡ false = not_found
            (λ (n : Node). same_key (node_key n) key) low.node nodes f there_in in let t : same_key
            (node_key low.node) key ≡ true = (key_decides (node_key low.node) key).1 e in cc)
        by (Some m) f =
            let w = of_find (λ (n : Node). same_key (node_key n) key) m nodes f in
            let same : node_key m ≡ node_key low.node = (key_decides (node_key m) key).0 w.1 ∙ sym e in
            let one : m ≡ low.node = one_node m low.node w.0 there_in same in
            let v = of_find (has_id id) low.node nodes low.there in
            let number : low.node.id.0 ≡ id.0 = (nat_same_decides low.node.id.0 id.0).0 v.1 in
            ap (option_map id_of) f ∙ ap (λ (n : Node). Some n.id) one ∙ (λ i. Some (record { 0 = number i }))

-- the prefix's node is the first
pub first_at : (nodes : List Node) (key : Key) (id : NodeId) → option_map id_of (first_of nodes) ≡ Some id → prefix_of
    nodes ≡ key → option_map id_of (node_at nodes key) ≡ Some id
first_at [] key id e p = cc
first_at (n ∷ ns) key id e p = ap
    (λ (b : Bool). option_map id_of (if b then Some n else find (λ (m : Node). same_key (node_key m) key) ns))
    ((key_decides (node_key n) key).1 p) ∙ e
