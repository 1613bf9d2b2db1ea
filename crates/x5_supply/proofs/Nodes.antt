-- All nodes of a naming context stand at its prefix or below it, so the walk from there goes over them all; each is the one of its
-- number; and how long the way to a name is tells whether the entry just above it is there.
use Rattle.std.proofs.Common.{◌≡◌, ℕ, zero, suc, ◌+◌, ◌≤◌, Bool, true, false, inl, inr, List, [], ◌∷◌, ◌-◌, ◌<◌, ◌⊎◌, nat_le, take, cond, length, map, refl, sym, ap, subst, ◌∙◌, arith, Some}
use Rattle.std.specs.List.{filter}
use Rattle.std.specs.Option.{option_map}
use Rattle.std.proofs.lemmas.List.{length-map}
use Rattle.x5_model.specs.Members.{In, here, there}
use Rattle.x5_model.specs.Words.{ascending, first_of, in_option}
use Rattle.x5_model.specs.Keys.{Key, IsPrefix, root, same_key, is_prefix, key_below, parent}
use Rattle.x5_model.specs.Values.{key_of_rdn}
use Rattle.x5_model.specs.Entries.{Named}
use Rattle.x5_model.proofs.KeyLaws.{key_decides, never_below, below_chain}
use Rattle.x5_model.proofs.Lists.{true_or_false, either_true, of_all, of_any, of_find, of_map, in_map, any_in, in_first}
use Rattle.x5_model.proofs.Ascending.{first_below}
use Rattle.x5_model.proofs.Prefixes.{prefix_decides, prefix_itself, prefix_length, prefix_chain, same_by_length, parent_is_prefix, parent_length}
use Rattle.x5_model_tree.specs.Tree.{key_at, is_there}
use Rattle.x5_dse.specs.declared.node.NodeId.{NodeId}
use Rattle.x5_dse.specs.Linked.{Node, IsLinked, IsLowest, AreNumbered, length_in, entries_of, named_of, id_of, node_key, node_below, node_with, has_id, is_live, key_with, prefix_of, is_placed, subtree_of}
use Rattle.x5_dse.proofs.Ids.{id_decides}

node_chain : (x y z : Node) → node_below x y ≡ true → node_below y z ≡ true → node_below x z ≡ true
node_chain x y z = below_chain (node_key x) (node_key y) (node_key z)

not_so : (b : Bool) → (b ≡ true → ⊥) → b ≡ false
not_so b f = elim (true_or_false b) [ inl t ↦ absurd (f t) | inr e ↦ e ]

at_root : (prefix key : Key) → key_below key prefix ≡ false → length key ≤ 0 → IsPrefix prefix key
at_root [] key f le = refl
at_root (r ∷ p) [] f le = cc
at_root (r ∷ p) (s ∷ k) f le = absurd (omega arith)

both_ways : (a b : Bool) → (a ≡ true → b ≡ true) → (b ≡ true → a ≡ true) → a ≡ b
both_ways true true f g = refl
both_ways false false f g = refl
both_ways true false f g = sym (f refl)
both_ways false true f g = g refl

less_or_same : (a b : ℕ) → a ≤ b → (a < b) ⊎ (a ≡ b)
less_or_same a b l = grind arith

at_most : (a b : ℕ) → nat_le a b ≡ true → a ≤ b
at_most a b e = grind arith

least : (a b : ℕ) → a ≤ b → nat_le a b ≡ true
least a b l = grind arith

take_short : (n : ℕ) (k : Key) → length (take n k) ≤ length k
take_short zero k = omega arith
take_short (suc n) [] = omega arith
take_short (suc n) (x ∷ k) = let l = take_short n k in omega arith

module _ (nodes : List Node) (linked : IsLinked nodes) where
  node_there : (key : Key) → is_there (entries_of nodes) key ≡ true → (m : Node) × In m nodes × (node_key m ≡ key)
  node_there key e =
      let w = of_any (λ (x : Named). same_key (key_at x) key) (entries_of nodes) e in
      let v = of_map named_of w.0 nodes w.1 in
      (v.0, v.1, ap key_at (sym v.2) ∙ (key_decides (key_at w.0) key).0 w.2)

  -- none stands before the prefix
  not_before : (n : Node) → In n nodes → key_below (node_key n) (prefix_of nodes) ≡ false
  not_before n i = by nodes linked.in_order i
    where
      by : (ns : List Node) → ascending node_below ns ≡ true → In n ns → key_below (node_key n) (prefix_of ns) ≡ false
      by [] h j = elim j [ ]
      by (m ∷ ns) h j =
          not_so (key_below (node_key n) (node_key m)) (λ t. elim (in_first n m ns j) [
            | inl e ↦ never_below (node_key m) (subst (λ (x : Node). key_below (node_key x) (node_key m) ≡ true) e t)
            | inr k ↦ never_below (node_key n) (below_chain (node_key n) (node_key m) (node_key n) t
                (first_below node_below node_chain m n ns h k))
          ])

  -- by the number of RDNs
  rooted_within : (most : ℕ) (n : Node) → length (node_key n) ≤ most → In n nodes → IsPrefix (prefix_of nodes) (node_key n)
  rooted_within zero n le i = at_root (prefix_of nodes) (node_key n) (not_before n i) le
  rooted_within (suc most) n le i =
      elim (either_true (same_key (node_key n) (prefix_of nodes)) (is_there (entries_of nodes) (parent (node_key n)))
      (of_all (is_placed nodes) n nodes linked.above i)) [
        | inl s ↦ subst (λ (k : Key). IsPrefix (prefix_of nodes) k) (sym ((key_decides (node_key n) (prefix_of nodes)).0 s))
            (prefix_itself (prefix_of nodes))
        | inr p ↦ by (length (node_key n)) refl p (rooted_within most)
      ]
    where
      by : (l : ℕ) → length (node_key n) ≡ l → is_there (entries_of nodes) (parent (node_key n)) ≡ true
          → ((m : Node) → length (node_key m) ≤ most → In m nodes → IsPrefix (prefix_of nodes) (node_key m))
          → IsPrefix (prefix_of nodes) (node_key n)
      by zero e p upper = at_root (prefix_of nodes) (node_key n) (not_before n i) (omega (arith, e))
      by (suc l) e p upper =
          let w = node_there (parent (node_key n)) p in
          let s : length (parent (node_key n)) + 1 ≡ length (node_key n) = parent_length (node_key n) (omega (arith, e)) in
          prefix_chain (prefix_of nodes) (parent (node_key n)) (node_key n)
          (subst (λ (k : Key). IsPrefix (prefix_of nodes) k) w.2 (upper w.0 (omega (arith, s, le, ap length w.2)) w.1))
          (parent_is_prefix (node_key n))

  pub rooted : (n : Node) → In n nodes → IsPrefix (prefix_of nodes) (node_key n)
  rooted n i = rooted_within (length (node_key n)) n (omega arith) i

  -- ---- what stands just above a name

  -- where the name isn't below the prefix, nothing does
  pub not_above : (key : Key) → 0 < length (prefix_of nodes) → length key ≤ length (prefix_of nodes)
      → is_there (entries_of nodes) (parent key) ≡ false
  not_above key some short = not_so (is_there (entries_of nodes) (parent key)) (λ t.
      let m = node_there (parent key) t in
      let l : length (prefix_of nodes) ≤ length (parent key) =
      subst (λ (k : Key). length (prefix_of nodes) ≤ length k) m.2 (prefix_length (prefix_of nodes) (node_key m.0) (rooted m.0 m.1)) in
      few (length key) refl l)
    where
      few : (n : ℕ) → length key ≡ n → length (prefix_of nodes) ≤ length (parent key) → ⊥
      few zero e l = (let z : length (parent key) ≤ length key = take_short (length key - 1) key in omega (arith, e, some, z, l))
      few (suc n) e l = (let z : length (parent key) + 1 ≡ length key = parent_length key (omega (arith, e)) in omega (arith, z, l, short))

  pub not_within : (key : Key) → is_prefix (prefix_of nodes) key ≡ false → is_there (entries_of nodes) (parent key) ≡ false
  not_within key f = not_so (is_there (entries_of nodes) (parent key)) (λ t.
      let m = node_there (parent key) t in
      let p : is_prefix (prefix_of nodes) key ≡ true = (prefix_decides (prefix_of nodes) key).1
      (prefix_chain (prefix_of nodes) (parent key) key
      (subst (λ (k : Key). IsPrefix (prefix_of nodes) k) m.2 (rooted m.0 m.1)) (parent_is_prefix key)) in
      cc)

  -- where the lowest one on the way has all RDNs but one, at least, that one does
  module _ (key : Key) (id : NodeId) (n : ℕ) (low : IsLowest nodes key id)
      (long : option_map length_in (node_with nodes id) ≡ Some n) (below : length (prefix_of nodes) < length key) where
    low_in : In low.node nodes
    low_in = (of_find (has_id id) low.node nodes low.there).0

    as_long : length (node_key low.node) ≡ n
    as_long = length-map low.node.named.name key_of_rdn ∙ inside (sym (ap (option_map length_in) low.there) ∙ long)
      where
        inside : Some (length low.node.named.name) ≡ Some n → length low.node.named.name ≡ n
        inside q = cc

    above_low : IsPrefix (node_key low.node) key
    above_low = (prefix_decides (node_key low.node) key).0 low.is_above

    there_with : (m : Node) → In m nodes → node_key m ≡ parent key → is_there (entries_of nodes) (parent key) ≡ true
    there_with m i e =
        any_in (λ (x : Named). same_key (key_at x) (parent key)) m.named (entries_of nodes) (in_map named_of m nodes i)
        ((key_decides (node_key m) (parent key)).1 e)

    -- it's the name itself, whose parent is there, or stands just above it
    forth : length key - 1 ≤ n → is_there (entries_of nodes) (parent key) ≡ true
    forth le = elim (less_or_same n (length key) (omega (arith, as_long, prefix_length (node_key low.node) key above_low))) [
      | inl l ↦ there_with low.node low_in
          (sym (ap (λ (k : ℕ). take k key) (omega (arith, as_long, le, l, below)) ∙ above_low))
      | inr e ↦
          let same : node_key low.node ≡ key = same_by_length (node_key low.node) key key above_low (prefix_itself key) (as_long ∙ e) in
          elim (either_true (same_key (node_key low.node) (prefix_of nodes)) (is_there (entries_of nodes) (parent (node_key low.node)))
          (of_all (is_placed nodes) low.node nodes linked.above low_in)) [
            | inl s ↦ absurd (let q : length key ≡ length (prefix_of nodes) = ap length (sym same ∙ (key_decides (node_key low.node) (prefix_of nodes)).0 s) in
                omega (arith, q, below))
            | inr p ↦ subst (λ (k : Key). is_there (entries_of nodes) (parent k) ≡ true) same p
          ]
    ]

    back : is_there (entries_of nodes) (parent key) ≡ true → length key - 1 ≤ n
    back t =
        let m = node_there (parent key) t in
        let p : is_prefix (node_key m.0) key ≡ true =
        subst (λ (k : Key). is_prefix k key ≡ true) (sym m.2) ((prefix_decides (parent key) key).1 (parent_is_prefix key)) in
        let l : length (node_key m.0) ≤ length (node_key low.node) = low.longest m.0 m.1 p in
        let s : length (parent key) + 1 ≡ length key = parent_length key (omega (arith, below)) in
        omega (arith, as_long, l, s, ap length m.2)

    pub by_way : nat_le (length key - 1) n ≡ is_there (entries_of nodes) (parent key)
    by_way = both_ways (nat_le (length key - 1) n) (is_there (entries_of nodes) (parent key))
        (λ e. forth (at_most (length key - 1) n e)) (λ t. least (length key - 1) n (back t))

  all_pass : (prefix : Key) (xs : List Node) → ((n : Node) → In n xs → is_prefix prefix (node_key n) ≡ true)
      → filter (λ n. is_prefix prefix (node_key n)) xs ≡ xs
  all_pass prefix [] f = refl
  all_pass prefix (x ∷ xs) f =
      ap (λ (b : Bool). cond b (x ∷ filter (λ n. is_prefix prefix (node_key n)) xs) (filter (λ n. is_prefix prefix (node_key n)) xs)) (f x here)
      ∙ ap (λ (l : List Node). x ∷ l) (all_pass prefix xs (λ n i. f n (there i)))

  pub all_walked : (top : NodeId) → option_map id_of (first_of nodes) ≡ Some top → subtree_of nodes top ≡ map id_of nodes
  all_walked top e =
      ap (λ (p : Key). map id_of (filter (λ n. is_prefix p (node_key n)) nodes)) (prefix_key nodes e)
      ∙ ap (map id_of) (all_pass (prefix_of nodes) nodes (λ n i. (prefix_decides (prefix_of nodes) (node_key n)).1 (rooted n i)))
    where
      prefix_key : (ns : List Node) → option_map id_of (first_of ns) ≡ Some top → key_with ns top ≡ prefix_of ns
      prefix_key [] f = cc
      prefix_key (n ∷ ns) f =
          ap (λ (b : Bool). in_option root node_key (cond b (Some n) (node_with ns top))) ((id_decides n.id top).1 (inside f))
        where
          inside : Some n.id ≡ Some top → n.id ≡ top
          inside q = cc

pub all_live : (nodes : List Node) (id : NodeId) → In id (map id_of nodes) → is_live nodes id ≡ true
all_live nodes id i =
    let w = of_map id_of id nodes i in
    any_in (has_id id) w.0 nodes w.1 ((id_decides w.0.id id).1 (sym w.2))

-- what stands at the nodes is what the entries are
pub all_named : (nodes : List Node) → AreNumbered nodes
    → map (λ id. option_map named_of (node_with nodes id)) (map id_of nodes) ≡ map Some (entries_of nodes)
all_named nodes numbered = by nodes (λ n i. i)
  where
    by : (xs : List Node) → ((n : Node) → In n xs → In n nodes)
        → map (λ id. option_map named_of (node_with nodes id)) (map id_of xs) ≡ map Some (map named_of xs)
    by [] f = refl
    by (n ∷ ns) f = λ i. option_map named_of (numbered n (f n here) i) ∷ by ns (λ m j. f m (there j)) i

pub all_inside : {A : Type 0} (xs ys : List A) → map Some xs ≡ map Some ys → xs ≡ ys
all_inside [] [] e = refl
all_inside [] (y ∷ ys) e = cc
all_inside (x ∷ xs) [] e = cc
all_inside {A} (x ∷ xs) (y ∷ ys) e = λ i. first e i ∷ all_inside xs ys (rest e) i
  where
    first : Some x ∷ map Some xs ≡ Some y ∷ map Some ys → x ≡ y
    first q = cc

    rest : Some x ∷ map Some xs ≡ Some y ∷ map Some ys → map Some xs ≡ map Some ys
    rest q = cc
