-- What is in a subset below a base, among the entries of one context: all stand at its prefix or below it, and where the base
-- isn't there, nothing in the context stands below it but where the prefix does.
use Rattle.std.proofs.Common.{◌≡◌, ℕ, zero, suc, ◌+◌, ◌<◌, ◌≤◌, Bool, true, false, cond, ◌==◌, ◌⊎◌, inl, inr, List, [], ◌∷◌}
use Rattle.std.proofs.Common.{map, length, refl, sym, ap, subst, ◌∙◌, arith, Option, Some, None}
use Rattle.std.specs.List.{filter}
use Rattle.std.specs.Option.{option_map}
use Rattle.x5_model.specs.Words.{ascending, first_of, in_option}
use Rattle.x5_model.specs.Members.{In, here, there}
use Rattle.x5_model.specs.Keys.{Key, root, IsPrefix, same_key, is_prefix, is_child, key_below, parent}
use Rattle.x5_model.specs.Requests.{Subset, Base, OneLevel, WholeSubtree}
use Rattle.x5_model.specs.Entries.{Named}
use Rattle.x5_model.proofs.KeyLaws.{key_decides, never_below, below_chain}
use Rattle.x5_model.proofs.Lists.{true_or_false, either_true, both_true, and_true, in_first, of_any, of_map, of_all, of_find, not_found}
use Rattle.x5_model.proofs.Ascending.{first_below, rest_ascending}
use Rattle.x5_model.proofs.Decide.{nat_same_decides}
use Rattle.x5_model.proofs.Prefixes.{prefix_decides, prefix_itself, prefix_length, prefix_chain, same_by_length}
use Rattle.x5_model.proofs.Prefixes.{prefix_of_parent, parent_is_prefix, parent_length}
use Rattle.x5_model_tree.specs.Tree.{key_at, is_there}
use Rattle.x5_model_tree.specs.Ask.{in_subset}
use Rattle.x5_dse.specs.declared.node.NodeId.{NodeId}
use Rattle.x5_dse.specs.Linked.{Node, IsLinked, entries_of, named_of, id_of, node_key, node_below, node_at, node_with, has_id}
use Rattle.x5_dse.specs.Linked.{key_with, prefix_of, is_placed, is_live}
use Rattle.x5_dse.proofs.Ids.{id_decides}
use Rattle.x5_eval.specs.Scopes.{asked_nodes}

-- ---- filters

module _ {A : Type 0} where
  pub none_pass : (test : A → Bool) (xs : List A) → ((x : A) → In x xs → test x ≡ false) → filter test xs ≡ []
  none_pass test [] f = refl
  none_pass test (x ∷ xs) f =
      ap (λ (b : Bool). cond b (x ∷ filter test xs) (filter test xs)) (f x here)
      ∙ none_pass test xs (λ y i. f y (there i))

  pub same_pass : (test other : A → Bool) (xs : List A) → ((x : A) → In x xs → test x ≡ other x)
      → filter test xs ≡ filter other xs
  same_pass test other [] f = refl
  same_pass test other (x ∷ xs) f =
      (λ i. cond (f x here i) (x ∷ same_pass test other xs (λ y j. f y (there j)) i) (same_pass test other xs
      (λ y j. f y (there j)) i))

both_ways : (a b : Bool) → (a ≡ true → b ≡ true) → (b ≡ true → a ≡ true) → a ≡ b
both_ways true true f g = refl
both_ways false false f g = refl
both_ways true false f g = sym (f refl)
both_ways false true f g = g refl

less_or_same : (a b : ℕ) → a ≤ b → (a < b) ⊎ (a ≡ b)
less_or_same a b l = grind arith

not_so : (b : Bool) → (b ≡ true → ⊥) → b ≡ false
not_so b f = elim (true_or_false b) [ inl t ↦ absurd (f t) | inr e ↦ e ]

pub node_chain : (x y z : Node) → node_below x y ≡ true → node_below y z ≡ true → node_below x z ≡ true
node_chain x y z = below_chain (node_key x) (node_key y) (node_key z)

-- of a key there is one node
one_of_key : (nodes : List Node) (n : Node) (key : Key) → ascending node_below nodes ≡ true → In n nodes
    → node_key n ≡ key → filter (λ m. same_key key (node_key m)) nodes ≡ n ∷ []
one_of_key [] n key h i e = elim i [ ]
one_of_key (m ∷ ms) n key h i e =
    elim (in_first n m ms i) [
      | inl p ↦ ap (λ (b : Bool). cond b (m ∷ filter test ms) (filter test ms))
          ((key_decides key (node_key m)).1 (sym e ∙ ap node_key p))
          ∙ (λ j. sym p j ∷ none_pass test ms (λ x k. not_so (test x) (λ t.
          never_below key ((λ l. key_below (same_as_first p l) ((key_decides key (node_key x)).0 t l)) ∙
          first_below node_below node_chain m x ms h k))) j)
      | inr k ↦ ap (λ (b : Bool). cond b (m ∷ filter test ms) (filter test ms))
          (not_so (test m) (λ t. never_below key ((λ l. key_below ((key_decides key (node_key m)).0 t l) (sym e l))
          ∙ first_below node_below node_chain m n ms h k)))
          ∙ one_of_key ms n key (rest_ascending node_below node_chain m ms h) k e
    ]
  where
    test : Node → Bool
    test x = same_key key (node_key x)

    same_as_first : n ≡ m → key ≡ node_key m
    same_as_first p = sym e ∙ ap node_key p

module _ (nodes : List Node) (linked : IsLinked nodes) where
  -- ---- the first node, and those below it

  first_in : (n : Node) → first_of nodes ≡ Some n → In n nodes
  first_in n e = by nodes e
    where
      by : (ns : List Node) → first_of ns ≡ Some n → In n ns
      by [] f = cc
      by (m ∷ ns) f = (let s : m ≡ n = inside f in subst (λ (x : Node). In n (x ∷ ns)) (sym s) here)
        where
          inside : Some m ≡ Some n → m ≡ n
          inside g = cc

  -- the prefix is an entry
  prefix_there : (n : Node) → In n nodes → (m : Node) × In m nodes × (node_key m ≡ prefix_of nodes)
  prefix_there n i = by (first_of nodes) refl
    where
      some : (ns : List Node) → In n ns → first_of ns ≡ None → ⊥
      some [] j e = elim j [ ]
      some (m ∷ ns) j e = cc

      by : (o : Option Node) → first_of nodes ≡ o → (m : Node) × In m nodes × (node_key m ≡ prefix_of nodes)
      by None e = absurd (some nodes i e)
      by (Some m) e = (m, first_in m e, ap (λ (p : Option Node). in_option root node_key p) (sym e))

  placed : (n : Node) → In n nodes → is_placed nodes n ≡ true
  placed n i = of_all (is_placed nodes) n nodes linked.above i

  node_there : (key : Key) → is_there (entries_of nodes) key ≡ true → (m : Node) × In m nodes × (node_key m ≡ key)
  node_there key e =
      let w = of_any (λ (x : Named). same_key (key_at x) key) (entries_of nodes) e in
      let v = of_map named_of w.0 nodes w.1 in
      (v.0, v.1, ap key_at (sym v.2) ∙ (key_decides (key_at w.0) key).0 w.2)

  -- no entry stands before the prefix
  not_before : (n : Node) → In n nodes → key_below (node_key n) (prefix_of nodes) ≡ false
  not_before n i = by nodes linked.in_order i
    where
      by : (ns : List Node) → ascending node_below ns ≡ true → In n ns → key_below (node_key n) (prefix_of ns) ≡ false
      by [] h j = elim j [ ]
      by (m ∷ ns) h j =
          not_so (key_below (node_key n) (node_key m)) (λ t. elim (in_first n m ns j) [
            | inl e ↦ never_below (node_key m) (subst (λ (x : Node). key_below (node_key x) (node_key m) ≡ true) e t)
            | inr k ↦ never_below (node_key n) (below_chain (node_key n) (node_key m) (node_key n) t
                (first_below node_below node_chain m n ns h k))
          ])

  at_root : (prefix key : Key) → key_below key prefix ≡ false → length key ≤ 0 → IsPrefix prefix key
  at_root [] key f le = refl
  at_root (r ∷ p) [] f le = cc
  at_root (r ∷ p) (s ∷ k) f le = absurd (omega arith)

  -- all stand at the prefix or below it
  rooted_within : (most : ℕ) (n : Node) → length (node_key n) ≤ most → In n nodes → IsPrefix (prefix_of nodes)
      (node_key n)
  rooted_within zero n le i = at_root (prefix_of nodes) (node_key n) (not_before n i) le
  rooted_within (suc most) n le i =
      elim (either_true (same_key (node_key n) (prefix_of nodes)) (is_there (entries_of nodes) (parent (node_key n)))
      (placed n i)) [
        | inl s ↦ subst (λ (k : Key). IsPrefix (prefix_of nodes) k) (sym ((key_decides (node_key n) (prefix_of
            nodes)).0 s)) (prefix_itself (prefix_of nodes))
        | inr p ↦ by (length (node_key n)) refl p (rooted_within most)
      ]
    where
      by : (l : ℕ) → length (node_key n) ≡ l → is_there (entries_of nodes) (parent (node_key n)) ≡ true
          → ((m : Node) → length (node_key m) ≤ most → In m nodes → IsPrefix (prefix_of nodes) (node_key m))
          → IsPrefix (prefix_of nodes) (node_key n)
      by zero e p upper = at_root (prefix_of nodes) (node_key n) (not_before n i) (omega (arith, e))
      by (suc l) e p upper =
          let w = node_there (parent (node_key n)) p in
          let s : length (parent (node_key n)) + 1 ≡ length (node_key n) = parent_length (node_key n)
          (omega (arith, e)) in
          prefix_chain (prefix_of nodes) (parent (node_key n)) (node_key n)
          (subst (λ (k : Key). IsPrefix (prefix_of nodes) k) w.2 (upper w.0 (omega (
            arith,
            s,
            le,
            ap length
                w.2,
          )) w.1)) (parent_is_prefix (node_key n))

  pub rooted : (n : Node) → In n nodes → IsPrefix (prefix_of nodes) (node_key n)
  rooted n i = rooted_within (length (node_key n)) n (omega arith) i

  -- ---- where the base isn't there

  module _ (base : Key) (absent : node_at nodes base ≡ None) where
    never_there : (n : Node) → In n nodes → node_key n ≡ base → ⊥
    never_there n i e = (
        let f : same_key (node_key n) base ≡ false = not_found (λ (m : Node). same_key (node_key m) base) n nodes absent i in
        let t : same_key (node_key n) base ≡ true = (key_decides (node_key n) base).1 e in
        cc)

    shorter : (n : Node) → In n nodes → IsPrefix base (node_key n) → length base < length (node_key n)
    shorter n i p =
        elim (less_or_same (length base) (length (node_key n)) (prefix_length base (node_key n) p)) [
          | inl l ↦ l
          | inr e ↦ absurd (never_there n i (sym (same_by_length base (node_key n) (node_key n) p
              (prefix_itself (node_key n)) e)))
        ]

    at_prefix : (n : Node) → IsPrefix base (node_key n) → same_key (node_key n) (prefix_of nodes) ≡ true
        → IsPrefix base (prefix_of nodes)
    at_prefix n p s = subst (λ (k : Key). IsPrefix base k) ((key_decides (node_key n) (prefix_of nodes)).0 s) p

    above_within : (most : ℕ) (n : Node) → length (node_key n) ≤ most → In n nodes → IsPrefix base (node_key n)
        → IsPrefix base (prefix_of nodes)
    above_within zero n le i p = absurd (let l = shorter n i p in omega (arith, l, le))
    above_within (suc most) n le i p =
        elim (either_true (same_key (node_key n) (prefix_of nodes)) (is_there (entries_of nodes) (parent (node_key n)))
        (placed n i)) [
          | inl s ↦ at_prefix n p s
          | inr t ↦ (
              let w = node_there (parent (node_key n)) t in
              let l = shorter n i p in
              let s : length (parent (node_key n)) + 1 ≡ length (node_key n) = parent_length (node_key n)
              (omega (arith, l)) in
              above_within most w.0 (omega (arith, s, le, ap length w.2)) w.1
              (subst (λ (k : Key). IsPrefix base k) (sym w.2) (prefix_of_parent base (node_key n) p l)))
        ]

    above_prefix : (n : Node) → In n nodes → is_prefix base (node_key n) ≡ true → IsPrefix base (prefix_of nodes)
    above_prefix n i t = above_within (length (node_key n)) n (omega arith) i ((prefix_decides base (node_key n)).0 t)

    -- nothing, unless the prefix is in the subset
    pub none_asked : (subset : Subset) → in_subset subset base (prefix_of nodes) ≡ false → asked_nodes nodes subset base ≡ []
    none_asked Base f = none_pass (λ n. same_key base (node_key n)) nodes (λ n i. not_so (same_key base (node_key n))
        (λ t. never_there n i (sym ((key_decides base (node_key n)).0 t))))
    none_asked OneLevel f = none_pass (λ n. is_child base (node_key n)) nodes (λ n i. not_so (is_child base (node_key n))
        (λ t. one n i t))
      where
        one : (n : Node) → In n nodes → is_child base (node_key n) ≡ true → ⊥
        one n i t =
            let w = both_true (length (node_key n) == (length base + 1)) (is_prefix base (node_key n)) t in
            let long : length (node_key n) ≡ length base + 1 = (nat_same_decides (length (node_key n)) (length base + 1)).0 w.0 in
            let p : IsPrefix base (prefix_of nodes) = above_prefix n i w.1 in
            let q = prefix_length (prefix_of nodes) (node_key n) (rooted n i) in
            elim (less_or_same (length base) (length (prefix_of nodes)) (prefix_length base (prefix_of nodes) p)) [
              | inl l ↦ (
                  let e : length (prefix_of nodes) ≡ length base + 1 = omega (arith, l, q, long) in
                  let c : is_child base (prefix_of nodes) ≡ true = and_true (length (prefix_of nodes) == (length base + 1))
                  (is_prefix base (prefix_of nodes)) ((nat_same_decides (length (prefix_of nodes)) (length base + 1)).1 e)
                  ((prefix_decides base (prefix_of nodes)).1 p) in
                  cc)
              | inr e ↦ (
                  let v = prefix_there n i in
                  never_there v.0 v.1 (v.2 ∙ sym (same_by_length base (prefix_of nodes) (prefix_of nodes) p
                  (prefix_itself (prefix_of nodes)) e)))
            ]
    none_asked WholeSubtree f = none_pass (λ n. is_prefix base (node_key n)) nodes (λ n i. not_so
        (is_prefix base (node_key n)) (λ t.
        let p : is_prefix base (prefix_of nodes) ≡ true = (prefix_decides base (prefix_of nodes)).1 (above_prefix n i t) in
        cc))

  -- ---- where the prefix is in the subset

  pub all_asked : (base : Key) → is_prefix base (prefix_of nodes) ≡ true
      → asked_nodes nodes WholeSubtree (prefix_of nodes) ≡ asked_nodes nodes WholeSubtree base
  all_asked base t = same_pass (λ n. is_prefix (prefix_of nodes) (node_key n)) (λ n. is_prefix base (node_key n)) nodes
      (λ n i. (prefix_decides (prefix_of nodes) (node_key n)).1 (rooted n i) ∙ sym ((prefix_decides base (node_key n)).1
      (prefix_chain base (prefix_of nodes) (node_key n) ((prefix_decides base (prefix_of nodes)).0 t) (rooted n i))))

  pub prefix_asked : (base : Key) → is_child base (prefix_of nodes) ≡ true
      → asked_nodes nodes Base (prefix_of nodes) ≡ asked_nodes nodes OneLevel base
  prefix_asked base t = same_pass (λ n. same_key (prefix_of nodes) (node_key n)) (λ n. is_child base (node_key n)) nodes
      (λ n i. both_ways (same_key (prefix_of nodes) (node_key n)) (is_child base (node_key n)) (forth n) (back n i))
    where
      forth : (n : Node) → same_key (prefix_of nodes) (node_key n) ≡ true → is_child base (node_key n) ≡ true
      forth n e = ap (is_child base) (sym ((key_decides (prefix_of nodes) (node_key n)).0 e)) ∙ t

      back : (n : Node) → In n nodes → is_child base (node_key n) ≡ true → same_key (prefix_of nodes) (node_key n) ≡ true
      back n i c =
          let w = both_true (length (node_key n) == (length base + 1)) (is_prefix base (node_key n)) c in
          let v = both_true (length (prefix_of nodes) == (length base + 1)) (is_prefix base (prefix_of nodes)) t in
          (key_decides (prefix_of nodes) (node_key n)).1 (same_by_length (prefix_of nodes) (node_key n) (node_key n)
          (rooted n i) (prefix_itself (node_key n))
          ((nat_same_decides (length (prefix_of nodes)) (length base + 1)).0 v.0
          ∙ sym ((nat_same_decides (length (node_key n)) (length base + 1)).0 w.0)))

  -- ---- a node alone

  pub alone : (id : NodeId) → is_live nodes id ≡ true → id ∷ [] ≡ map id_of (asked_nodes nodes Base (key_with nodes id))
  alone id l = by (node_with nodes id) refl
    where
      by : (o : Option Node) → node_with nodes id ≡ o → id ∷ [] ≡ map id_of (asked_nodes nodes Base (key_with nodes id))
      by None e = absurd (
          let w = of_any (has_id id) nodes l in
          let f = not_found (has_id id) w.0 nodes e w.1 in
          let t = w.2 in
          cc)
      by (Some n) e =
          let w = of_find (has_id id) n nodes e in
          let k : node_key n ≡ key_with nodes id = ap (λ (o : Option Node). in_option root node_key o) (sym e) in
          (λ i. sym ((id_decides n.id id).0 w.1) i ∷ [])
          ∙ ap (map id_of) (sym (one_of_key nodes n (key_with nodes id) linked.in_order w.0 k))

-- the first node's number leads to the prefix
pub key_of_top : (nodes : List Node) (id : NodeId) → option_map id_of (first_of nodes) ≡ Some id → key_with nodes id
    ≡ prefix_of nodes
key_of_top [] id e = cc
key_of_top (n ∷ ns) id e =
    ap (λ (b : Bool). in_option root node_key (cond b (Some n) (node_with ns id))) ((id_decides n.id id).1 (inside e))
  where
    inside : Some n.id ≡ Some id → n.id ≡ id
    inside g = cc

pub key_found : (nodes : List Node) (key : Key) (id : NodeId) → Some id ≡ option_map id_of (node_at nodes key)
    → ((n : Node) → In n nodes → node_with nodes n.id ≡ Some n) → key_with nodes id ≡ key
key_found nodes key id e numbered = by (node_at nodes key) refl e
  where
    by : (o : Option Node) → node_at nodes key ≡ o → Some id ≡ option_map id_of o → key_with nodes id ≡ key
    by None p q = cc
    by (Some n) p q =
        let w = of_find (λ (m : Node). same_key (node_key m) key) n nodes p in
        let s : id ≡ n.id = inside q in
        ap (key_with nodes) s ∙ ap (λ (o : Option Node). in_option root node_key o) (numbered n w.0)
        ∙ (key_decides (node_key n) key).0 w.1
      where
        inside : Some id ≡ Some n.id → id ≡ n.id
        inside g = cc

-- ---- where the base stands above the context

module _ (nodes held : List Node) (linked : IsLinked held) (same : nodes ≡ held) (top : NodeId)
    (first : option_map id_of (first_of nodes) ≡ Some top) (base : Key) where
  from_top : (subset : Subset) → asked_nodes nodes subset (key_with nodes top) ≡ asked_nodes held subset (prefix_of held)
  from_top subset = ap (asked_nodes nodes subset) (key_of_top nodes top first)
      ∙ ap (λ (ns : List Node). asked_nodes ns subset (prefix_of ns)) same

  pub above_tree : (subset : Subset) → subset ≡ WholeSubtree → in_subset subset base (prefix_of held) ≡ true
      → asked_nodes nodes WholeSubtree (key_with nodes top) ≡ asked_nodes held subset base
  above_tree subset is t =
      from_top WholeSubtree
      ∙ all_asked held linked base (ap (λ (s : Subset). in_subset s base (prefix_of held)) (sym is) ∙ t)
      ∙ ap (λ (s : Subset). asked_nodes held s base) (sym is)

  pub above_one : (subset : Subset) → subset ≡ OneLevel → in_subset subset base (prefix_of held) ≡ true
      → asked_nodes nodes Base (key_with nodes top) ≡ asked_nodes held subset base
  above_one subset is t =
      from_top Base
      ∙ prefix_asked held linked base (ap (λ (s : Subset). in_subset s base (prefix_of held)) (sym is) ∙ t)
      ∙ ap (λ (s : Subset). asked_nodes held s base) (sym is)

  pub above_base : (subset : Subset) → subset ≡ Base → in_subset subset base (prefix_of held) ≡ true
      → asked_nodes nodes Base (key_with nodes top) ≡ asked_nodes held subset base
  above_base subset is t =
      from_top Base
      ∙ ap (asked_nodes held Base) (sym ((key_decides base (prefix_of held)).0
      (ap (λ (s : Subset). in_subset s base (prefix_of held)) (sym is) ∙ t)))
      ∙ ap (λ (s : Subset). asked_nodes held s base) (sym is)
