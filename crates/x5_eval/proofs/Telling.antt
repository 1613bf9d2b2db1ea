-- What a read or compare tells at a node is what the definition tells of the context's entries: the node is the one that has the
-- target's key, and entries in the order of their keys are sorted already.
use Rattle.std.proofs.Common.{◌≡◌, ℕ, Bool, true, false, ◌&&◌, cond, List, [], ◌∷◌, refl, sym, ap, subst, ◌∙◌, Option, Some, None, Result, Ok, Err, IfOk}
use Rattle.std.specs.List.{slice_get}
use Rattle.std.specs.Option.{option_map, is_some}
use Rattle.x5_model.specs.Words.{ascending}
use Rattle.x5_model.specs.Keys.{Key, same_key}
use Rattle.x5_model.specs.Values.{Name, key_of}
use Rattle.x5_model.specs.Entries.{Named}
use Rattle.x5_model.specs.Requests.{Body, Read, Compare, ListBelow, Search, AddEntry, RemoveEntry, ModifyEntry, ModifyDn, Request}
use Rattle.x5_model.specs.References.{Chained}
use Rattle.x5_model.specs.Answers.{DirError, Source, Reply}
use Rattle.x5_model.specs.Statics.{fault_of}
use Rattle.x5_model.proofs.Ascending.{sorted_itself}
use Rattle.x5_model.proofs.KeyLaws.{key_decides}
use Rattle.x5_model.proofs.Lists.{both_true, of_find}
use Rattle.x5_model_tree.specs.Tree.{Tree, named_below, sorted_entries, tree_of, entry_at}
use Rattle.x5_model_tree.specs.Ask.{Told, Refuses, absent, at_object, read, compare, ask_body, ask_marked}
use Rattle.x5_model_tree.proofs.Order.{named_chain, named_never}
use Rattle.x5_model_run.specs.Needs.{target_of}
use Rattle.x5_model_run.specs.Placed.{fits}
use Rattle.x5_dse.specs.declared.node.NodeId.{NodeId}
use Rattle.x5_dse.specs.Linked.{Node, IsLinked, AreNumbered, entries_of, id_of, named_of, node_key, node_below, node_at, node_with, is_live}
use Rattle.x5_dse.proofs.Callers.{found_live}
use Rattle.x5_model_serve.specs.Answering.{reply_from, own_source, copy_source, reply_in_own, reply_in_copy}
use Rattle.x5_holdings.specs.State.{Kept, CopyKept, State, held_view, copy_view, stamp_of, brought_entries}
use Rattle.x5_eval.specs.Asked.{IsAsked, IsTarget, IsCopyTarget, read_told}
use Rattle.x5_model_tree.specs.Ask.{is_read}

pub ok_by : {X E : Type 0} (P Q : X → Type 0) → ((x : X) → P x → Q x) → (r : Result X E) → IfOk r P → IfOk r Q
ok_by P Q f (Ok x) p = f x p
ok_by P Q f (Err e) p = p

pub same_some : {A : Type 0} (x y : A) → Some x ≡ Some y → x ≡ y
same_some x y e = cc

-- ---- what is told at an entry that is there, where there is no static refusal

abbrev picked : Told → (Named → Told) → Option Named → Told
picked none f None = none
picked none f (Some e) = f e

told_there : (t : Tree) (name : Name) (f : Named → Told) (e : Named) → entry_at t.entries (key_of name) ≡ Some e →
    at_object t name f ≡ f e
told_there t name f e q = ap (λ (o : Option Named). picked (absent t name) f o) q

abbrev first_refused : Told → Option DirError → Told
first_refused told (Some x) = Refuses x
first_refused told None = told

not_refused : (copies : Key → Bool) (t : Tree) (r : Request) → fault_of r.body ≡ None → ask_marked copies t r ≡
    ask_body copies t r r.body
not_refused copies t r e = ap (λ (o : Option DirError). first_refused (ask_body copies t r r.body) o) e

body_told : (copy : Bool) (t : Tree) (r : Request) (body : Body) (e : Named) → is_read body ≡ true
    → entry_at t.entries (key_of (target_of body)) ≡ Some e → ask_body (λ key. copy) t r body ≡ read_told copy body e
body_told copy t r (Read name selection) e is q = told_there t name (read (λ key. copy) selection) e q
body_told copy t r (Compare name a) e is q = told_there t name (compare (λ key. copy) a) e q
body_told copy t r (ListBelow name) e is q = cc
body_told copy t r (Search base subset f selection) e is q = cc
body_told copy t r (AddEntry name attributes) e is q = cc
body_told copy t r (RemoveEntry name) e is q = cc
body_told copy t r (ModifyEntry name changes) e is q = cc
body_told copy t r (ModifyDn name rdn drops) e is q = cc

pub target_key : (m : Chained) → fits m ≡ true → key_of (target_of m.request.body) ≡ key_of m.target
target_key m f =
    (key_decides (key_of (target_of m.request.body)) (key_of m.target)).0
    (both_true (same_key (key_of (target_of m.request.body)) (key_of m.target)) _ f).0

-- ---- nodes and their entries

entry_of_node : (nodes : List Node) (key : Key) → entry_at (entries_of nodes) key ≡ option_map named_of (node_at nodes
    key)
entry_of_node [] key = refl
entry_of_node (n ∷ ns) key = by (same_key (node_key n) key) (entry_of_node ns key)
  where
    by : (b : Bool) → entry_at (entries_of ns) key ≡ option_map named_of (node_at ns key)
        → cond b (Some n.named) (entry_at (entries_of ns) key) ≡ option_map named_of (cond b (Some n) (node_at ns key))
    by true e = refl
    by false e = e

pub entries_ascending : (nodes : List Node) → ascending node_below nodes ≡ true → ascending named_below (entries_of nodes)
    ≡ true
entries_ascending [] h = refl
entries_ascending (n ∷ []) h = refl
entries_ascending (n ∷ m ∷ ns) h =
    let b = both_true (node_below n m) (ascending node_below (m ∷ ns)) h in
    ap (λ (t : Bool). t && ascending named_below (entries_of (m ∷ ns))) b.0 ∙ entries_ascending (m ∷ ns) b.1

module _ (nodes : List Node) (key : Key) (node : NodeId) (at : option_map id_of (node_at nodes key) ≡ Some node) where
  pub live : is_live nodes node ≡ true
  live = found_live nodes key node (sym at)

  module _ (numbered : AreNumbered nodes) where
    -- the node of the key, which is the one of the number
    pub node_found : (n : Node) × (node_with nodes node ≡ Some n) × (node_at nodes key ≡ Some n)
    node_found = by (node_at nodes key) refl at
      where
        by : (o : Option Node) → node_at nodes key ≡ o → option_map id_of o ≡ Some node
            → (n : Node) × (node_with nodes node ≡ Some n) × (node_at nodes key ≡ Some n)
        by None p q = cc
        by (Some n) p q =
            let w = of_find (λ (m : Node). same_key (node_key m) key) n nodes p in
            (n, subst (λ (k : NodeId). node_with nodes k ≡ Some n) (same_some n.id node q) (numbered n w.0), p)

module _ (nodes : List Node) (linked : IsLinked nodes) where
  pub sorted_already : sorted_entries (entries_of nodes) ≡ entries_of nodes
  sorted_already = sorted_itself named_below named_chain named_never (entries_of nodes) (entries_ascending nodes
      linked.in_order)

  -- what is told of the context's entries is told at the node
  pub told_at : (copy : Bool) (m : Chained) (n : Node) → IsAsked m → is_read m.request.body ≡ true
      → node_at nodes (key_of m.target) ≡ Some n
      → ask_marked (λ key. copy) (tree_of (entries_of nodes) []) m.request ≡ read_told copy m.request.body n.named
  told_at copy m n asked reads found =
      let e : entry_at (sorted_entries (entries_of nodes)) (key_of (target_of m.request.body)) ≡ Some n.named =
      ap (λ (es : List Named). entry_at es (key_of (target_of m.request.body))) sorted_already
      ∙ ap (entry_at (entries_of nodes)) (target_key m asked.fit)
      ∙ entry_of_node nodes (key_of m.target)
      ∙ ap (option_map named_of) found in
      not_refused (λ key. copy) (tree_of (entries_of nodes) []) m.request asked.fault
      ∙ body_told copy (tree_of (entries_of nodes) []) m.request m.request.body n.named reads e

  -- the reply with its source
  pub replied_at : (m : Chained) (node : NodeId) (source : Source) (reply : Reply) → IsAsked m → is_read
      m.request.body ≡ true
      → AreNumbered nodes → option_map id_of (node_at nodes (key_of m.target)) ≡ Some node
      → ((n : Node) → node_with nodes node ≡ Some n → reply ≡ reply_from (source ∷ []) (read_told (is_some
      source.moment) m.request.body n.named))
      → reply ≡ reply_from (source ∷ []) (ask_marked (λ key. is_some source.moment) (tree_of (entries_of nodes) [])
      m.request)
  replied_at m node source reply asked reads numbered at told =
      let n = node_found nodes (key_of m.target) node at numbered in
      told n.0 n.1 ∙ ap (reply_from (source ∷ [])) (sym (told_at (is_some source.moment) m n.0 asked reads n.2))

-- ---- in a context that is mastered, and in a copy

pub own_target : (s : State) (m : Chained) (own : ℕ) (node : NodeId) (c : Kept) → IsTarget s m own node → slice_get
    s.own own ≡ Some c
    → option_map id_of (node_at c.nodes.nodes (key_of m.target)) ≡ Some node
own_target s m own node c t e =
    subst (λ (k : Kept). option_map id_of (node_at k.nodes.nodes (key_of m.target)) ≡ Some node)
    (same_some t.kept c (sym t.held ∙ e)) t.at

pub copy_refreshed : (s : State) (m : Chained) (copy : ℕ) (node : NodeId) (c : CopyKept) (t : IsCopyTarget s m copy
    node)
    → slice_get s.copies copy ≡ Some c → c.refreshed ≡ Some t.brought
copy_refreshed s m copy node c t e =
    subst (λ (k : CopyKept). k.refreshed ≡ Some t.brought) (same_some t.kept c (sym t.held ∙ e)) t.refreshed

pub own_reply : (me : ℕ) (m : Chained) (c : Kept) (source : Source) (reply : Reply) → source ≡ own_source me
    (held_view c)
    → reply ≡ reply_from (source ∷ []) (ask_marked (λ key. is_some source.moment) (tree_of (entries_of c.nodes.nodes)
    []) m.request)
    → reply ≡ reply_in_own me m (held_view c)
own_reply me m c source reply e told =
    told ∙ ap (λ (s : Source). reply_from (s ∷ []) (ask_marked (λ key. is_some s.moment) (tree_of (entries_of
    c.nodes.nodes) []) m.request)) e

pub copy_reply : (me : ℕ) (m : Chained) (c : CopyKept) (brought : Kept × ℕ) (source : Source) (reply : Reply)
    → c.refreshed ≡ Some brought → source ≡ copy_source me (copy_view c)
    → reply ≡ reply_from (source ∷ []) (ask_marked (λ key. is_some source.moment) (tree_of (entries_of
    brought.0.nodes.nodes) []) m.request)
    → reply ≡ reply_in_copy me m (copy_view c)
copy_reply me m c brought source reply r e told =
    told
    ∙ ap (λ (s : Source). reply_from (s ∷ []) (ask_marked (λ key. is_some s.moment) (tree_of (entries_of
    brought.0.nodes.nodes) []) m.request)) e
    ∙ ap (λ (o : Option (Kept × ℕ)). reply_from (copy_source me (copy_view c) ∷ []) (ask_marked (λ key. is_some
    (stamp_of o)) (tree_of (entries_of brought.0.nodes.nodes) []) m.request)) r
    ∙ ap (λ (o : Option (Kept × ℕ)). reply_from (copy_source me (copy_view c) ∷ []) (ask_marked (λ key. true) (tree_of
    (brought_entries o) []) m.request)) (sym r)
