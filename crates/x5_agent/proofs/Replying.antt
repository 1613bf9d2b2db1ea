-- What is found in a copy is what its reply says: where that is no error the copy answers, and else the supplier is
-- asked. And the lowest entry on the way has a name that is no longer than the target.
use Rattle.std.proofs.Common.{◌≡◌, ℕ, zero, suc, ◌-◌, Bool, true, false, ◌||◌, if◌then◌else◌, List, [], ◌∷◌, ◌++◌, take, drop, length, get_or, Option, Some, None, refl, sym, ap, subst, ◌∙◌}
use Rattle.std.specs.List.{slice_get}
use Rattle.std.specs.Option.{is_some, option_map}
use Rattle.x5_model.specs.Members.{In, here, there}
use Rattle.x5_model.specs.Keys.{Key, same_key}
use Rattle.x5_model.specs.Values.{Name, key_of}
use Rattle.x5_model.specs.Entries.{Named}
use Rattle.x5_model.specs.References.{Next, Supplier, RefType, Chained}
use Rattle.x5_model.specs.Answers.{Reply}
use Rattle.x5_model.specs.Statics.{fault_of}
use Rattle.x5_model.proofs.Lists.{in_map}
use Rattle.x5_model_tree.specs.Tree.{tree_of, is_there}
use Rattle.x5_model_tree.specs.Ask.{ask_marked, ask}
use Rattle.x5_model_run.specs.Holdings.{Copy, Holdings}
use Rattle.x5_model_run.specs.Needs.{fails, reference, copy_answers, supplier_needs, proceeding}
use Rattle.x5_model_run.specs.Journal.{is_done}
use Rattle.x5_model_run.specs.Placed.{fits, is_query_below}
use Rattle.x5_model_heard.specs.Kept.{looks_at_one}
use Rattle.x5_model_heard.specs.Told.{are_agents}
use Rattle.x5_model_serve.specs.Finding as finding
use Rattle.x5_model_serve.specs.Answering.{copy_source, reply_in_copy}
use Rattle.x5_dse.specs.declared.node.NodeId.{NodeId}
use Rattle.x5_dse.specs.Linked.{Node, has_id, entries_of, id_of, name_in, named_of, node_key, node_at, node_with, is_live}
use Rattle.x5_holdings.specs.State.{Kept, CopyKept, State, copy_view, holdings_view, brought_entries, stamp_of}
use Rattle.x5_find.specs.Finds.{IsCopyHere, IsLowest}
use Rattle.x5_agent.specs.Answers.{KnowsThem, IsAtSupplier, is_failed}
use Rattle.x5_agent.proofs.Queries.{query_passes}
use Rattle.x5_agent.proofs.Alone.{unfinished, failed_from, fails_alike, answers, to_supplier}

pub same_some : {A : Type 0} (x y : A) → Some x ≡ Some y → x ≡ y
same_some x y e = cc

pub held_there : {A : Type 0} (xs : List A) (i : ℕ) (k x : A) → slice_get xs i ≡ Some k → x ≡ get_or xs i x
    → slice_get xs i ≡ Some x
held_there [] i k x e g = cc
held_there (y ∷ ys) zero k x e g = ap Some (sym g)
held_there (y ∷ ys) (suc i) k x e g = held_there ys i k x e g

-- ---- copies

onward_supplier : (h : Holdings) (m : Chained) (c : Copy) → copy_answers h m c ≡ false
    → finding.in_copy h m c ≡ finding.Onward
    (proceeding (length c.held.prefix) c.held.prefix m.target Supplier (c.supplier ∷ []))
onward_supplier h m c e = rw e refl

got_in : {A : Type 0} (xs : List A) (i : ℕ) (x : A) → slice_get xs i ≡ Some x → In x xs
got_in [] i x e = cc
got_in (y ∷ ys) zero x e = subst (λ z. In z (y ∷ ys)) (same_some y x e) here
got_in (y ∷ ys) (suc i) x e = there (got_in ys i x e)

is_there_by : (nodes : List Node) (key : Key) (id : NodeId) → option_map id_of (node_at nodes key) ≡ Some id
    → is_there (entries_of nodes) key ≡ true
is_there_by [] key id e = cc
is_there_by (n ∷ nodes) key id e = by (same_key (node_key n) key) e (is_there_by nodes key id)
  where
    by : (b : Bool) → option_map id_of (if b then Some n else node_at nodes key) ≡ Some id
        → (option_map id_of (node_at nodes key) ≡ Some id → is_there (entries_of nodes) key ≡ true)
        → (b || is_there (entries_of nodes) key) ≡ true
    by true f rest = refl
    by false f rest = rest f

module _ (s : State) (m : Chained) (copy : ℕ) (node : NodeId) (e : IsCopyHere s m copy node)
    (one : looks_at_one m.request.body ≡ true) (fit : fits m ≡ true) where
  abbrev its_copy : Copy
  its_copy = copy_view e.kept

  in_it : finding.find (holdings_view s) m ≡ finding.in_copy (holdings_view s) m its_copy
  in_it =
      e.found ∙ ap (λ (b : Bool). if b then finding.CopyHere its_copy else finding.in_copy (holdings_view s) m its_copy)
      (unfinished m one fit)

  stamped : is_some (stamp_of e.kept.refreshed) ≡ true
  stamped = ap (λ (o : Option (Kept × ℕ)). is_some (stamp_of o)) e.refreshed

  has_it : is_there (brought_entries e.kept.refreshed) (key_of m.target) ≡ true
  has_it =
      ap (λ (o : Option (Kept × ℕ)). is_there (brought_entries o) (key_of m.target)) e.refreshed
      ∙ is_there_by e.brought.0.nodes.nodes (key_of m.target) node e.at

  answers_it : fails (ask (tree_of its_copy.held.entries []) m.request) ≡ false
      → finding.find (holdings_view s) m ≡ finding.CopyHere its_copy
  answers_it f =
      let a : copy_answers (holdings_view s) m its_copy ≡ true = answers (holdings_view s) m its_copy e.usable stamped
      (in_map copy_view e.kept s.copies (got_in s.copies copy e.kept e.held)) has_it f in
      in_it
      ∙ ap (λ (b : Bool). if b then finding.CopyHere its_copy else finding.by_first (supplier_needs (holdings_view s) m
      its_copy) finding.Stuck) a

  asks_supplier : fails (ask (tree_of its_copy.held.entries []) m.request) ≡ true
      → finding.find (holdings_view s) m ≡ finding.Onward
      (proceeding (length e.kept.prefix) e.kept.prefix m.target Supplier (e.kept.supplier ∷ []))
  asks_supplier f =
      in_it ∙ onward_supplier (holdings_view s) m its_copy (to_supplier (holdings_view s) m its_copy f)

  module _ (y : Reply)
      (told : (c : CopyKept) → slice_get s.copies copy ≡ Some c → y ≡ reply_in_copy s.me m (copy_view c)) where
    failed : is_failed y ≡ fails (ask (tree_of its_copy.held.entries []) m.request)
    failed =
        ap is_failed (told e.kept e.held)
        ∙ failed_from (copy_source s.me its_copy) (ask_marked (λ key. true) (tree_of its_copy.held.entries []) m.request)
        ∙ fails_alike (λ key. true) (λ key. false) (tree_of its_copy.held.entries []) m.request one

    pub copy_told : is_failed y ≡ false
        → (c : Copy) × (finding.find (holdings_view s) m ≡ finding.CopyHere c) × (y ≡ reply_in_copy s.me m c)
    copy_told f = (its_copy, answers_it (sym failed ∙ f), told e.kept e.held)

    pub at_supplier : is_failed y ≡ true → IsAtSupplier s m copy
    at_supplier f = record { kept = e.kept; held = e.held; found = asks_supplier (sym failed ∙ f) }

-- a copy that may be used answers each list or search of what it has
module _ (s : State) (m : Chained) (copy : ℕ) (node : NodeId) (e : IsCopyHere s m copy node)
    (query : is_query_below m.request.body ≡ true) (fault : fault_of m.request.body ≡ None) (fit : fits m ≡ true) where
  abbrev that_copy : Copy
  that_copy = copy_view e.kept

  there_is : is_there that_copy.held.entries (key_of m.target) ≡ true
  there_is =
      ap (λ (o : Option (Kept × ℕ)). is_there (brought_entries o) (key_of m.target)) e.refreshed
      ∙ is_there_by e.brought.0.nodes.nodes (key_of m.target) node e.at

  it_answers : copy_answers (holdings_view s) m that_copy ≡ true
  it_answers =
      answers (holdings_view s) m that_copy e.usable
      (ap (λ (o : Option (Kept × ℕ)). is_some (stamp_of o)) e.refreshed)
      (in_map copy_view e.kept s.copies (got_in s.copies copy e.kept e.held)) there_is
      (query_passes m that_copy.held.entries query fault fit there_is)

  pub copy_begins : finding.find (holdings_view s) m ≡ finding.CopyHere that_copy
  copy_begins = e.found ∙ by (is_done m.progress)
    where
      by : (d : Bool) → (if d then finding.CopyHere that_copy else finding.in_copy (holdings_view s) m that_copy)
          ≡ finding.CopyHere that_copy
      by true = refl
      by false =
          ap (λ (b : Bool). if b then finding.CopyHere that_copy else finding.by_first (supplier_needs (holdings_view s)
          m that_copy) finding.Stuck) it_answers

-- ---- the lowest entry on the way

live_with : (nodes : List Node) (id : NodeId) (n : Node) → node_with nodes id ≡ Some n → is_live nodes id ≡ true
live_with [] id n e = cc
live_with (x ∷ nodes) id n e = by (has_id id x) e (live_with nodes id n)
  where
    by : (b : Bool) → (if b then Some x else node_with nodes id) ≡ Some n
        → (node_with nodes id ≡ Some n → is_live nodes id ≡ true) → (b || is_live nodes id) ≡ true
    by true f rest = refl
    by false f rest = rest f

module _ (s : State) (own : ℕ) (node : NodeId) (named : Named) (low : IsLowest s own node named) (c : Kept)
    (held : slice_get s.own own ≡ Some c) where
  its_node : option_map named_of (node_with c.nodes.nodes node) ≡ Some named
  its_node =
      subst (λ (k : Kept). option_map named_of (node_with k.nodes.nodes node) ≡ Some named)
      (same_some low.kept c (sym low.held ∙ held)) low.at

  pub lowest_live : is_live c.nodes.nodes node ≡ true
  lowest_live = by (node_with c.nodes.nodes node) refl its_node
    where
      by : (o : Option Node) → node_with c.nodes.nodes node ≡ o → option_map named_of o ≡ Some named
          → is_live c.nodes.nodes node ≡ true
      by None e f = cc
      by (Some n) e f = live_with c.nodes.nodes node n e

  pub lowest_named : (name : Name) → option_map name_in (node_with c.nodes.nodes node) ≡ Some name → name ≡ named.name
  lowest_named name e = by (node_with c.nodes.nodes node) e its_node
    where
      by : (o : Option Node) → option_map name_in o ≡ Some name → option_map named_of o ≡ Some named
          → name ≡ named.name
      by None f g = cc
      by (Some n) f g =
          let h : n.named ≡ named = same_some n.named named g in
          sym (same_some n.named.name name f) ∙ ap (λ (x : Named). x.name) h

-- ---- how far a reference leads

module _ (h : Holdings) (m : Chained) (k : ℕ) (kept : Name) (kind : RefType) (agents : List ℕ)
    (e : finding.find h m ≡ finding.Onward (proceeding k kept m.target kind agents)) where
  pub proceeding_known : (n : ℕ) → KnowsThem n h m → are_agents n agents ≡ true
  proceeding_known n knows = knows (proceeding k kept m.target kind agents) e

  -- the reference of the code is this one
  pub as_spelled : (n : ℕ) (spelled : Name) (asked : List ℕ) → k ≡ n → kept ≡ spelled → agents ≡ asked
      → finding.find h m ≡ finding.Onward
      (reference (take (n - 1) spelled ++ drop (n - 1) m.target) (Next n) kind asked)
  as_spelled n spelled asked f g i =
      e ∙ (λ j. finding.Onward (reference (take (f j - 1) (g j) ++ drop (f j - 1) m.target) (Next (f j)) kind (i j)))
