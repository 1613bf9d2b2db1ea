-- An entry that can be added is taken among the others just as it is: the one above it is there and begins its name, and no entry
-- has its key.
use Rattle.std.proofs.Common.{◌≡◌, ◌+◌, ◌-◌, ◌<◌, true, false, List, [], ◌∷◌, ◌++◌, length, sym, ap, subst, ◌∙◌, arith}
use Rattle.std.proofs.lemmas.List.{length-map, length_push}
use Rattle.std.specs.Ordering.{is_lt}
use Rattle.x5_model.specs.Members.{Once}
use Rattle.x5_model.specs.Words.{ascending}
use Rattle.x5_model.specs.Keys.{Key, same_key, key_below, parent}
use Rattle.x5_model.specs.Values.{Name, key_of, key_of_rdn, last_rdn, name_above}
use Rattle.x5_model.specs.Entries.{Named}
use Rattle.x5_model.proofs.KeyLaws.{key_decides}
use Rattle.x5_model.proofs.Lists.{any_in, in_map, of_find, once_map}
use Rattle.x5_model.proofs.Decide.{once_decides}
use Rattle.x5_model_tree.specs.Tree.{key_at, keys_of, named_below, is_there, sorted_entries}
use Rattle.x5_model_tree.proofs.Grown.{above_key}
use Rattle.x5_model_tree.proofs.Order.{entries_once}
use Rattle.x5_dse.specs.declared.node.NodeId.{NodeId}
use Rattle.x5_dse.specs.declared.node.DseFault.{DseFault}
use Rattle.x5_dse.specs.declared.node.DseFault.TheVariants.{Exists, NoParent, NotLeaf}
use Rattle.x5_dse.specs.Linked.{Node, Nodes, entries_of, node_key, named_of}
use Rattle.x5_dse.specs.Changes.{Inserted, NotInserted}
use Rattle.x5_dse.proofs.Parents.{front_less}
use Rattle.x5_dse.proofs.Renaming.{name_above_push}
use Rattle.x5_model_refreshed.specs.Doable.{IsBelow, CanAdd}

module _ (xs : List Named) (e : Named) (below : IsBelow xs e) where
  pub above_key_is : key_at below.above ≡ parent (key_at e)
  above_key_is =
      ap key_of (sym (name_above_push below.above.name (last_rdn e.name)) ∙ ap name_above (sym below.spelled)) ∙ above_key e.name

  pub parent_there : is_there xs (parent (key_at e)) ≡ true
  parent_there =
      any_in (λ (f : Named). same_key (key_at f) (parent (key_at e))) below.above xs below.there
      ((key_decides (key_at below.above) (parent (key_at e))).1 above_key_is)

  filled : 0 < length (key_at e)
  filled =
      let l : length (key_at e) ≡ length e.name = length-map e.name key_of_rdn in
      let s : length e.name ≡ length (below.above.name ++ last_rdn e.name ∷ []) = ap length below.spelled in
      let p : length (below.above.name ++ last_rdn e.name ∷ []) ≡ length below.above.name + 1 =
      length_push below.above.name (last_rdn e.name) in
      omega arith

  -- it stands before
  pub above_before : named_below below.above e ≡ true
  above_before =
      let f : 0 < length (key_at e) = filled in
      subst (λ (k : Key). key_below k (key_at e) ≡ true) (sym above_key_is)
      (ap is_lt (front_less (length (key_at e) - 1) (key_at e) (omega arith)))

-- none is refused
pub not_refused : (nodes : List Node) (e : Named) (k : Key) (fault : DseFault) → CanAdd (entries_of nodes) e
    → k ≡ key_at e → NotInserted nodes k fault → ⊥
not_refused nodes e k Exists can at f =
    let none : is_there (entries_of nodes) (key_at e) ≡ false = can.absent in
    let some : is_there (entries_of nodes) (key_at e) ≡ true = ap (λ (q : Key). is_there (entries_of nodes) q) (sym at) ∙ f in cc
not_refused nodes e k NoParent can at f =
    let some = parent_there (entries_of nodes) e can.below in
    let none : is_there (entries_of nodes) (parent (key_at e)) ≡ false =
    ap (λ (q : Key). is_there (entries_of nodes) (parent q)) (sym at) ∙ f.1 in cc
not_refused nodes e k NotLeaf can at f = f

-- the entry that is taken is just this one
pub same_entry : (old : Nodes) (e : Named) (id : NodeId) (after : Nodes) → ascending named_below (entries_of old.nodes) ≡ true
    → IsBelow (entries_of old.nodes) e → Inserted old e.name e.entry id after
    → entries_of after.nodes ≡ sorted_entries (entries_of old.nodes ++ e ∷ [])
same_entry old e id after order below w =
    let found = of_find (λ (n : Node). same_key (node_key n) (parent (key_of e.name))) w.above old.nodes w.below in
    let at : key_at w.above.named ≡ parent (key_at e) = (key_decides (node_key w.above) (parent (key_of e.name))).0 found.1 in
    let once : Once (keys_of (entries_of old.nodes)) =
    (once_decides same_key key_decides (keys_of (entries_of old.nodes))).0 (entries_once (entries_of old.nodes) order) in
    let same : w.above.named ≡ below.above =
    once_map key_at (entries_of old.nodes) w.above.named below.above once (in_map named_of w.above old.nodes found.0) below.there
    (at ∙ sym (above_key_is (entries_of old.nodes) e below)) in
    let whole : w.above.named.name ++ last_rdn e.name ∷ [] ≡ e.name =
    ap (λ (f : Named). f.name ++ last_rdn e.name ∷ []) same ∙ sym below.spelled in
    w.entries ∙ ap (λ (n : Name). sorted_entries (entries_of old.nodes ++ record { name = n; entry = e.entry } ∷ [])) whole
