-- An entry that is grown over others is taken among them: the one above it is there and spells its name, no entry has its
-- key; and behind it the entries are in order, with it among them.
use Rattle.std.proofs.Common.{◌≡◌, ℕ, suc, ◌-◌, Bool, true, false, not, ◌&&◌, inl, inr, List, [], ◌∷◌, ◌++◌, take, length, refl, sym, ap, subst, ◌∙◌, arith}
use Rattle.std.proofs.lemmas.List.{map-append}
use Rattle.std.specs.List.{list_any}
use Rattle.x5_model.specs.Members.{In, Once}
use Rattle.x5_model.specs.Words.{ascending, is_empty}
use Rattle.x5_model.specs.Keys.{Key, same_key, parent}
use Rattle.x5_model.specs.Values.{Name, key_of, last_rdn, name_above}
use Rattle.x5_model.specs.Entries.{Entry, Named}
use Rattle.x5_model.specs.Attributes.{is_ordered, has_rdn}
use Rattle.x5_model.specs.Statics.{entry_refusals}
use Rattle.x5_model.proofs.KeyLaws.{key_decides}
use Rattle.x5_model.proofs.Lists.{both_true, not_true, in_either, in_left, in_right, in_map, of_map, any_in, of_any, of_find, none_of, once_map}
use Rattle.x5_model.proofs.Decide.{once_decides}
use Rattle.x5_model_tree.specs.Tree.{key_at, keys_of, named_below, is_there, sorted_entries}
use Rattle.x5_model_tree.specs.Described.{same_spelling, is_grown, is_kept, is_entry_name}
use Rattle.x5_model_tree.proofs.Grown.{above_key}
use Rattle.x5_model_tree.proofs.Order.{entries_once, union_in_order, in_union}
use Rattle.x5_dse.specs.declared.node.NodeId.{NodeId}
use Rattle.x5_dse.specs.declared.node.DseFault.{DseFault}
use Rattle.x5_dse.specs.declared.node.DseFault.TheVariants.{Exists, NoParent, NotLeaf}
use Rattle.x5_dse.specs.Linked.{Node, Nodes, entries_of, node_key, named_of}
use Rattle.x5_dse.specs.Changes.{Inserted, NotInserted}
use Rattle.x5_dse.proofs.Members.{once_push}
use Rattle.x5_holdings.specs.State.{Kept, OnlyEntries}
use Rattle.x5_agents.specs.Growing.{Grown}
use Rattle.x5_agents.proofs.Spelled.{one_name}

one_less : {A : Type 0} (x y : A) (xs : List A) → length (x ∷ y ∷ xs) - 1 ≡ suc (length (y ∷ xs) - 1)
one_less x y xs = omega arith

rejoined : (n : Name) → is_empty n ≡ false → name_above n ++ last_rdn n ∷ [] ≡ n
rejoined [] e = cc
rejoined (r ∷ []) e = refl
rejoined (r ∷ s ∷ rest) e =
    ap (λ (k : ℕ). take k (r ∷ s ∷ rest) ++ last_rdn (s ∷ rest) ∷ []) (one_less r s rest)
    ∙ ap (λ (n : Name). r ∷ n) (rejoined (s ∷ rest) refl)

-- what is grown over the entries
module _ (xs : List Named) (e : Named) (grown : is_grown xs (e ∷ []) ≡ true) where
  abbrev above : Named → Bool
  above f = same_spelling f.name (name_above e.name)

  parts : (list_any above xs ≡ true) × ((not (is_there xs (key_at e)) && true) ≡ true)
  parts = both_true (list_any above xs) (not (is_there xs (key_at e)) && true) grown

  pub absent : is_there xs (key_at e) ≡ false
  absent = not_true (is_there xs (key_at e)) (both_true (not (is_there xs (key_at e))) true parts.1).0

  pub above_it : (f : Named) × In f xs × (f.name ≡ name_above e.name)
  above_it = (let w = of_any above xs parts.0 in (w.0, w.1, one_name w.0.name (name_above e.name) w.2))

  above_key_is : key_at above_it.0 ≡ parent (key_at e)
  above_key_is = ap key_of above_it.2 ∙ above_key e.name

  pub parent_there : is_there xs (parent (key_at e)) ≡ true
  parent_there =
      any_in (λ (f : Named). same_key (key_at f) (parent (key_at e))) above_it.0 xs above_it.1
      ((key_decides (key_at above_it.0) (parent (key_at e))).1 above_key_is)

  -- of the entries in order none but it is above
  pub spells : ascending named_below xs ≡ true → (f : Named) → In f xs → key_at f ≡ parent (key_at e) → f.name ≡ name_above e.name
  spells order f i k =
      let once : Once (keys_of xs) = (once_decides same_key key_decides (keys_of xs)).0 (entries_once xs order) in
      ap (λ (x : Named). x.name) (once_map key_at xs f above_it.0 once i above_it.1 (k ∙ sym above_key_is)) ∙ above_it.2

  pub in_order : ascending named_below xs ≡ true → ascending named_below (sorted_entries (xs ++ e ∷ [])) ≡ true
  in_order order =
      let once : Once (keys_of xs) = (once_decides same_key key_decides (keys_of xs)).0 (entries_once xs order) in
      let new : In (key_at e) (keys_of xs) → ⊥ = (λ i.
      let f = of_map key_at (key_at e) xs i in
      let not_same = none_of (λ (g : Named). same_key (key_at g) (key_at e)) f.0 xs absent f.1 in
      let same = (key_decides (key_at f.0) (key_at e)).1 (sym f.2) in cc) in
      union_in_order (xs ++ e ∷ [])
      ((once_decides same_key key_decides (keys_of (xs ++ e ∷ []))).1
      (subst Once (sym (map-append key_at xs (e ∷ []))) (once_push (key_at e) (keys_of xs) once new)))

-- none is refused
pub not_refused : (nodes : List Node) (e : Named) (k : Key) (fault : DseFault) → is_grown (entries_of nodes) (e ∷ []) ≡ true
    → k ≡ key_at e → NotInserted nodes k fault → ⊥
not_refused nodes e k Exists grown at f =
    let none = absent (entries_of nodes) e grown in
    let some : is_there (entries_of nodes) (key_at e) ≡ true = ap (λ (q : Key). is_there (entries_of nodes) q) (sym at) ∙ f in cc
not_refused nodes e k NoParent grown at f =
    let some = parent_there (entries_of nodes) e grown in
    let none : is_there (entries_of nodes) (parent (key_at e)) ≡ false =
    ap (λ (q : Key). is_there (entries_of nodes) (parent q)) (sym at) ∙ f.1 in cc
not_refused nodes e k NotLeaf grown at f = f

-- the entry that is taken is just this one
pub same_entry : (old : Nodes) (e : Named) (id : NodeId) (after : Nodes) → ascending named_below (entries_of old.nodes) ≡ true
    → is_grown (entries_of old.nodes) (e ∷ []) ≡ true → is_kept e ≡ true → Inserted old e.name e.entry id after
    → entries_of after.nodes ≡ sorted_entries (entries_of old.nodes ++ e ∷ [])
same_entry old e id after order grown kept w =
    let found = of_find (λ (n : Node). same_key (node_key n) (parent (key_of e.name))) w.above old.nodes w.below in
    let at : key_at w.above.named ≡ parent (key_at e) = (key_decides (node_key w.above) (parent (key_of e.name))).0 found.1 in
    let name : w.above.named.name ≡ name_above e.name =
    spells (entries_of old.nodes) e grown order w.above.named (in_map named_of w.above old.nodes found.0) at in
    let filled : is_empty e.name ≡ false =
    not_true (is_empty e.name) (both_true (is_entry_name e.name) (is_ordered e.entry && (has_rdn e.entry (last_rdn e.name) && is_empty (entry_refusals e.entry))) kept).0 in
    let whole : w.above.named.name ++ last_rdn e.name ∷ [] ≡ e.name =
    ap (λ (n : Name). n ++ last_rdn e.name ∷ []) name ∙ rejoined e.name filled in
    w.entries ∙ ap (λ (n : Name). sorted_entries (entries_of old.nodes ++ record { name = n; entry = e.entry } ∷ [])) whole

pub one_grown : (old after : Kept) (e : Named) → ascending named_below (entries_of old.nodes.nodes) ≡ true
    → is_grown (entries_of old.nodes.nodes) (e ∷ []) ≡ true
    → entries_of after.nodes.nodes ≡ sorted_entries (entries_of old.nodes.nodes ++ e ∷ []) → OnlyEntries old after
    → Grown old (e ∷ []) after
one_grown old after e order grown is rest =
    let xs : List Named = entries_of old.nodes.nodes in
    record {
      order = subst (λ (ys : List Named). ascending named_below ys ≡ true) (sym is) (in_order xs e grown order);
      members = λ f. (
        (λ i. in_either f xs (e ∷ []) ((in_union f (xs ++ e ∷ [])).1 (subst (λ (ys : List Named). In f ys) is i))),
        λ s. subst (λ (ys : List Named). In f ys) (sym is) ((in_union f (xs ++ e ∷ [])).0
            (elim s [ inl i ↦ in_left f xs (e ∷ []) i | inr i ↦ in_right f xs (e ∷ []) i ])),
      );
      rest = rest;
    }

-- entries without change in anything else, twice
pub still_only : (a b c : Kept) → OnlyEntries a b → OnlyEntries b c → OnlyEntries a c
still_only a b c f g = record {
  prefix = g.prefix ∙ f.prefix;
  log = g.log ∙ f.log;
  subordinate = g.subordinate ∙ f.subordinate;
  nssrs = g.nssrs ∙ f.nssrs;
}

-- both with room that was made before
module _ (old mid : Kept) (e : Named) (name : Name) (entry : Entry) (order : ascending named_below (entries_of old.nodes.nodes) ≡ true)
    (grown : is_grown (entries_of old.nodes.nodes) (e ∷ []) ≡ true) (kept : is_kept e ≡ true)
    (nodes : mid.nodes.nodes ≡ old.nodes.nodes) (first : name ≡ e.name) (second : entry ≡ e.entry) where
  order_too : ascending named_below (entries_of mid.nodes.nodes) ≡ true
  order_too = ap (λ (ns : List Node). ascending named_below (entries_of ns)) nodes ∙ order

  grown_too : is_grown (entries_of mid.nodes.nodes) (e ∷ []) ≡ true
  grown_too = ap (λ (ns : List Node). is_grown (entries_of ns) (e ∷ [])) nodes ∙ grown

  pub refused_none : (fault : DseFault) → NotInserted mid.nodes.nodes (key_of name) fault → ⊥
  refused_none fault f = not_refused mid.nodes.nodes e (key_of name) fault grown_too (ap key_of first) f

  pub taken : (id : NodeId) (after : Kept) → OnlyEntries old mid → Inserted mid.nodes name entry id after.nodes
      → OnlyEntries mid after → Grown old (e ∷ []) after
  taken id after f w g =
      let same : record { name = name; entry = entry } ≡ e = (λ i. record { name = first i; entry = second i }) in
      let is : entries_of after.nodes.nodes ≡ sorted_entries (entries_of mid.nodes.nodes ++ e ∷ []) =
      same_entry mid.nodes e id after.nodes order_too grown_too kept
      (subst (λ (x : Named). Inserted mid.nodes x.name x.entry id after.nodes) same w) in
      one_grown old after e order grown
      (is ∙ ap (λ (ns : List Node). sorted_entries (entries_of ns ++ e ∷ [])) nodes) (still_only old mid after f g)
