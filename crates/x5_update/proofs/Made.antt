-- The entries after a change that was ready are those that the update makes, and so the agent holds what is committed.
use Rattle.std.proofs.Common.{◌≡◌, ℕ, zero, suc, ◌<◌, not, ◌++◌, ◌∷◌, [], List, map, length, refl, sym, ap, subst, ◌∙◌, arith, None, Some, Ok, slice_set, if◌then◌else◌}
use Rattle.std.specs.Prelude.{slice_get}
use Rattle.std.specs.List.{filter}
use Rattle.x5_model.specs.Keys.{Key, parent, same_key, is_prefix}
use Rattle.x5_model.specs.Values.{Name, key_of, last_rdn, name_above}
use Rattle.x5_model.specs.Entries.{Named}
use Rattle.x5_model.specs.Changes.{modified, renamed}
use Rattle.x5_model.specs.Requests.{Request, Body, Read, Compare, ListBelow, Search, AddEntry, RemoveEntry, ModifyEntry, ModifyDn}
use Rattle.x5_model.specs.Statics.{fault_of}
use Rattle.x5_model.proofs.KeyLaws.{key_decides}
use Rattle.x5_model.proofs.Decide.{once_decides}
use Rattle.x5_model_tree.specs.Tree.{key_at, sorted_entries}
use Rattle.x5_model_tree.specs.Apply.{Ground, replace_at, respelled, apply_over, update}
use Rattle.x5_model_tree.proofs.Longest.{IsLongest}
use Rattle.x5_model_tree.proofs.Grown.{above_key}
use Rattle.x5_model_theory.proofs.Stages.{key_length}
use Rattle.x5_model_run.specs.Holdings.{Held}
use Rattle.x5_model_run.specs.Needs.{target_of}
use Rattle.x5_model_serve.specs.Committed.{changed_at, committed}
use Rattle.x5_model_updates.proofs.Outcomes.{accepted_over}
use Rattle.x5_model_updates.proofs.Own.{held_ground, ground_is}
use Rattle.x5_dse.specs.declared.node.NodeId.{NodeId}
use Rattle.x5_dse.specs.Linked.{Node, entries_of, node_key, node_at, node_with}
use Rattle.x5_holdings.specs.declared.changing.EntryChange.{EntryChange}
use Rattle.x5_holdings.specs.declared.changing.EntryChange.TheVariants as changes
use Rattle.x5_holdings.specs.Making.{IsMade, IsSame}
use Rattle.x5_holdings.specs.State.{Kept, State, held_view, holdings_view}
use Rattle.x5_ops.specs.KnowledgeViews.{specific_view, nssr_view}
use Rattle.x5_update.specs.Judging.{ground_in}
use Rattle.x5_update.specs.Plans.{IsChangeOf}
use Rattle.x5_update.specs.Seats.{IsSeat}
use Rattle.x5_update.proofs.Alone.{Makes, adds, removes, modifies, renames}
use Rattle.x5_update.proofs.Committed.{pins_at, others_stay, target_changes, committed_is, one_changes}
use Rattle.x5_update.proofs.Ready.{its_key, one_node}
use Rattle.x5_update.proofs.Seats.{seat, context, found}

node_inside : {a b : Node} → Some a ≡ Some b → a ≡ b
node_inside e = cc

module _ (s : State) (r : Request) (key : Key) (own : ℕ) (id : NodeId) (is : IsSeat s r key own id) where
  abbrev nodes : List Node
  nodes = is.kept.nodes.nodes

  abbrev pins : List Key
  pins = pins_at r (holdings_view s)

  abbrev mine : List Held
  mine = (holdings_view s).own

  by_ground : (body : Body) (us : List Named) → apply_over (ground_in s r) body ≡ Ok us
      → (fault_of body ≡ None) × (update (held_ground pins mine) body ≡ Ok us)
  by_ground body us q =
      accepted_over (held_ground pins mine) body us (ap (λ (g : Ground). apply_over g body) (sym (ground_is r (holdings_view s))) ∙ q)

  module _ (c : Kept) (same : IsSame is.kept c) where
    made : (body : Body) (change : EntryChange) (us : List Named) (d : Kept) → 0 < length (target_of body) → key ≡ key_of (target_of body)
        → apply_over (ground_in s r) body ≡ Ok us → IsChangeOf is.kept.nodes.nodes body change → IsMade c change d
        → Makes pins mine (held_view is.kept) body (entries_of d.nodes.nodes)
    made (AddEntry name attributes) (changes.Add n entry list) us d full at passed is_change (new_id, w) =
        let u : key ≡ parent (key_of name) = at ∙ above_key name in
        let above : w.above ≡ is.node =
        node_inside (sym w.below ∙ (λ i. node_at (same.nodes i) (parent (key_of (is_change.0 i)))) ∙ ap (node_at nodes) (sym u) ∙ is.at) in
        subst (λ (es : List Named). Makes pins mine (held_view is.kept) (AddEntry name attributes) es)
        (sym (w.entries ∙ (λ i. sorted_entries (entries_of (same.nodes i)
        ++ record { name = (above i).named.name ++ last_rdn (is_change.0 i) ∷ []; entry = is_change.1 i } ∷ []))))
        (adds pins mine (held_view is.kept) key (seat s r key own id is) (context s r key own id is) is.node.named (found s r key own id is)
        name attributes us (filled name full) u (by_ground (AddEntry name attributes) us passed).1)
      where
        filled : (n : Name) → 0 < length (name_above n) → 0 < length n
        filled [] l = l
        filled (x ∷ n) l = omega arith
    made (RemoveEntry name) (changes.Remove i) us d full at passed is_change (entry, w) =
        let n : w.node ≡ is_change.0 = node_inside (sym w.there ∙ ap (λ (ns : List Node). node_with ns i) same.nodes ∙ is_change.1) in
        let k : node_key w.node ≡ key_of name =
        ap node_key (n ∙ one_node s r key own id is is_change.0 name at is_change.2) ∙ its_key s r key own id is ∙ at in
        subst (λ (es : List Named). Makes pins mine (held_view is.kept) (RemoveEntry name) es)
        (sym (w.entries ∙ (λ j. filter (λ e. not (same_key (key_at e) (k j))) (entries_of (same.nodes j)))))
        (removes pins mine (held_view is.kept) key (seat s r key own id is) (context s r key own id is) is.node.named (found s r key own id is)
        name us at (by_ground (RemoveEntry name) us passed).1)
    made (ModifyEntry name list) (changes.Replace i entry values) us d full at passed is_change (before, w) =
        let n : w.node ≡ is_change.0 = node_inside (sym w.there ∙ ap (λ (ns : List Node). node_with ns i) same.nodes ∙ is_change.1) in
        let one : is_change.0 ≡ is.node = one_node s r key own id is is_change.0 name at is_change.2 in
        let k : node_key w.node ≡ key_of name = ap node_key (n ∙ one) ∙ its_key s r key own id is ∙ at in
        subst (λ (es : List Named). Makes pins mine (held_view is.kept) (ModifyEntry name list) es)
        (sym (w.entries ∙ (λ j. replace_at (k j) (record { name = ((n ∙ one) j).named.name; entry = entry }) (entries_of (same.nodes j)))))
        (modifies pins mine (held_view is.kept) key (seat s r key own id is) (context s r key own id is) is.node.named (found s r key own id is)
        name list us entry at (subst (λ (m : Node). modified (last_rdn name) list m.named.entry ≡ Ok entry) one is_change.3)
        (by_ground (ModifyEntry name list) us passed).1)
    made (ModifyDn name rdn drops) (changes.Rename i new entry values) us d full at passed is_change w =
        let n : w.node ≡ is_change.0 = node_inside (sym w.there ∙ ap (λ (ns : List Node). node_with ns i) same.nodes ∙ is_change.1) in
        let one : is_change.0 ≡ is.node = one_node s r key own id is is_change.0 name at is_change.2 in
        let k : node_key w.node ≡ key_of name = ap node_key (n ∙ one) ∙ its_key s r key own id is ∙ at in
        let e : entry ≡ renamed (last_rdn name) rdn drops is.node.named.entry =
        is_change.4 ∙ ap (λ (m : Node). renamed (last_rdn name) rdn drops m.named.entry) one in
        let long : length (name_above w.node.named.name) ≡ length (name_above name) = as_long w.node.named.name name k in
        subst (λ (es : List Named). Makes pins mine (held_view is.kept) (ModifyDn name rdn drops) es)
        (sym (w.entries ∙ (λ j. sorted_entries (map (λ (x : Named).
        if same_key (key_at x) (k j) then record { name = respelled (long j) (is_change.3 j) x.name; entry = e j }
        else (if is_prefix (k j) (key_at x) then record x { name = respelled (long j) (is_change.3 j) x.name } else x)) (entries_of (same.nodes j))))))
        (renames pins mine (held_view is.kept) key (seat s r key own id is) (context s r key own id is) is.node.named (found s r key own id is)
        name rdn drops us full at (by_ground (ModifyDn name rdn drops) us passed).1)
      where
        as_long : (a b : Name) → key_of a ≡ key_of b → length (name_above a) ≡ length (name_above b)
        as_long a b q =
            sym (key_length (name_above a)) ∙ ap length (above_key a ∙ ap parent q ∙ sym (above_key b)) ∙ key_length (name_above b)
    made (AddEntry name attributes) (changes.Remove i) us d full at passed is_change w = absurd is_change
    made (AddEntry name attributes) (changes.Replace i entry values) us d full at passed is_change w = absurd is_change
    made (AddEntry name attributes) (changes.Rename i new entry values) us d full at passed is_change w = absurd is_change
    made (RemoveEntry name) (changes.Add n entry list) us d full at passed is_change w = absurd is_change
    made (RemoveEntry name) (changes.Replace i entry values) us d full at passed is_change w = absurd is_change
    made (RemoveEntry name) (changes.Rename i new entry values) us d full at passed is_change w = absurd is_change
    made (ModifyEntry name list) (changes.Add n entry values) us d full at passed is_change w = absurd is_change
    made (ModifyEntry name list) (changes.Remove i) us d full at passed is_change w = absurd is_change
    made (ModifyEntry name list) (changes.Rename i new entry values) us d full at passed is_change w = absurd is_change
    made (ModifyDn name rdn drops) (changes.Add n entry list) us d full at passed is_change w = absurd is_change
    made (ModifyDn name rdn drops) (changes.Remove i) us d full at passed is_change w = absurd is_change
    made (ModifyDn name rdn drops) (changes.Replace i entry values) us d full at passed is_change w = absurd is_change
    made (Read name selection) change us d full at passed is_change w = absurd is_change
    made (Compare name assertion) change us d full at passed is_change w = absurd is_change
    made (ListBelow name) change us d full at passed is_change w = absurd is_change
    made (Search base subset f selection) change us d full at passed is_change w = absurd is_change

    -- the context then is as the definition changes it
    held_after : (body : Body) (change : EntryChange) (us : List Named) (d : Kept) → r.body ≡ body → 0 < length (target_of body)
        → key ≡ key_of (target_of body) → apply_over (ground_in s r) body ≡ Ok us → IsChangeOf is.kept.nodes.nodes body change → IsMade c change d
        → d.prefix ≡ c.prefix → d.subordinate ≡ c.subordinate → d.nssrs ≡ c.nssrs
        → changed_at r (holdings_view s) (held_view is.kept) ≡ held_view d
    held_after body change us d b full at passed is_change w p q n =
        target_changes r (holdings_view s) (held_view is.kept)
        (subst (λ (k : Key). IsLongest pins k (Some (key_of is.kept.prefix))) (at ∙ ap (λ (x : Body). key_of (target_of x)) (sym b)) (seat s r key own id is).long)
        (entries_of d.nodes.nodes)
        (ap fault_of b ∙ (by_ground body us passed).0)
        (subst (λ (x : Body). Makes pins mine (held_view is.kept) x (entries_of d.nodes.nodes)) (sym b) (made body change us d full at passed is_change w))
        ∙ (λ i. record {
          prefix = (sym same.prefix ∙ sym p) i;
          entries = entries_of d.nodes.nodes;
          subordinate = map specific_view ((sym same.subordinate ∙ sym q) i);
          nssrs = map nssr_view ((sym same.nssrs ∙ sym n) i);
        })

-- ---- the agent

set_twice : {A : Type 0} (xs : List A) (n : ℕ) (x y : A) → slice_set (slice_set xs n x) n y ≡ slice_set xs n y
set_twice [] n x y = refl
set_twice (z ∷ xs) zero x y = refl
set_twice (z ∷ xs) (suc n) x y = ap (λ ys. z ∷ ys) (set_twice xs n x y)

pub set_again : (s : State) (n : ℕ) (x y : Kept) → record s { own = slice_set (slice_set s.own n x) n y } ≡ record s { own = slice_set s.own n y }
set_again s n x y = ap (λ (l : List Kept). record s { own = l }) (set_twice s.own n x y)

pub got_set : {A : Type 0} (xs : List A) (n : ℕ) (x y : A) → slice_get xs n ≡ Some x → slice_get (slice_set xs n y) n ≡ Some y
got_set [] n x y e = cc
got_set (z ∷ xs) zero x y e = refl
got_set (z ∷ xs) (suc n) x y e = got_set xs n x y e

module _ (s : State) (r : Request) (key : Key) (own : ℕ) (id : NodeId) (is : IsSeat s r key own id) (c d : Kept) (same : IsSame is.kept c) where
  pub committed_after : (change : EntryChange) (us : List Named) → 0 < length (target_of r.body) → key ≡ key_of (target_of r.body)
      → apply_over (ground_in s r) r.body ≡ Ok us → IsChangeOf is.kept.nodes.nodes r.body change → IsMade c change d
      → d.prefix ≡ c.prefix → d.subordinate ≡ c.subordinate → d.nssrs ≡ c.nssrs
      → holdings_view (record s { own = slice_set s.own own d }) ≡ committed r (holdings_view s)
  committed_after change us full at passed is_change w p q n =
      ap (λ (l : List Held). record (holdings_view s) { own = l })
      (sym (one_changes held_view (λ (x : Kept). key_of x.prefix) (changed_at r (holdings_view s)) is.kept d
      (held_after s r key own id is c same r.body change us d refl full at passed is_change w p q n)
      s.own own ((once_decides same_key key_decides (map (λ (x : Kept). key_of x.prefix) s.own)).0 is.apart) is.held
      (λ z i other. others_stay r (holdings_view s) (held_view is.kept)
      (subst (λ (k : Key). IsLongest (pins_at r (holdings_view s)) k (Some (key_of is.kept.prefix))) at (seat s r key own id is).long) (held_view z) other)))
      ∙ sym (committed_is r (holdings_view s) us passed)
