-- A change that the master's ground passes can be made, once there is room.
use Rattle.std.proofs.Common.{◌≡◌, ℕ, ◌≤◌, Bool, true, false, not, ◌&&◌, inl, inr, List, [], ◌∷◌, ◌++◌, length, refl, sym, ap, subst, ◌∙◌, arith, Some, Ok, if◌then◌else◌}
use Rattle.std.specs.Prelude.{IsTrue}
use Rattle.std.specs.List.{find, list_any}
use Rattle.std.proofs.lemmas.List.{map-append}
use Rattle.x5_model.specs.Words.{has}
use Rattle.x5_model.specs.Keys.{Key, KeyPair, IsPrefix, parent, same_key}
use Rattle.x5_model.specs.Values.{Name, Rdn, key_of, key_of_rdn, name_above}
use Rattle.x5_model.specs.Entries.{Entry, Named}
use Rattle.x5_model.specs.Attributes.{is_ordered}
use Rattle.x5_model.specs.Requests.{Request, Body, Read, Compare, ListBelow, Search, AddEntry, RemoveEntry, ModifyEntry, ModifyDn}
use Rattle.x5_model.proofs.KeyLaws.{key_decides}
use Rattle.x5_model.proofs.Lists.{true_or_false, any_in, of_find, or_left, in_map}
use Rattle.x5_model.proofs.Prefixes.{prefix_itself}
use Rattle.x5_model.proofs.Decide.{nat_same_decides}
use Rattle.x5_model_tree.specs.Tree.{key_at, is_there, has_below}
use Rattle.x5_model_tree.specs.Apply.{above_pin, is_taken, apply_over}
use Rattle.x5_model_tree.proofs.Grown.{above_key}
use Rattle.x5_model_run.specs.Holdings.{Held}
use Rattle.x5_model_run.specs.Needs.{target_of}
use Rattle.x5_model_updates.specs.Afterwards.{new_key}
use Rattle.x5_model_updates.proofs.Grounds.{above_decides}
use Rattle.x5_model_updates.proofs.Outcomes.{Added, added, Removed, removed, Renamed, renamed_so, clashes, accepted_over}
use Rattle.x5_dse.specs.declared.node.NodeId.{NodeId}
use Rattle.x5_dse.specs.Linked.{Node, entries_of, node_key, node_at, node_with, has_id, is_live, is_first, prefix_of}
use Rattle.x5_dse.specs.Changes as dse
use Rattle.x5_dse.proofs.Ids.{same_id}
use Rattle.x5_index.specs.Index.{terms_of}
use Rattle.x5_holdings.specs.declared.changing.EntryChange.{EntryChange}
use Rattle.x5_holdings.specs.declared.changing.EntryChange.TheVariants as changes
use Rattle.x5_holdings.specs.Making.{IsRoomOf, IsReady, HasRoom, IsSame}
use Rattle.x5_holdings.specs.State.{Kept, State, held_view, holdings_view}
use Rattle.x5_update.specs.Judging.{ground_in}
use Rattle.x5_update.specs.Plans.{IsChangeOf, values_in}
use Rattle.x5_update.specs.Seats.{IsSeat}
use Rattle.x5_update.proofs.Committed.{pins_at}
use Rattle.x5_update.proofs.Seats.{seat, there_in, ground_below, ground_taken, found}

node_inside : {a b : Node} → Some a ≡ Some b → a ≡ b
node_inside e = cc

module _ (s : State) (r : Request) (key : Key) (own : ℕ) (id : NodeId) (is : IsSeat s r key own id) where
  abbrev nodes : List Node
  nodes = is.kept.nodes.nodes

  pub its_key : node_key is.node ≡ key
  its_key = (key_decides (node_key is.node) key).0 (of_find (λ (n : Node). same_key (node_key n) key) is.node nodes is.at).1

  pub live : is_live nodes id ≡ true
  live = (let w = of_find (has_id id) is.node nodes is.there in any_in (has_id id) is.node nodes w.0 w.1)

  -- a name that isn't taken isn't an entry's
  pub not_there : (n : Key) → is_taken (ground_in s r) n ≡ false → is_there (entries_of nodes) n ≡ false
  not_there n f =
      elim (true_or_false (is_there (entries_of nodes) n)) [
        | inr g ↦ g
        | inl t ↦ absurd (
            let a : list_any (λ (d : Held). is_there d.entries n) (holdings_view s).own ≡ true =
            any_in (λ (d : Held). is_there d.entries n) (held_view is.kept) (holdings_view s).own
            (in_map held_view is.kept s.own (there_in s r key own id is)) t in
            let u : is_taken (ground_in s r) n ≡ true =
            ground_taken s r n ∙ or_left (list_any (λ (d : Held). is_there d.entries n) (holdings_view s).own)
            (has same_key (pins_at r (holdings_view s)) n) a in
            cc)
      ]

  -- where no pin is at it or below it it isn't the prefix's
  pub not_first : above_pin (ground_in s r) key ≡ false → is_first nodes id ≡ false
  not_first none = by nodes refl
    where
      its_pin : key ≡ key_of is.kept.prefix → ⊥
      its_pin e =
          let t : above_pin (ground_in s r) key ≡ true =
          (above_decides (ground_in s r) key).1 (inl (
            key_of is.kept.prefix,
            (seat s r key own id is).long.0,
            subst (λ (k : Key). IsPrefix key k) e (prefix_itself key),
          )) in
          cc

      by_id : (n : Node) (rest : List Node) → nodes ≡ n ∷ rest → (b : Bool) → has_id id n ≡ b → b ≡ false
      by_id n rest q false h = refl
      by_id n rest q true h =
          absurd (
          let w : node_with nodes id ≡ Some n =
          ap (λ (ns : List Node). find (has_id id) ns) q ∙ ap (λ (b : Bool). if b then Some n else find (has_id id) rest) h in
          let same : is.node ≡ n = node_inside (sym is.there ∙ w) in
          its_pin (sym its_key ∙ ap node_key same ∙ sym (ap prefix_of q) ∙ is.whole.prefixed))

      by : (ns : List Node) → nodes ≡ ns → is_first nodes id ≡ false
      by [] q = ap (λ (l : List Node). is_first l id) q
      by (n ∷ rest) q = ap (λ (l : List Node). is_first l id) q ∙ by_id n rest q (has_id id n) refl

  -- the node of the name is that of the place
  pub one_node : (n : Node) (name : Name) → key ≡ key_of name → node_at nodes (key_of name) ≡ Some n → n ≡ is.node
  one_node n name at q = node_inside (sym q ∙ ap (node_at nodes) (sym at) ∙ is.at)

  same_ids : (i : NodeId) (n : Node) → node_with nodes i ≡ Some n → n ≡ is.node → i ≡ id
  same_ids i n q one =
      let a : n.id.0 ≡ i.0 = (nat_same_decides n.id.0 i.0).0 (of_find (has_id i) n nodes q).1 in
      let b : is.node.id.0 ≡ id.0 = (nat_same_decides is.node.id.0 id.0).0 (of_find (has_id id) is.node nodes is.there).1 in
      same_id i id (sym a ∙ ap (λ (m : Node). m.id.0) one ∙ b)

  -- the new name by the node's own spelling
  pub same_new : (name : Name) (rdn : Rdn) → node_key is.node ≡ key_of name → dse.new_key is.node.named rdn ≡ new_key name rdn
  same_new name rdn e =
      map-append key_of_rdn (name_above is.node.named.name) (rdn ∷ [])
      ∙ ap (λ (k : Key). k ++ key_of_rdn rdn ∷ [])
      (above_key is.node.named.name ∙ ap parent e ∙ sym (above_key name))
      ∙ sym (map-append key_of_rdn (name_above name) (rdn ∷ []))

  free_name : (name : Name) (rdn new : Rdn) → node_key is.node ≡ key_of name → new ≡ rdn → clashes (ground_in s r) name rdn ≡ false
      → dse.is_taken (entries_of nodes) is.node.named new ≡ false
  free_name name rdn new e n f =
      ap (λ (x : Rdn). dse.is_taken (entries_of nodes) is.node.named x) n
      ∙ (λ i. not (same_key (same_new name rdn e i) (e i)) && is_there (entries_of nodes) (same_new name rdn e i))
      ∙ by (same_key (new_key name rdn) (key_of name)) f
    where
      by : (b : Bool) → (not b && is_taken (ground_in s r) (new_key name rdn)) ≡ false
          → (not b && is_there (entries_of nodes) (new_key name rdn)) ≡ false
      by true g = refl
      by false g = not_there (new_key name rdn) g

  module _ (c : Kept) (same : IsSame is.kept c) where
    room : (entry : Entry) (list : List KeyPair) → list ≡ terms_of entry → IsTrue (is_ordered entry) → length list ≤ c.postings.spare → IsRoomOf c entry list
    room entry list v o l = record { values = v; ordered = o; posted = l }

    still : (P : List Node → Type 0) → P nodes → P c.nodes.nodes
    still P p = subst P (sym same.nodes) p

    pub can_change : (body : Body) (change : EntryChange) (us : List Named) → key ≡ key_of (target_of body)
        → apply_over (ground_in s r) body ≡ Ok us → IsChangeOf is.kept.nodes.nodes body change → HasRoom c 1 (values_in change)
        → IsReady c change
    can_change (AddEntry name attributes) (changes.Add n entry list) us at passed is_change has =
        let a : Added (ground_in s r) name attributes us =
        added (ground_in s r) name attributes us (accepted_over (ground_in s r) (AddEntry name attributes) us passed).1 in
        let up : key ≡ parent (key_of n) = at ∙ above_key name ∙ ap (λ (x : Name). parent (key_of x)) (sym is_change.0) in
        record {
          spare = (let l = has.nodes in omega arith);
          room_is = room entry list is_change.2.0 is_change.2.1 has.posted;
          absent = still (λ (ns : List Node). is_there (entries_of ns) (key_of n) ≡ false)
              (not_there (key_of n) (ap (λ (x : Name). is_taken (ground_in s r) (key_of x)) is_change.0 ∙ a.free));
          above = still (λ (ns : List Node). is_there (entries_of ns) (parent (key_of n)) ≡ true)
              (subst (λ (k : Key). is_there (entries_of nodes) k ≡ true) up
              (let w = of_find (λ (e : Named). same_key (key_at e) key) is.node.named (entries_of nodes) (found s r key own id is) in
              any_in (λ (e : Named). same_key (key_at e) key) is.node.named (entries_of nodes) w.0 w.1));
        }
    can_change (RemoveEntry name) (changes.Remove i) us at passed is_change has =
        let a : Removed (ground_in s r) name us =
        removed (ground_in s r) name us (accepted_over (ground_in s r) (RemoveEntry name) us passed).1 in
        let none : above_pin (ground_in s r) key ≡ false = subst (λ (k : Key). above_pin (ground_in s r) k ≡ false) (sym at) a.above in
        let one = one_node is_change.0 name at is_change.2 in
        let id_is : i ≡ id = same_ids i is_change.0 is_change.1 one in
        let leaf : has_below (entries_of nodes) key ≡ false =
        sym (ground_below s r key own id is none) ∙ ap (λ (k : Key). has_below (ground_in s r).entries k) at ∙ a.below in
        record {
          live = still (λ (ns : List Node). is_live ns i ≡ true) (subst (λ (j : NodeId). is_live nodes j ≡ true) (sym id_is) live);
          other = still (λ (ns : List Node). is_first ns i ≡ false) (subst (λ (j : NodeId). is_first nodes j ≡ false) (sym id_is) (not_first none));
          leaf = λ n q. still (λ (ns : List Node). has_below (entries_of ns) (node_key n) ≡ false)
              (subst (λ (k : Key). has_below (entries_of nodes) k ≡ false)
              (sym (ap node_key (node_inside (sym (subst (λ (ns : List Node). node_with ns i ≡ Some n) same.nodes q)
              ∙ is_change.1)) ∙ ap node_key one ∙ its_key)) leaf);
        }
    can_change (ModifyEntry name list) (changes.Replace i entry values) us at passed is_change has =
        let one = one_node is_change.0 name at is_change.2 in
        let id_is : i ≡ id = same_ids i is_change.0 is_change.1 one in
        record {
          live = still (λ (ns : List Node). is_live ns i ≡ true) (subst (λ (j : NodeId). is_live nodes j ≡ true) (sym id_is) live);
          room_is = room entry values is_change.4.0 is_change.4.1 has.posted;
        }
    can_change (ModifyDn name rdn drops) (changes.Rename i new entry values) us at passed is_change has =
        let a : Renamed (ground_in s r) name rdn drops us =
        renamed_so (ground_in s r) name rdn drops us (accepted_over (ground_in s r) (ModifyDn name rdn drops) us passed).1 in
        let none : above_pin (ground_in s r) key ≡ false = subst (λ (k : Key). above_pin (ground_in s r) k ≡ false) (sym at) a.above in
        let one = one_node is_change.0 name at is_change.2 in
        let id_is : i ≡ id = same_ids i is_change.0 is_change.1 one in
        record {
          live = still (λ (ns : List Node). is_live ns i ≡ true) (subst (λ (j : NodeId). is_live nodes j ≡ true) (sym id_is) live);
          other = still (λ (ns : List Node). is_first ns i ≡ false) (subst (λ (j : NodeId). is_first nodes j ≡ false) (sym id_is) (not_first none));
          room_is = room entry values is_change.5.0 is_change.5.1 has.posted;
          free = λ n q. still (λ (ns : List Node). dse.is_taken (entries_of ns) n.named new ≡ false)
              (subst (λ (m : Node). dse.is_taken (entries_of nodes) m.named new ≡ false)
              (sym (node_inside (sym (subst (λ (ns : List Node). node_with ns i ≡ Some n) same.nodes q) ∙ is_change.1) ∙ one))
              (free_name name rdn new (its_key ∙ at) is_change.3 a.free));
        }
    can_change (AddEntry name attributes) (changes.Remove i) us at passed is_change has = absurd is_change
    can_change (AddEntry name attributes) (changes.Replace i entry values) us at passed is_change has = absurd is_change
    can_change (AddEntry name attributes) (changes.Rename i new entry values) us at passed is_change has = absurd is_change
    can_change (RemoveEntry name) (changes.Add n entry list) us at passed is_change has = absurd is_change
    can_change (RemoveEntry name) (changes.Replace i entry values) us at passed is_change has = absurd is_change
    can_change (RemoveEntry name) (changes.Rename i new entry values) us at passed is_change has = absurd is_change
    can_change (ModifyEntry name list) (changes.Add n entry values) us at passed is_change has = absurd is_change
    can_change (ModifyEntry name list) (changes.Remove i) us at passed is_change has = absurd is_change
    can_change (ModifyEntry name list) (changes.Rename i new entry values) us at passed is_change has = absurd is_change
    can_change (ModifyDn name rdn drops) (changes.Add n entry list) us at passed is_change has = absurd is_change
    can_change (ModifyDn name rdn drops) (changes.Remove i) us at passed is_change has = absurd is_change
    can_change (ModifyDn name rdn drops) (changes.Replace i entry values) us at passed is_change has = absurd is_change
    can_change (Read name selection) change us at passed is_change has = absurd is_change
    can_change (Compare name assertion) change us at passed is_change has = absurd is_change
    can_change (ListBelow name) change us at passed is_change has = absurd is_change
    can_change (Search base subset f selection) change us at passed is_change has = absurd is_change
