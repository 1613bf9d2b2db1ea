-- A step that can be done is a change that is ready, once there is room; and the change makes of the entries what the step does.
use Rattle.std.proofs.Common.{◌≡◌, ℕ, zero, suc, ◌+◌, ◌-◌, ◌≤◌, Bool, true, false, not, ◌&&◌, List, [], ◌∷◌, ◌++◌, map, take, drop, length, refl, sym, ap, subst, ◌∙◌, arith, Some, if◌then◌else◌}
use Rattle.std.proofs.lemmas.List.{length-map, length-take}
use Rattle.std.specs.Prelude.{IsTrue}
use Rattle.std.specs.List.{filter}
use Rattle.std.specs.Option.{option_map}
use Rattle.x5_model.specs.Members.{In, Once, here, there}
use Rattle.x5_model.specs.Words.{ascending}
use Rattle.x5_model.specs.Keys.{Key, KeyPair, is_prefix, parent, same_key}
use Rattle.x5_model.specs.Values.{Name, Rdn, key_of, key_of_rdn, last_rdn, name_above}
use Rattle.x5_model.specs.Entries.{Entry, Named}
use Rattle.x5_model.specs.Attributes.{is_ordered}
use Rattle.x5_model.proofs.KeyLaws.{key_decides}
use Rattle.x5_model.proofs.Lists.{both_true, and_true, any_in, in_map, of_find, once_map}
use Rattle.x5_model.proofs.Decide.{once_decides}
use Rattle.x5_model_tree.specs.Tree.{entry_at, has_below, is_there, key_at, keys_of, named_below, sorted_entries}
use Rattle.x5_model_tree.specs.Apply.{replace_at, respelled}
use Rattle.x5_model_tree.proofs.Grown.{above_key}
use Rattle.x5_model_tree.proofs.Order.{entries_once}
use Rattle.x5_model_refreshed.specs.Steps.{Step, Add, Remove, Modify, Rename, moved_along, replayed}
use Rattle.x5_dse.specs.declared.node.NodeId.{NodeId}
use Rattle.x5_dse.specs.Linked.{IsLinked, Node, entries_of, has_id, is_first, is_live, named_of, node_at, node_below, node_key, node_with, prefix_of}
use Rattle.x5_dse.specs.Changes.{Inserted, moved_entry, new_key}
use Rattle.x5_index.specs.Index.{terms_of}
use Rattle.x5_holdings.specs.declared.changing.EntryChange.{EntryChange}
use Rattle.x5_holdings.specs.declared.changing.EntryChange.TheVariants as changes
use Rattle.x5_holdings.specs.Making.{IsMade, IsReady, IsRoomOf}
use Rattle.x5_holdings.specs.Making.{HasRoomFor, room_of}
use Rattle.x5_holdings.specs.State.{Kept}
use Rattle.x5_holdings.proofs.Finding.{find_map}
use Rattle.x5_consume.specs.declared.ready.Ready.{Ready}
use Rattle.x5_consume.specs.declared.ready.Ready.TheVariants as ready
use Rattle.x5_model_refreshed.specs.Doable.{CanDo}
use Rattle.x5_consume.specs.Ready.{IsChangeFor, IsFindable, IsNodeOf, IsReadyFor, IsRoom, room_of as ready_room}
use Rattle.x5_consume.proofs.Adding.{parent_there, same_entry}

-- ---- a step and the change that it is

pub data Makes (nodes : List Node) : Step → List KeyPair → EntryChange → Type 0 where
  adds : {e : Named} {n : Name} {x : Entry} {r room : List KeyPair}
      → n ≡ e.name → x ≡ e.entry → r ≡ room → IsRoom x r → Makes nodes (Add e) room (changes.Add n x r)
  removes : {name : Name} {id : NodeId} → IsNodeOf nodes (key_of name) id → Makes nodes (Remove name) [] (changes.Remove id)
  modifies : {e : Named} {id : NodeId} {x : Entry} {r room : List KeyPair}
      → IsNodeOf nodes (key_at e) id → x ≡ e.entry → r ≡ room → IsRoom x r
      → Makes nodes (Modify e) room (changes.Replace id x r)
  renames : {name : Name} {e : Named} {id : NodeId} {rdn : Rdn} {x : Entry} {r room : List KeyPair}
      → IsNodeOf nodes (key_of name) id → rdn ≡ last_rdn e.name → x ≡ e.entry → r ≡ room → IsRoom x r
      → Makes nodes (Rename name e) room (changes.Rename id rdn x r)

same_room : (a b : Entry) (r room : List KeyPair) → a ≡ b → r ≡ room → IsRoom b room → IsRoom a r
same_room a b r room e f is = (f ∙ is.0 ∙ ap terms_of (sym e), subst (λ (x : Entry). IsTrue (is_ordered x)) (sym e) is.1)

pub makes : (nodes : List Node) (step : Step) (given : Ready) (change : EntryChange)
    → IsReadyFor step given → IsChangeFor nodes given change → Makes nodes step (ready_room given) change
makes nodes (Add e) (ready.Add name entry room) (changes.Add n x r) p q =
    adds (q.0 ∙ p.0) (q.1 ∙ p.1) q.2 (same_room x entry r room q.1 q.2 p.2)
makes nodes (Remove name) (ready.Remove n) (changes.Remove id) p q =
    removes (subst (λ (m : Name). IsNodeOf nodes (key_of m) id) p q)
makes nodes (Modify e) (ready.Modify name entry room) (changes.Replace id x r) p q =
    modifies (subst (λ (m : Name). IsNodeOf nodes (key_of m) id) p.0 q.0) (q.1 ∙ p.1) q.2
    (same_room x entry r room q.1 q.2 p.2)
makes nodes (Rename name e) (ready.Rename n rdn entry room) (changes.Rename id y x r) p q =
    renames (subst (λ (m : Name). IsNodeOf nodes (key_of m) id) p.0 q.0) (q.1 ∙ p.1) (q.2 ∙ p.2) q.3
    (same_room x entry r room q.2 q.3 p.3)
makes nodes (Add e) (ready.Add n entry room) (changes.Remove id) p q = absurd q
makes nodes (Add e) (ready.Add n entry room) (changes.Replace id x r) p q = absurd q
makes nodes (Add e) (ready.Add n entry room) (changes.Rename id y x r) p q = absurd q
makes nodes (Add e) (ready.Remove n) change p q = absurd p
makes nodes (Add e) (ready.Modify n entry room) change p q = absurd p
makes nodes (Add e) (ready.Rename n rdn entry room) change p q = absurd p
makes nodes (Remove name) (ready.Remove n) (changes.Add m x r) p q = absurd q
makes nodes (Remove name) (ready.Remove n) (changes.Replace id x r) p q = absurd q
makes nodes (Remove name) (ready.Remove n) (changes.Rename id y x r) p q = absurd q
makes nodes (Remove name) (ready.Add n entry room) change p q = absurd p
makes nodes (Remove name) (ready.Modify n entry room) change p q = absurd p
makes nodes (Remove name) (ready.Rename n rdn entry room) change p q = absurd p
makes nodes (Modify e) (ready.Modify n entry room) (changes.Add m x r) p q = absurd q
makes nodes (Modify e) (ready.Modify n entry room) (changes.Remove id) p q = absurd q
makes nodes (Modify e) (ready.Modify n entry room) (changes.Rename id y x r) p q = absurd q
makes nodes (Modify e) (ready.Add n entry room) change p q = absurd p
makes nodes (Modify e) (ready.Remove n) change p q = absurd p
makes nodes (Modify e) (ready.Rename n rdn entry room) change p q = absurd p
makes nodes (Rename name e) (ready.Rename n rdn entry room) (changes.Add m x r) p q = absurd q
makes nodes (Rename name e) (ready.Rename n rdn entry room) (changes.Remove id) p q = absurd q
makes nodes (Rename name e) (ready.Rename n rdn entry room) (changes.Replace id x r) p q = absurd q
makes nodes (Rename name e) (ready.Add n entry room) change p q = absurd p
makes nodes (Rename name e) (ready.Remove n) change p q = absurd p
makes nodes (Rename name e) (ready.Modify n entry room) change p q = absurd p

-- a change needs no more room than the step
pub room_is : (nodes : List Node) (step : Step) (room : List KeyPair) (change : EntryChange) → Makes nodes step room change
    → room_of change ≡ room
room_is nodes _ _ _ (adds p q same is) = same
room_is nodes _ _ _ (removes at) = refl
room_is nodes _ _ _ (modifies at q same is) = same
room_is nodes _ _ _ (renames at p q same is) = same

-- the entry that a step changes is there
there_by : (xs : List Named) (key : Key) (old : Named) → entry_at xs key ≡ Some old → is_there xs key ≡ true
there_by xs key old e =
    let w = of_find (λ (f : Named). same_key (key_at f) key) old xs e in
    any_in (λ (f : Named). same_key (key_at f) key) old xs w.0 w.1

pub findable : (pin : Key) (xs : List Named) (step : Step) (given : Ready) → CanDo pin xs step → IsReadyFor step given
    → IsFindable xs given
findable pin xs (Add e) (ready.Add name entry room) can p = tt
findable pin xs (Remove name) (ready.Remove n) can p =
    subst (λ (m : Name). is_there xs (key_of m) ≡ true) (sym p) can.there
findable pin xs (Modify e) (ready.Modify name entry room) can p =
    subst (λ (m : Name). is_there xs (key_of m) ≡ true) (sym p.0) (there_by xs (key_at e) can.old can.there)
findable pin xs (Rename name e) (ready.Rename n rdn entry room) can p =
    subst (λ (m : Name). is_there xs (key_of m) ≡ true) (sym p.0) (there_by xs (key_of name) can.old can.there)
findable pin xs (Add e) (ready.Remove n) can p = absurd p
findable pin xs (Add e) (ready.Modify n entry room) can p = absurd p
findable pin xs (Add e) (ready.Rename n rdn entry room) can p = absurd p
findable pin xs (Remove name) (ready.Add n entry room) can p = absurd p
findable pin xs (Remove name) (ready.Modify n entry room) can p = absurd p
findable pin xs (Remove name) (ready.Rename n rdn entry room) can p = absurd p
findable pin xs (Modify e) (ready.Add n entry room) can p = absurd p
findable pin xs (Modify e) (ready.Remove n) can p = absurd p
findable pin xs (Modify e) (ready.Rename n rdn entry room) can p = absurd p
findable pin xs (Rename name e) (ready.Add n entry room) can p = absurd p
findable pin xs (Rename name e) (ready.Remove n) can p = absurd p
findable pin xs (Rename name e) (ready.Modify n entry room) can p = absurd p

-- ---- nodes

node_inside : {a b : Node} → Some a ≡ Some b → a ≡ b
node_inside e = cc

named_inside : {a b : Named} → Some a ≡ Some b → a ≡ b
named_inside e = cc

live_with : (nodes : List Node) (id : NodeId) (n : Node) → node_with nodes id ≡ Some n → is_live nodes id ≡ true
live_with nodes id n e = (let w = of_find (has_id id) n nodes e in any_in (has_id id) n nodes w.0 w.1)

its_key : (nodes : List Node) (key : Key) (id : NodeId) (at : IsNodeOf nodes key id) → node_key at.node ≡ key
its_key nodes key id at =
    (key_decides (node_key at.node) key).0 (of_find (λ (n : Node). same_key (node_key n) key) at.node nodes at.at).1

entry_by_node : (nodes : List Node) (key : Key) → entry_at (entries_of nodes) key ≡ option_map named_of (node_at nodes key)
entry_by_node nodes key = find_map named_of (λ (e : Named). same_key (key_at e) key) nodes

its_entry : (nodes : List Node) (key : Key) (id : NodeId) (at : IsNodeOf nodes key id) (old : Named)
    → entry_at (entries_of nodes) key ≡ Some old → at.node.named ≡ old
its_entry nodes key id at old e =
    named_inside (ap (option_map named_of) (sym at.at) ∙ sym (entry_by_node nodes key) ∙ e)

not_first : (nodes : List Node) (id : NodeId) (n : Node) → node_with nodes id ≡ Some n
    → same_key (node_key n) (prefix_of nodes) ≡ false → is_first nodes id ≡ false
not_first [] id n e f = refl
not_first (m ∷ rest) id n e f = by (has_id id m) refl
  where
    by : (b : Bool) → has_id id m ≡ b → b ≡ false
    by false h = refl
    by true h =
        absurd (
        let w : node_with (m ∷ rest) id ≡ Some m = ap (λ (b : Bool). if b then Some m else node_with rest id) h in
        let same : n ≡ m = node_inside (sym e ∙ w) in
        let t : same_key (node_key n) (node_key m) ≡ true =
        (key_decides (node_key n) (node_key m)).1 (ap node_key same) in
        let g : same_key (node_key n) (node_key m) ≡ false = f in
        cc)

entries_order : (nodes : List Node) → ascending node_below nodes ≡ true → ascending named_below (entries_of nodes) ≡ true
entries_order [] h = refl
entries_order (n ∷ []) h = refl
entries_order (n ∷ m ∷ ns) h =
    let w = both_true (node_below n m) (ascending node_below (m ∷ ns)) h in
    and_true (named_below n.named m.named) (ascending named_below (entries_of (m ∷ ns))) w.0 (entries_order (m ∷ ns) w.1)

-- ---- names

drop_whole : (n : ℕ) (name : Name) → length name ≤ n → drop n name ≡ []
drop_whole zero [] l = refl
drop_whole (suc n) [] l = refl
drop_whole zero (r ∷ name) l = absurd (omega arith)
drop_whole (suc n) (r ∷ name) l = drop_whole n name (omega arith)

respelled_last : (n : Name) (rdn : Rdn) → respelled (length (name_above n)) rdn n ≡ name_above n ++ rdn ∷ []
respelled_last [] rdn = refl
respelled_last (x ∷ n) rdn =
    let k : length (name_above (x ∷ n)) ≡ length (x ∷ n) - 1 = omega (arith, length-take (length (x ∷ n) - 1) (x ∷ n)) in
    (λ i. take (k i) (x ∷ n) ++ rdn ∷ drop (k i + 1) (x ∷ n))
    ∙ ap (λ (d : Name). take (length (x ∷ n) - 1) (x ∷ n) ++ rdn ∷ d)
    (drop_whole (length (x ∷ n) - 1 + 1) (x ∷ n) (omega arith))

as_long : (a b : Name) → key_of a ≡ key_of b → length (name_above a) ≡ length (name_above b)
as_long a b q =
    sym (length-map (name_above a) key_of_rdn) ∙ ap length (above_key a ∙ ap parent q ∙ sym (above_key b))
    ∙ length-map (name_above b) key_of_rdn

map_same : (f g : Named → Named) (xs : List Named) → ((y : Named) → In y xs → f y ≡ g y) → map f xs ≡ map g xs
map_same f g [] h = refl
map_same f g (x ∷ xs) h = λ i. h x here i ∷ map_same f g xs (λ y j. h y (there j)) i

-- ---- the change

module _ (c : Kept) (linked : IsLinked c.nodes.nodes) where
  abbrev nodes : List Node
  nodes = c.nodes.nodes

  abbrev xs : List Named
  xs = entries_of c.nodes.nodes

  order : ascending named_below xs ≡ true
  order = entries_order nodes linked.in_order

  -- there is room for it
  has_room : (x : Entry) (r room : List KeyPair) → r ≡ room → IsRoom x r → length room ≤ c.postings.spare → IsRoomOf c x r
  has_room x r room same is l = record {
    values = is.0;
    ordered = is.1;
    posted = subst (λ (q : List KeyPair). length q ≤ c.postings.spare) (sym same) l;
  }

  pub can_change : (pin : Key) → prefix_of nodes ≡ pin → (step : Step) (room : List KeyPair) (change : EntryChange)
      → Makes nodes step room change → CanDo pin xs step → HasRoomFor c 1 (length room) 1 → IsReady c change
  can_change pin first _ _ _ (adds {e} {n} {x} {r} {room} name entry same is) = λ can has. record {
    spare = (let l = has.nodes in omega arith);
    room_is = has_room x r room same is has.posted;
    absent = subst (λ (m : Name). is_there xs (key_of m) ≡ false) (sym name) can.absent;
    above = subst (λ (m : Name). is_there xs (parent (key_of m)) ≡ true) (sym name) (parent_there xs e can.below);
  }
  can_change pin first _ _ _ (removes {name} {id} at) = λ can has. record {
    live = live_with nodes id at.node at.there;
    other = not_first nodes id at.node at.there
        ((λ i. same_key (its_key nodes (key_of name) id at i) (first i)) ∙ can.other);
    leaf = λ n q. ap (λ (m : Node). has_below xs (node_key m)) (node_inside (sym q ∙ at.there))
        ∙ ap (has_below xs) (its_key nodes (key_of name) id at) ∙ can.leaf;
  }
  can_change pin first _ _ _ (modifies {e} {id} {x} {r} {room} at entry same is) = λ can has. record {
    live = live_with nodes id at.node at.there;
    room_is = has_room x r room same is has.posted;
  }
  can_change pin first _ _ _ (renames {name} {e} {id} {rdn} {x} {r} {room} at last entry same is) = λ can has. record {
    live = live_with nodes id at.node at.there;
    other = not_first nodes id at.node at.there
        ((λ i. same_key (its_key nodes (key_of name) id at i) (first i)) ∙ can.other);
    room_is = has_room x r room same is has.posted;
    free = λ n q.
        let one : n ≡ at.node = node_inside (sym q ∙ at.there) in
        let old : at.node.named ≡ can.old = its_entry nodes (key_of name) id at can.old can.there in
        let named : n.named ≡ can.old = ap named_of one ∙ old in
        let new : new_key n.named rdn ≡ key_at e =
        (λ i. key_of (name_above (named i).name ++ last i ∷ [])) ∙ ap key_of (sym can.spelled) in
        let was : key_at n.named ≡ key_of name = ap node_key one ∙ its_key nodes (key_of name) id at in
        (λ i. not (same_key (new i) (was i)) && is_there xs (new i)) ∙ can.free;
  }

  once : Once (keys_of xs)
  once = (once_decides same_key key_decides (keys_of xs)).0 (entries_once xs order)

  -- an entry after it
  moved_so : (name : Name) (e : Named) (id : NodeId) (at : IsNodeOf nodes (key_of name) id) (old : Named)
      → at.node.named ≡ old → e.name ≡ name_above old.name ++ last_rdn e.name ∷ []
      → (y : Named) → In y xs → moved_entry at.node.named (last_rdn e.name) e.entry y ≡ moved_along name e y
  moved_so name e id at old is spelled y j =
      (λ i. if same_key (key_at y) (k i) then record { name = respelled (long i) (last_rdn e.name) y.name; entry = e.entry }
      else (if is_prefix (k i) (key_at y) then record y { name = respelled (long i) (last_rdn e.name) y.name } else y))
      ∙ by (same_key (key_at y) (key_of name)) refl
    where
      k : key_at at.node.named ≡ key_of name
      k = its_key nodes (key_of name) id at

      long : length (name_above at.node.named.name) ≡ length (name_above name)
      long = as_long at.node.named.name name k

      rest : Named
      rest = if is_prefix (key_of name) (key_at y)
          then record y { name = respelled (length (name_above name)) (last_rdn e.name) y.name } else y

      by : (b : Bool) → same_key (key_at y) (key_of name) ≡ b
          → (if b then record { name = respelled (length (name_above name)) (last_rdn e.name) y.name; entry = e.entry } else rest)
          ≡ (if b then e else rest)
      by false s = refl
      by true s =
          let n = of_find (λ (m : Node). same_key (node_key m) (key_of name)) at.node nodes at.at in
          let one : y ≡ old =
          once_map key_at xs y at.node.named once j (in_map named_of at.node nodes n.0)
          ((key_decides (key_at y) (key_of name)).0 s ∙ sym k) ∙ is in
          let name_is : respelled (length (name_above name)) (last_rdn e.name) y.name ≡ e.name =
          (λ i. respelled (sym long i) (last_rdn e.name) (one i).name)
          ∙ (λ i. respelled (length (name_above (is i).name)) (last_rdn e.name) old.name)
          ∙ respelled_last old.name (last_rdn e.name) ∙ sym spelled in
          λ i. record { name = name_is i; entry = e.entry }

  pub made : (pin : Key) (step : Step) (room : List KeyPair) (change : EntryChange) → Makes nodes step room change
      → CanDo pin xs step → (d : Kept) → IsMade c change d → entries_of d.nodes.nodes ≡ replayed step xs
  made pin _ _ _ (adds {e} {n} {x} {r} {room} name entry same is) = λ can d w.
      same_entry c.nodes e w.0 d.nodes order can.below
      (subst (λ (f : Named). Inserted c.nodes f.name f.entry w.0 d.nodes)
      (λ i. record { name = name i; entry = entry i }) w.1)
  made pin _ _ _ (removes {name} {id} at) = λ can d w.
      let one : w.1.node ≡ at.node = node_inside (sym w.1.there ∙ at.there) in
      w.1.entries
      ∙ ap (λ (key : Key). filter (λ e. not (same_key (key_at e) key)) xs) (ap node_key one ∙ its_key nodes (key_of name) id at)
  made pin _ _ _ (modifies {e} {id} {x} {r} {room} at entry same is) = λ can d w.
      let one : w.1.node ≡ at.node = node_inside (sym w.1.there ∙ at.there) in
      let old : at.node.named ≡ can.old = its_entry nodes (key_at e) id at can.old can.there in
      let name : w.1.node.named.name ≡ e.name = ap (λ (m : Node). m.named.name) one ∙ ap (λ (f : Named). f.name) old ∙ sym can.spelled in
      let key : node_key w.1.node ≡ key_at e = ap node_key one ∙ its_key nodes (key_at e) id at in
      w.1.entries ∙ (λ i. replace_at (key i) (record { name = name i; entry = entry i }) xs)
  made pin _ _ _ (renames {name} {e} {id} {rdn} {x} {r} {room} at last entry same is) = λ can d w.
      let one : w.node ≡ at.node = node_inside (sym w.there ∙ at.there) in
      let old : at.node.named ≡ can.old = its_entry nodes (key_of name) id at can.old can.there in
      w.entries ∙ (λ i. sorted_entries (map (moved_entry (one i).named (last i) (entry i)) xs))
      ∙ ap sorted_entries
      (map_same (moved_entry at.node.named (last_rdn e.name) e.entry) (moved_along name e) xs
      (moved_so name e id at can.old old can.spelled))
