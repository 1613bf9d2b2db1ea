-- What the agent's ground allows, the target's context by itself allows too, and what comes of it are the context's entries as
-- the update makes them.
use Rattle.std.proofs.Common.{◌≡◌, ℕ, zero, suc, ◌+◌, ◌<◌, ◌≤◌, Bool, true, false, not, ◌&&◌, ◌⊎◌, inl, inr, ◌++◌, ◌∷◌, [], List, map, length, refl, sym, ap, subst, ◌∙◌, arith, Some, Ok}
use Rattle.std.specs.List.{filter, list_any}
use Rattle.std.proofs.lemmas.List.{length-append}
use Rattle.x5_model.specs.Words.{ascending, has}
use Rattle.x5_model.specs.Members.{In}
use Rattle.x5_model.specs.Keys.{Key, IsPrefix, parent, same_key}
use Rattle.x5_model.specs.Values.{Name, Rdn, key_of, key_of_rdn, last_rdn}
use Rattle.x5_model.specs.Entries.{Entry, Named}
use Rattle.x5_model.specs.Changes.{modified, renamed, single_valued}
use Rattle.x5_model.specs.Requests.{Attribute, Change, Body, AddEntry, RemoveEntry, ModifyEntry, ModifyDn}
use Rattle.x5_model.proofs.KeyLaws.{key_decides}
use Rattle.x5_model.proofs.Lists.{true_or_false, in_map, of_map, in_flat, in_filter, of_filter, or_left}
use Rattle.x5_model.proofs.Ascending.{filter_ascending}
use Rattle.x5_model.proofs.Prefixes.{prefix_itself, prefix_length, prefix_of_parent, parent_length, same_by_length}
use Rattle.x5_model_tree.specs.Tree.{key_at, keys_of, named_below, entry_at, is_there, has_below, sorted_entries}
use Rattle.x5_model_tree.specs.Apply.{Ground, above_pin, is_taken, replace_at, add, remove, modify, rename, update}
use Rattle.x5_model_tree.proofs.Longest.{entry_is}
use Rattle.x5_model_tree.proofs.Order.{named_chain}
use Rattle.x5_model_theory.specs.Changing.{moved}
use Rattle.x5_model_theory.proofs.Deciding.{dec_nat}
use Rattle.x5_model_theory.proofs.Stages.{key_length}
use Rattle.x5_model_run.specs.Holdings.{Held}
use Rattle.x5_model_updates.specs.Afterwards.{new_entry, new_key}
use Rattle.x5_model_updates.proofs.Alike.{new_key_is}
use Rattle.x5_model_updates.proofs.Divided.{moved_apart_keys}
use Rattle.x5_model_updates.proofs.Grounds.{Taken, taken_decides, has_below_decides, above_decides}
use Rattle.x5_model_updates.proofs.Listed.{add_listed, remove_listed, modify_listed, rename_listed}
use Rattle.x5_model_updates.proofs.Lookups.{one_each, entry_found}
use Rattle.x5_model_updates.proofs.Outcomes.{add_free, remove_some, modify_some, rename_some, moved_entry, clashes, Added, added, Removed, removed, Renamed, renamed_so}
use Rattle.x5_model_updates.proofs.Own.{counted_in, held_ground}
use Rattle.x5_model_updates.proofs.Renaming.{new_entry_key}
use Rattle.x5_update.proofs.Grounds.{Seat, counts, taken_is, same_entry, any_decides_has}
use Rattle.x5_update.proofs.Joining.{counted, others, together, add_parts, remove_parts, modify_parts, rename_parts, at_key}

-- the entries of a naming context: in order, each below the prefix, and of each but the prefix's the one above it is there
pub record IsContext (c : Held) : Type 0 where
  pub order : ascending named_below c.entries ≡ true
  pub closed : (x : Named) → In x c.entries → (key_at x ≡ key_of c.prefix) ⊎ In (parent (key_at x)) (keys_of c.entries)

module _ (c : Held) (is : IsContext c) where
  -- what stands on the way from the prefix to an entry is there
  pub way_up : (n : Key) → length (key_of c.prefix) < length n → (m : ℕ) (x : Named) → length (key_at x) ≤ m → In x c.entries
      → IsPrefix n (key_at x) → In n (keys_of c.entries)
  way_up n low zero x le i p = absurd (let b : length n ≤ length (key_at x) = prefix_length n (key_at x) p in omega arith)
  way_up n low (suc m) x le i p =
      let b : length n ≤ length (key_at x) = prefix_length n (key_at x) p in
      elim (dec_nat (length n) (length (key_at x))) [
        | inl level ↦ subst (λ (k : Key). In k (keys_of c.entries))
            (sym (same_by_length n (key_at x) (key_at x) p (prefix_itself (key_at x)) level)) (in_map key_at x c.entries i)
        | inr other ↦ elim (is.closed x i) [
          | inl s ↦ absurd (let a : length (key_at x) ≡ length (key_of c.prefix) = ap length s in omega arith)
          | inr j ↦
              let l : length n < length (key_at x) = omega (arith, other) in
              let y = of_map key_at (parent (key_at x)) c.entries j in
              let short : length (parent (key_at x)) + 1 ≡ length (key_at x) = parent_length (key_at x) (omega arith) in
              let same : length (key_at y.0) ≡ length (parent (key_at x)) = ap length (sym y.2) in
              way_up n low m y.0 (omega arith) y.1
              (subst (λ (k : Key). IsPrefix n k) y.2 (prefix_of_parent n (key_at x) p l))
        ]
      ]

pub new_key_length : (name : Name) (rdn : Rdn) → 0 < length name → length (new_key name rdn) ≡ length (key_of name)
new_key_length name rdn full =
    let a : length (new_key name rdn) ≡ length (parent (key_of name) ++ key_of_rdn rdn ∷ []) = ap length (new_key_is name rdn) in
    let b : length (key_of name) ≡ length name = key_length name in
    let d : length (parent (key_of name)) + 1 ≡ length (key_of name) = parent_length (key_of name) (omega arith) in
    omega (arith, length-append (parent (key_of name)) (key_of_rdn rdn ∷ []))

-- the ground of the context by itself
abbrev pub alone : List Key → List Held → Held → Ground
alone pins own c = record (held_ground pins own) { entries = counted pins c }

-- what the update makes of the context by itself, with the entries that don't count put back
pub record Makes (pins : List Key) (own : List Held) (c : Held) (body : Body) (after : List Named) : Type 0 where
  pub made : List Named
  pub gives : update (alone pins own c) body ≡ Ok made
  pub all : sorted_entries (made ++ others pins c) ≡ after

module _ (pins : List Key) (own : List Held) (c : Held) (key : Key) (seat : Seat pins own c key) (is : IsContext c)
    (e : Named) (found : entry_at c.entries key ≡ Some e) where
  abbrev G : Ground
  G = held_ground pins own

  there : In e c.entries × (key_at e ≡ key)
  there = entry_found c.entries key e found

  in_counted : In e (counted pins c)
  in_counted = in_filter (counts pins c) e c.entries there.0 (at_key pins own c key seat e there.1)

  order : ascending named_below (counted pins c) ≡ true
  order = filter_ascending named_below named_chain (counts pins c) c.entries is.order

  found_alone : entry_at (counted pins c) key ≡ Some e
  found_alone = entry_is (counted pins c) key e (one_each (counted pins c) order) in_counted there.1

  one : (f : Named) → entry_at (held_ground pins own).entries key ≡ Some f → f ≡ e
  one f q = (let s : Some f ≡ Some e = sym q ∙ same_entry pins own c key seat e found in inside s)
    where
      inside : {x y : Named} → Some x ≡ Some y → x ≡ y
      inside s = cc

  within : (x : Named) → In x (counted pins c) → In x c.entries
  within x i = (of_filter (counts pins c) x c.entries i).0

  free_here : (n : Key) → is_taken (held_ground pins own) n ≡ false → In n (keys_of c.entries) → ⊥
  free_here n f i =
      let a : list_any (λ (d : Held). is_there d.entries n) own ≡ true = (any_decides_has pins own n).1 (c, seat.mine, i) in
      let t : is_taken (held_ground pins own) n ≡ true =
      taken_is pins own n ∙ or_left (list_any (λ (d : Held). is_there d.entries n) own) (has same_key pins n) a in
      cc

  free_alone : (n : Key) → is_taken (held_ground pins own) n ≡ false → is_taken (alone pins own c) n ≡ false
  free_alone n f =
      elim (true_or_false (is_taken (alone pins own c) n)) [
        | inr g ↦ g
        | inl t ↦ absurd (
            let w : is_taken (held_ground pins own) n ≡ true = up ((taken_decides (alone pins own c) n).0 t) in
            cc)
      ]
    where
      up : Taken (alone pins own c) n → is_taken (held_ground pins own) n ≡ true
      up (inr i) = (taken_decides (held_ground pins own) n).1 (inr i)
      up (inl i) =
          let x = of_map key_at n (counted pins c) i in
          absurd (free_here n f (subst (λ (k : Key). In k (keys_of c.entries)) (sym x.2) (in_map key_at x.0 c.entries (within x.0 x.1))))

  pub adds : (name : Name) (attributes : List Attribute) (us : List Named) → 0 < length name → key ≡ parent (key_of name)
      → add (held_ground pins own) name attributes ≡ Ok us
      → Makes pins own c (AddEntry name attributes) (sorted_entries (c.entries ++ new_entry e name attributes ∷ []))
  adds name attributes us full at h =
      let a : Added (held_ground pins own) name attributes us = added (held_ground pins own) name attributes us h in
      let same : key_at e ≡ parent (key_of name) = there.1 ∙ at in
      let here : entry_at (counted pins c) (parent (key_of name)) ≡ Some e =
      subst (λ (k : Key). entry_at (counted pins c) k ≡ Some e) at found_alone in
      let named = new_entry_key e name attributes full same in
      let fresh : In (key_of name) (keys_of c.entries) → ⊥ = free_here (key_of name) a.free in
      let fresh_in : In (key_of name) (keys_of (counted pins c)) → ⊥ = (λ i. let x = of_map key_at (key_of name) (counted pins c) i in
      fresh (subst (λ (k : Key). In k (keys_of c.entries)) (sym x.2) (in_map key_at x.0 c.entries (within x.0 x.1)))) in
      record {
        made = sorted_entries (counted pins c ++ new_entry e name attributes ∷ []);
        gives = add_free (alone pins own c) name attributes e here (free_alone (key_of name) a.free);
        all = together pins own c key seat (AddEntry name attributes)
            (sorted_entries (counted pins c ++ new_entry e name attributes ∷ []))
            (sorted_entries (c.entries ++ new_entry e name attributes ∷ [])) is.order
            (add_parts pins own c key seat name attributes full at fresh)
            (add_listed (counted pins c) name attributes e order in_counted same named fresh_in)
            (add_listed c.entries name attributes e is.order there.0 same named fresh);
      }

  pub removes : (name : Name) (us : List Named) → key ≡ key_of name → remove (held_ground pins own) name ≡ Ok us
      → Makes pins own c (RemoveEntry name) (filter (λ x. not (same_key (key_at x) (key_of name))) c.entries)
  removes name us at h =
      let a : Removed (held_ground pins own) name us = removed (held_ground pins own) name us h in
      let here : entry_at (counted pins c) (key_of name) ≡ Some e =
      subst (λ (k : Key). entry_at (counted pins c) k ≡ Some e) at found_alone in
      record {
        made = filter (λ x. not (same_key (key_at x) (key_of name))) (counted pins c);
        gives = remove_some (alone pins own c) name e false false here a.above (leaf a.below);
        all = together pins own c key seat (RemoveEntry name)
            (filter (λ x. not (same_key (key_at x) (key_of name))) (counted pins c))
            (filter (λ x. not (same_key (key_at x) (key_of name))) c.entries) is.order
            (remove_parts pins own c key seat name at)
            (remove_listed (counted pins c) name order) (remove_listed c.entries name is.order);
      }
    where
      in_ground : (x : Named) → In x (counted pins c) → In x (held_ground pins own).entries
      in_ground x i = in_flat (counted_in pins) x c own seat.mine i

      leaf : has_below (held_ground pins own).entries (key_of name) ≡ false → has_below (counted pins c) (key_of name) ≡ false
      leaf f =
          elim (true_or_false (has_below (counted pins c) (key_of name))) [
            | inr g ↦ g
            | inl t ↦ absurd (
                let w = (has_below_decides (counted pins c) (key_of name)).0 t in
                let u : has_below (held_ground pins own).entries (key_of name) ≡ true =
                (has_below_decides (held_ground pins own).entries (key_of name)).1 (w.0, in_ground w.0 w.1, w.2) in
                cc)
          ]

  pub modifies : (name : Name) (changes : List Change) (us : List Named) (new : Entry) → key ≡ key_of name
      → modified (last_rdn name) changes e.entry ≡ Ok new → modify (held_ground pins own) name changes ≡ Ok us
      → Makes pins own c (ModifyEntry name changes) (replace_at (key_of name) (record e { entry = new }) c.entries)
  modifies name changes us new at done h =
      let same : key_at e ≡ key_of name = there.1 ∙ at in
      let here : entry_at (counted pins c) (key_of name) ≡ Some e =
      subst (λ (k : Key). entry_at (counted pins c) k ≡ Some e) at found_alone in
      record {
        made = replace_at (key_of name) (record e { entry = new }) (counted pins c);
        gives = modify_some (alone pins own c) name changes e (Ok new) here done;
        all = together pins own c key seat (ModifyEntry name changes)
            (replace_at (key_of name) (record e { entry = new }) (counted pins c))
            (replace_at (key_of name) (record e { entry = new }) c.entries) is.order
            (modify_parts pins own c key seat name changes at)
            (modify_listed (counted pins c) name changes e new order in_counted same done)
            (modify_listed c.entries name changes e new is.order there.0 same done);
      }

  pub renames : (name : Name) (rdn : Rdn) (drops : Bool) (us : List Named) → 0 < length name → key ≡ key_of name
      → rename (held_ground pins own) name rdn drops ≡ Ok us
      → Makes pins own c (ModifyDn name rdn drops)
      (sorted_entries (map (moved_entry name rdn (renamed (last_rdn name) rdn drops e.entry)) c.entries))
  renames name rdn drops us full at h =
      let a : Renamed (held_ground pins own) name rdn drops us = renamed_so (held_ground pins own) name rdn drops us h in
      let same : key_at e ≡ key_of name = there.1 ∙ at in
      let it : a.at ≡ e = one a.at (subst (λ (k : Key). entry_at (held_ground pins own).entries k ≡ Some a.at) (sym at) a.there) in
      let here : entry_at (counted pins c) (key_of name) ≡ Some e =
      subst (λ (k : Key). entry_at (counted pins c) k ≡ Some e) at found_alone in
      let single : single_valued (renamed (last_rdn name) rdn drops e.entry) ≡ Ok (renamed (last_rdn name) rdn drops e.entry) =
      subst (λ (x : Named). single_valued (renamed (last_rdn name) rdn drops x.entry) ≡ Ok (renamed (last_rdn name) rdn drops x.entry)) it a.single in
      let none : above_pin (held_ground pins own) key ≡ false =
      subst (λ (k : Key). above_pin (held_ground pins own) k ≡ false) (sym at) a.above in
      let apart = apart_keys name rdn full at none a.free in
      record {
        made = sorted_entries (map (moved_entry name rdn (renamed (last_rdn name) rdn drops e.entry)) (counted pins c));
        gives = rename_some (alone pins own c) name rdn drops e false (Ok (renamed (last_rdn name) rdn drops e.entry)) false here
            a.above single (clash name rdn a.free);
        all = together pins own c key seat (ModifyDn name rdn drops)
            (sorted_entries (map (moved_entry name rdn (renamed (last_rdn name) rdn drops e.entry)) (counted pins c)))
            (sorted_entries (map (moved_entry name rdn (renamed (last_rdn name) rdn drops e.entry)) c.entries)) is.order
            (rename_parts pins own c key seat name rdn drops full at none apart)
            (rename_listed (counted pins c) name rdn drops e order full in_counted same
            (λ x y i j. apart x y (within x i) (within y j)))
            (rename_listed c.entries name rdn drops e is.order full there.0 same apart);
      }
    where
      clash : (name : Name) (rdn : Rdn) → clashes (held_ground pins own) name rdn ≡ false → clashes (alone pins own c) name rdn ≡ false
      clash name rdn f = by (same_key (new_key name rdn) (key_of name)) f
        where
          by : (b : Bool) → (not b && is_taken (held_ground pins own) (new_key name rdn)) ≡ false
              → (not b && is_taken (alone pins own c) (new_key name rdn)) ≡ false
          by true g = refl
          by false g = free_alone (new_key name rdn) g

      apart_keys : (name : Name) (rdn : Rdn) → 0 < length name → key ≡ key_of name → above_pin (held_ground pins own) key ≡ false
          → clashes (held_ground pins own) name rdn ≡ false
          → (x y : Named) → In x c.entries → In y c.entries
          → moved (key_of name) (new_key name rdn) (key_at x) ≡ moved (key_of name) (new_key name rdn) (key_at y) → key_at x ≡ key_at y
      apart_keys name rdn full at none f x y i j q =
          by (same_key (new_key name rdn) (key_of name)) refl f
        where
          low : length (key_of c.prefix) < length (new_key name rdn)
          low =
              let le : length (key_of c.prefix) ≤ length key = prefix_length (key_of c.prefix) key seat.long.1.0 in
              let other : length (key_of c.prefix) ≡ length key → ⊥ = (λ s.
              let p : key_of c.prefix ≡ key = same_by_length (key_of c.prefix) key key seat.long.1.0 (prefix_itself key) s in
              let t : above_pin (held_ground pins own) key ≡ true = (above_decides (held_ground pins own) key).1
              (inl (key_of c.prefix, seat.long.0, subst (λ (k : Key). IsPrefix key k) (sym p) (prefix_itself key))) in
              cc) in
              let s : length key ≡ length (key_of name) = ap length at in
              let n : length (new_key name rdn) ≡ length (key_of name) = new_key_length name rdn full in
              omega (arith, other)

          by : (b : Bool) → same_key (new_key name rdn) (key_of name) ≡ b
              → (not b && is_taken (held_ground pins own) (new_key name rdn)) ≡ false → key_at x ≡ key_at y
          by true s g =
              moved_apart_keys (key_of name) (new_key name rdn) (key_at x) (key_at y)
              (inl ((key_decides (new_key name rdn) (key_of name)).0 s)) q
          by false s g =
              moved_apart_keys (key_of name) (new_key name rdn) (key_at x) (key_at y)
              (inr (
                λ p. free_here (new_key name rdn) g (way_up c is (new_key name rdn) low (length (key_at x)) x (omega arith) i p),
                λ p. free_here (new_key name rdn) g (way_up c is (new_key name rdn) low (length (key_at y)) y (omega arith) j p),
              )) q
