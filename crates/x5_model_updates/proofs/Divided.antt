-- What an accepted update makes of the tree, and of the part of each context.
use Rattle.std.proofs.Common.{◌≡◌, ◌≢◌, ◌<◌, ◌≤◌, Bool, true, false, not, ◌⊎◌, inl, inr, List, [], ◌∷◌, ◌++◌, map, length, take, drop, sym, ap, subst, ◌∙◌, arith, Some, Ok}
use Rattle.std.proofs.lemmas.List.{take-append-drop}
use Rattle.std.proofs.Math.Seq.{take-append_seam, drop-append_seam}
use Rattle.x5_model.specs.Words.{ascending}
use Rattle.x5_model.specs.Members.{In}
use Rattle.x5_model.specs.Keys.{Key, IsPrefix, parent, same_key}
use Rattle.x5_model.specs.Values.{Rdn, Name, key_of, last_rdn}
use Rattle.x5_model.specs.Entries.{Named}
use Rattle.x5_model.specs.Changes.{renamed}
use Rattle.x5_model.specs.Requests.{Attribute, Change, Body, AddEntry, RemoveEntry, ModifyEntry, ModifyDn}
use Rattle.x5_model.proofs.KeyLaws.{key_decides}
use Rattle.x5_model.proofs.Lists.{true_or_false, in_map, of_map, both_true, and_true}
use Rattle.x5_model.proofs.Prefixes.{prefix_itself, prefix_chain, prefix_by_length, same_by_length, parent_is_prefix, prefix_of_parent}
use Rattle.x5_model.proofs.Ascending.{filter_ascending}
use Rattle.x5_model_tree.specs.Tree.{Tree, key_at, keys_of, named_below, sorted_entries, entry_at, has_below, belongs, part}
use Rattle.x5_model_tree.specs.Apply.{Ground, ground_of, above_pin, is_taken, replace_at, update}
use Rattle.x5_model_tree.proofs.Order.{named_chain}
use Rattle.x5_model_tree.proofs.Longest.{IsLongest, longest_is, entry_is}
use Rattle.x5_model_theory.specs.Knowledge.{Knowledge, Area, IsEntry}
use Rattle.x5_model_theory.specs.Coherent.{Coherent}
use Rattle.x5_model_theory.specs.Changing.{moved}
use Rattle.x5_model_theory.proofs.Cohering.{one_master}
use Rattle.x5_model_theory.proofs.Deciding.{dec_key}
use Rattle.x5_model_updates.specs.Standing.{IsTreeOf}
use Rattle.x5_model_updates.specs.Afterwards.{IsEntryAfter, only_part, new_entry, new_key, name_after}
use Rattle.x5_model_updates.proofs.Lookups.{OneEach, one_each, entry_found}
use Rattle.x5_model_updates.proofs.Outcomes.{Added, added, Removed, removed, Modified, changed_so, Renamed, renamed_so, add_free, remove_some, modify_some, rename_some, clashes, moved_entry}
use Rattle.x5_model_updates.proofs.Trees.{entry_filled, above_entry, pin_there, area_of_pin, of_part, in_part, entry_in_area, area_of_entry, tree_filled, part_of_key, longest_own}
use Rattle.x5_model_updates.proofs.Grounds.{above_decides, Taken, taken_decides, has_below_decides}
use Rattle.x5_model_updates.proofs.Alike.{new_key_parent, new_key_filled}
use Rattle.x5_model_updates.proofs.Renaming.{filled_name, filled_key, new_entry_key, name_after_key, moved_goes, moved_stays}
use Rattle.x5_model_updates.proofs.Listed.{Gives, KeyFacts, add_listed, remove_listed, modify_listed, rename_listed}

-- ---- keys

-- a key with a prefix is the prefix and what is behind it
pub behind : (e x : Key) → IsPrefix e x → e ++ drop (length e) x ≡ x
behind e x p = ap (λ (y : Key). y ++ drop (length e) x) (sym p) ∙ take-append-drop (length e) x

pub front_prefix : (n x : Key) → IsPrefix n (n ++ x)
front_prefix n x = take-append_seam n x

-- no two keys become one, where nothing is at or below the new name, or it is the old one
pub moved_apart_keys : (e n x y : Key) → ((n ≡ e) ⊎ ((IsPrefix n x → ⊥) × (IsPrefix n y → ⊥))) → moved e n x ≡ moved e n y → x ≡ y
moved_apart_keys e n x y free q =
    elim (dec_below x) [
      | inl a ↦ elim (dec_below y) [
        | inl b ↦ sym (behind e x a) ∙ ap (λ (z : Key). e ++ z) (rest a b) ∙ behind e y b
        | inr b ↦ absurd (crossed x y free (sym (moved_goes e n x a) ∙ q ∙ moved_stays e n y b) b)
      ]
      | inr a ↦ elim (dec_below y) [
        | inl b ↦ absurd (crossed y x (elim free [ inl s ↦ inl s | inr f ↦ inr (f.1, f.0) ]) (sym (moved_goes e n y b) ∙ sym q ∙ moved_stays e n x a) a)
        | inr b ↦ sym (moved_stays e n x a) ∙ q ∙ moved_stays e n y b
      ]
    ]
  where
    dec_below : (z : Key) → IsPrefix e z ⊎ (IsPrefix e z → ⊥)
    dec_below z = dec_key (take (length e) z) e

    rest : IsPrefix e x → IsPrefix e y → drop (length e) x ≡ drop (length e) y
    rest a b = sym (drop-append_seam n (drop (length e) x)) ∙ ap (drop (length n)) (sym (moved_goes e n x a) ∙ q ∙ moved_goes e n y b) ∙ drop-append_seam n (drop (length e) y)

    crossed : (u v : Key) → ((n ≡ e) ⊎ ((IsPrefix n u → ⊥) × (IsPrefix n v → ⊥))) → n ++ drop (length e) u ≡ v → (IsPrefix e v → ⊥) → ⊥
    crossed u v (inl s) h none = none (subst (λ (z : Key). IsPrefix e z) h (subst (λ (z : Key). IsPrefix e (z ++ drop (length e) u)) (sym s) (front_prefix e (drop (length e) u))))
    crossed u v (inr f) h none = f.1 (subst (λ (z : Key). IsPrefix n z) h (front_prefix n (drop (length e) u)))

-- ---- what an update by one ground gives, in a tree and in a part of it

-- the list that it gives has, of a list of entries before, exactly the entries afterwards
pub record Made (t : Tree) (pin : Key) (body : Body) (us : List Named) : Type 0 where
  pub gives : Gives t.entries body us
  pub alone : List Named
  pub alone_made : update (ground_of (only_part t pin)) body ≡ Ok alone
  pub alone_gives : Gives (part t pin) body alone
  pub inner : (e : Named) → IsEntryAfter t.entries body e → IsLongest t.pins (key_at e) (Some pin) → IsEntryAfter (part t pin) body e
  pub outer : (e : Named) → IsEntryAfter (part t pin) body e → IsEntryAfter t.entries body e × IsLongest t.pins (key_at e) (Some pin)
  pub facts : KeyFacts t.entries body
  pub alone_facts : KeyFacts (part t pin) body
  pub covered : (es : List Named) → ((x : Named) → In x es → In x t.entries) → (e : Named) → IsEntryAfter es body e → In e es ⊎ IsLongest t.pins (key_at e) (Some pin)
  pub others : (es : List Named) → ((x : Named) → In x es → In x t.entries) → (e : Named) (q : Key) → q ≢ pin → IsLongest t.pins (key_at e) (Some q) → In e es → IsEntryAfter es body e

pub one_pin : (ps : List Key) (x p q : Key) → IsLongest ps x (Some p) → IsLongest ps x (Some q) → p ≡ q
one_pin ps x p q a b = inside p q (sym (longest_is ps x p a) ∙ longest_is ps x q b)
  where
    inside : (y z : Key) → Some y ≡ Some z → y ≡ z
    inside y z e = cc

module _ (k : Knowledge) (t : Tree) (good : Coherent k) (is : IsTreeOf k t) where
  abbrev T : Ground
  T = ground_of t

  abbrev L : Named → Key → Type 0
  L e q = IsLongest t.pins (key_at e) (Some q)

  part_in_order : (pin : Key) → ascending named_below (part t pin) ≡ true
  part_in_order pin = filter_ascending named_below named_chain (λ (e : Named). belongs t.pins pin (key_at e)) t.entries is.in_order

  part_one_each : (pin : Key) → OneEach (part t pin)
  part_one_each pin = one_each (part t pin) (part_in_order pin)

  part_finds : (c : Area) (e : Named) (x : Key) → In c k.areas → In e t.entries → key_at e ≡ x → In x c.entries → entry_at (part t c.prefix) x ≡ Some e
  part_finds c e x i j s own =
      entry_is (part t c.prefix) x e (part_one_each c.prefix) (part_of_key k t good is c e i j (subst (λ (y : Key). In y c.entries) (sym s) own)) s

  -- what isn't taken in the tree isn't in a part
  still_free : (pin x : Key) → is_taken (ground_of t) x ≡ false → is_taken (ground_of (only_part t pin)) x ≡ false
  still_free pin x h =
      elim (true_or_false (is_taken (ground_of (only_part t pin)) x)) [
        | inr f ↦ f
        | inl y ↦ absurd (
            let w : is_taken (ground_of t) x ≡ true = (taken_decides (ground_of t) x).1 (up ((taken_decides (ground_of (only_part t pin)) x).0 y)) in
            let f : true ≡ false = sym w ∙ h in
            cc)
      ]
    where
      up : Taken (ground_of (only_part t pin)) x → Taken (ground_of t) x
      up (inl j) = inl (let e = of_map key_at x (part t pin) j in subst (λ (y : Key). In y (keys_of t.entries)) (sym e.2) (in_map key_at e.0 t.entries (of_part k t good is pin e.0 e.1).0))
      up (inr j) = inr j

  -- a name that isn't taken is no entry and no pin
  fresh : (x : Key) → is_taken (ground_of t) x ≡ false → In x (keys_of t.entries) → ⊥
  fresh x h i = (let w : is_taken (ground_of t) x ≡ true = (taken_decides (ground_of t) x).1 (inl i) in let f : true ≡ false = sym w ∙ h in cc)

  pub not_entry : (x : Key) → is_taken (ground_of t) x ≡ false → IsEntry k x → ⊥
  not_entry x h w = (let e = entry_in_area k t good is w.0 x w.1 w.2 in fresh x h (subst (λ (y : Key). In y (keys_of t.entries)) e.2 (in_map key_at e.0 t.entries (of_part k t good is w.0.prefix e.0 e.1).0)))

  -- a new name just below an entry of a context, and all names below it, belong to the context
  new_longest : (c : Area) (n x : Key) → In c k.areas → In (parent n) c.entries → 0 < length n → ((d : Area) → In d k.areas → IsPrefix n d.prefix → ⊥) → IsPrefix n x → IsLongest t.pins x (Some c.prefix)
  new_longest c n x i up full none on =
      let cn : IsPrefix c.prefix n = prefix_chain c.prefix (parent n) n (good.below c (parent n) i up) (parent_is_prefix n) in (
        pin_there k t good is c i,
        (
          prefix_chain c.prefix n x cn on,
          λ q j u.
              let d = area_of_pin k t good is q j in
              let du : IsPrefix d.0.prefix x = subst (λ (y : Key). IsPrefix y x) d.2 u in
              let s : length q ≡ length d.0.prefix = ap length d.2 in
              let short : length n ≤ length d.0.prefix → ⊥ = (λ l. none d.0 d.1 (prefix_by_length n d.0.prefix x on du l)) in
              let dn : IsPrefix d.0.prefix n = prefix_by_length d.0.prefix n x du on (omega (arith, short)) in
              let l : length d.0.prefix ≤ length c.prefix = good.no_longer c d.0 (parent n) i d.1 up (prefix_of_parent d.0.prefix n dn (omega (arith, short))) in
              omega arith,
        ),
      )

  -- no pin is at or below a name that isn't taken
  no_pin_at : (n : Key) → 0 < length n → (IsEntry k n → ⊥) → (d : Area) → In d k.areas → IsPrefix n d.prefix → ⊥
  no_pin_at n full none d i p = none (above_entry k good (length d.prefix) d.prefix n (omega arith) (d, i, good.headed d i) p full)

  -- nor at or below one that is above no pin
  pub no_pin_under : (n : Key) → above_pin (ground_of t) n ≡ false → (d : Area) → In d k.areas → IsPrefix n d.prefix → ⊥
  no_pin_under n h d i p = (let w : above_pin (ground_of t) n ≡ true = (above_decides (ground_of t) n).1 (inl (d.prefix, pin_there k t good is d i, p)) in let f : true ≡ false = sym w ∙ h in cc)

  -- ---- addEntry

  pub add_made : (name : Name) (attributes : List Attribute) (us : List Named) (c : Area) → In c k.areas → In (parent (key_of name)) c.entries → update (ground_of t) (AddEntry name attributes) ≡ Ok us
      → Made t c.prefix (AddEntry name attributes) us
  add_made name attributes us c i own h = by (added (ground_of t) name attributes us h)
    where
      inner_add : (e : Named) → IsEntryAfter t.entries (AddEntry name attributes) e → IsLongest t.pins (key_at e) (Some c.prefix) → IsEntryAfter (part t c.prefix) (AddEntry name attributes) e
      inner_add e (inl j) l = inl (in_part k t good is c.prefix e j l)
      inner_add e (inr w) l = inr (w.0, part_of_key k t good is c w.0 i w.1 (subst (λ (x : Key). In x c.entries) (sym w.2) own), w.2, w.3)

      key_new : Added (ground_of t) name attributes us → (e above : Named) → In above t.entries → key_at above ≡ parent (key_of name) → e ≡ new_entry above name attributes → key_at e ≡ key_of name
      key_new a e above j s q =
          ap key_at q ∙ new_entry_key above name attributes (filled_name name (filled_key name (subst (λ (x : Key). 0 < length x) s (tree_filled k t good is above j)))) s

      outer_add : ((e : Named) → key_at e ≡ key_of name → IsLongest t.pins (key_at e) (Some c.prefix)) → Added (ground_of t) name attributes us → (e : Named) → IsEntryAfter (part t c.prefix) (AddEntry name attributes) e
          → IsEntryAfter t.entries (AddEntry name attributes) e × IsLongest t.pins (key_at e) (Some c.prefix)
      outer_add long a e (inl j) = (let w = of_part k t good is c.prefix e j in (inl w.0, w.1))
      outer_add long a e (inr w) =
          let j = (of_part k t good is c.prefix w.0 w.1).0 in
          (inr (w.0, j, w.2, w.3), long e (key_new a e w.0 j w.2 w.3))

      covered_add : ((e : Named) → key_at e ≡ key_of name → IsLongest t.pins (key_at e) (Some c.prefix)) → Added (ground_of t) name attributes us → (es : List Named) → ((x : Named) → In x es → In x t.entries) → (e : Named) → IsEntryAfter es (AddEntry name attributes) e
          → In e es ⊎ IsLongest t.pins (key_at e) (Some c.prefix)
      covered_add long a es sub e (inl j) = inl j
      covered_add long a es sub e (inr w) = inr (long e (key_new a e w.0 (sub w.0 w.1) w.2 w.3))

      by : Added (ground_of t) name attributes us → Made t c.prefix (AddEntry name attributes) us
      by a =
          let w = entry_found t.entries (parent (key_of name)) a.above a.there in
          let key_filled : 0 < length (key_of name) = filled_key name (subst (λ (x : Key). 0 < length x) w.1 (tree_filled k t good is a.above w.0)) in
          let filled : 0 < length name = filled_name name key_filled in
          let key : key_at (new_entry a.above name attributes) ≡ key_of name = new_entry_key a.above name attributes filled w.1 in
          let long : (e : Named) → key_at e ≡ key_of name → IsLongest t.pins (key_at e) (Some c.prefix) = (λ e s.
          new_longest c (key_of name) (key_at e) i own key_filled (no_pin_at (key_of name) key_filled (not_entry (key_of name) a.free)) (subst (λ (x : Key). IsPrefix (key_of name) x) (sym s) (prefix_itself (key_of name)))) in
          let at : In a.above (part t c.prefix) = part_of_key k t good is c a.above i w.0 (subst (λ (x : Key). In x c.entries) (sym w.1) own) in
          record {
            gives = subst (λ (xs : List Named). Gives t.entries (AddEntry name attributes) xs) (sym a.made) (add_listed t.entries name attributes a.above is.in_order w.0 w.1 key (fresh (key_of name) a.free));
            alone = sorted_entries (part t c.prefix ++ new_entry a.above name attributes ∷ []);
            alone_made = add_free (ground_of (only_part t c.prefix)) name attributes a.above (part_finds c a.above (parent (key_of name)) i w.0 w.1 own) (still_free c.prefix (key_of name) a.free);
            alone_gives = add_listed (part t c.prefix) name attributes a.above (part_in_order c.prefix) at w.1 key (λ j. (let e = of_map key_at (key_of name) (part t c.prefix) j in fresh (key_of name) a.free (subst (λ (y : Key). In y (keys_of t.entries)) (sym e.2) (in_map key_at e.0 t.entries (of_part k t good is c.prefix e.0 e.1).0))));
            inner = λ e x l. inner_add e x l;
            outer = λ e x. outer_add long a e x;
            facts = (a.above, w.0, w.1, filled);
            alone_facts = (a.above, at, w.1, filled);
            covered = covered_add long a;
            others = λ es sub e q o l x. inl x;
          }

  -- ---- removeEntry

  pub remove_made : (name : Name) (us : List Named) (c : Area) → In c k.areas → In (key_of name) c.entries → update (ground_of t) (RemoveEntry name) ≡ Ok us → Made t c.prefix (RemoveEntry name) us
  remove_made name us c i own h = by (removed (ground_of t) name us h)
    where
      long : (e : Named) → key_at e ≡ key_of name → IsLongest t.pins (key_at e) (Some c.prefix)
      long e s = subst (λ (x : Key). IsLongest t.pins x (Some c.prefix)) (sym s) (longest_own k t good is c (key_of name) i own)

      no_more : has_below t.entries (key_of name) ≡ false → has_below (part t c.prefix) (key_of name) ≡ false
      no_more none =
          elim (true_or_false (has_below (part t c.prefix) (key_of name))) [
            | inr f ↦ f
            | inl y ↦ absurd (
                let b = (has_below_decides (part t c.prefix) (key_of name)).0 y in
                let w : has_below t.entries (key_of name) ≡ true = (has_below_decides t.entries (key_of name)).1 (b.0, (of_part k t good is c.prefix b.0 b.1).0, b.2) in
                let f : true ≡ false = sym w ∙ none in
                cc)
          ]

      by : Removed (ground_of t) name us → Made t c.prefix (RemoveEntry name) us
      by a =
          let w = entry_found t.entries (key_of name) a.at a.there in
          record {
            gives = subst (λ (xs : List Named). Gives t.entries (RemoveEntry name) xs) (sym a.made) (remove_listed t.entries name is.in_order);
            alone = _;
            alone_made = remove_some (ground_of (only_part t c.prefix)) name a.at false false (part_finds c a.at (key_of name) i w.0 w.1 own) a.above (no_more a.below);
            alone_gives = remove_listed (part t c.prefix) name (part_in_order c.prefix);
            inner = λ e x l. (in_part k t good is c.prefix e x.0 l, x.1);
            outer = λ e x. (let v = of_part k t good is c.prefix e x.0 in ((v.0, x.1), v.1));
            facts = tt;
            alone_facts = tt;
            covered = λ es sub e x. inl x.0;
            others = λ es sub e q o l x. (x, λ s. o (one_pin t.pins (key_at e) q c.prefix l (long e s)));
          }

  -- ---- modifyEntry

  pub modify_made : (name : Name) (changes : List Change) (us : List Named) (c : Area) → In c k.areas → In (key_of name) c.entries → update (ground_of t) (ModifyEntry name changes) ≡ Ok us
      → Made t c.prefix (ModifyEntry name changes) us
  modify_made name changes us c i own h = by (changed_so (ground_of t) name changes us h)
    where
      long : (e : Named) → key_at e ≡ key_of name → IsLongest t.pins (key_at e) (Some c.prefix)
      long e s = subst (λ (x : Key). IsLongest t.pins x (Some c.prefix)) (sym s) (longest_own k t good is c (key_of name) i own)

      inner_modify : (e : Named) → IsEntryAfter t.entries (ModifyEntry name changes) e → IsLongest t.pins (key_at e) (Some c.prefix) → IsEntryAfter (part t c.prefix) (ModifyEntry name changes) e
      inner_modify e (inl x) l = inl (in_part k t good is c.prefix e x.0 l, x.1)
      inner_modify e (inr w) l = inr (w.0, w.1, in_part k t good is c.prefix w.0 w.2 (long w.0 w.3), w.3, w.4, w.5)

      outer_modify : (e : Named) → IsEntryAfter (part t c.prefix) (ModifyEntry name changes) e → IsEntryAfter t.entries (ModifyEntry name changes) e × IsLongest t.pins (key_at e) (Some c.prefix)
      outer_modify e (inl x) = (let v = of_part k t good is c.prefix e x.0 in (inl (v.0, x.1), v.1))
      outer_modify e (inr w) = (inr (w.0, w.1, (of_part k t good is c.prefix w.0 w.2).0, w.3, w.4, w.5), long e (ap key_at w.5 ∙ w.3))

      covered_modify : (es : List Named) → ((x : Named) → In x es → In x t.entries) → (e : Named) → IsEntryAfter es (ModifyEntry name changes) e → In e es ⊎ IsLongest t.pins (key_at e) (Some c.prefix)
      covered_modify es sub e (inl x) = inl x.0
      covered_modify es sub e (inr w) = inr (long e (ap key_at w.5 ∙ w.3))

      by : Modified (ground_of t) name changes us → Made t c.prefix (ModifyEntry name changes) us
      by a =
          let w = entry_found t.entries (key_of name) a.at a.there in
          record {
            gives = subst (λ (xs : List Named). Gives t.entries (ModifyEntry name changes) xs) (sym a.made) (modify_listed t.entries name changes a.at a.new is.in_order w.0 w.1 a.done);
            alone = replace_at (key_of name) (record a.at { entry = a.new }) (part t c.prefix);
            alone_made = modify_some (ground_of (only_part t c.prefix)) name changes a.at (Ok a.new) (part_finds c a.at (key_of name) i w.0 w.1 own) a.done;
            alone_gives = modify_listed (part t c.prefix) name changes a.at a.new (part_in_order c.prefix) (part_of_key k t good is c a.at i w.0 (subst (λ (x : Key). In x c.entries) (sym w.1) own)) w.1 a.done;
            inner = inner_modify;
            outer = outer_modify;
            facts = (a.at, a.new, w.0, w.1, a.done);
            alone_facts = (a.at, a.new, part_of_key k t good is c a.at i w.0 (subst (λ (x : Key). In x c.entries) (sym w.1) own), w.1, a.done);
            covered = covered_modify;
            others = λ es sub e q o l x. inl (x, λ s. o (one_pin t.pins (key_at e) q c.prefix l (long e s)));
          }

  -- ---- modifyDN

  -- a new name that isn't the old one isn't taken
  pub free_name : (g : Ground) (name : Name) (rdn : Rdn) → clashes g name rdn ≡ false → (new_key name rdn ≡ key_of name) ⊎ (is_taken g (new_key name rdn) ≡ false)
  free_name g name rdn h =
      elim (true_or_false (same_key (new_key name rdn) (key_of name))) [
        | inl s ↦ inl ((key_decides (new_key name rdn) (key_of name)).0 s)
        | inr o ↦ elim (true_or_false (is_taken g (new_key name rdn))) [
          | inr f ↦ inr f
          | inl y ↦ absurd (
              let w : clashes g name rdn ≡ true = and_true (not (same_key (new_key name rdn) (key_of name))) (is_taken g (new_key name rdn)) (ap not o) y in
              let f : true ≡ false = sym w ∙ h in
              cc)
        ]
      ]

  -- what is below an entry that is above no pin is in its context
  pub under_own : (c d : Area) (n x : Key) → In c k.areas → In d k.areas → In n c.entries → above_pin (ground_of t) n ≡ false → In x d.entries → IsPrefix n x → In x c.entries
  under_own c d n x i j own low held on =
      let dx : IsPrefix d.prefix x = good.below d x j held in
      let short : length n ≤ length d.prefix → ⊥ = (λ l. no_pin_under n low d j (prefix_by_length n d.prefix x on dx l)) in
      let dn : IsPrefix d.prefix n = prefix_by_length d.prefix n x dx on (omega (arith, short)) in
      let l : length d.prefix ≤ length c.prefix = good.no_longer c d n i j own dn in
      let cx : IsPrefix c.prefix x = prefix_chain c.prefix n x (good.below c n i own) on in
      let m : length c.prefix ≤ length d.prefix = good.no_longer d c x j i held cx in
      subst (λ (y : Area). In x y.entries) (sym (one_master k c d good i j (same_by_length c.prefix d.prefix x cx dx (omega arith)))) held

  -- its parent is in its context
  pub up_own : (c : Area) (n : Key) → In c k.areas → In n c.entries → above_pin (ground_of t) n ≡ false → In (parent n) c.entries
  up_own c n i own low =
      elim (good.closed c n i own) [
        | inl s ↦ absurd (no_pin_under n low c i (subst (λ (x : Key). IsPrefix n x) s (prefix_itself n)))
        | inr u ↦ u
      ]

  still_clear : (pin : Key) (name : Name) (rdn : Rdn) → clashes (ground_of t) name rdn ≡ false → clashes (ground_of (only_part t pin)) name rdn ≡ false
  still_clear pin name rdn h =
      elim (true_or_false (clashes (ground_of (only_part t pin)) name rdn)) [
        | inr f ↦ f
        | inl y ↦ absurd (
            let w = both_true (not (same_key (new_key name rdn) (key_of name))) (is_taken (ground_of (only_part t pin)) (new_key name rdn)) y in
            elim (free_name (ground_of t) name rdn h) [
              | inl s ↦ (let a : same_key (new_key name rdn) (key_of name) ≡ true = (key_decides (new_key name rdn) (key_of name)).1 s in let b = w.0 in cc)
              | inr f ↦ (let a : is_taken (ground_of (only_part t pin)) (new_key name rdn) ≡ false = still_free pin (new_key name rdn) f in let b = w.1 in cc)
            ])
      ]

  pub rename_made : (name : Name) (rdn : Rdn) (drops : Bool) (us : List Named) (c : Area) → In c k.areas → In (key_of name) c.entries → update (ground_of t) (ModifyDn name rdn drops) ≡ Ok us
      → Made t c.prefix (ModifyDn name rdn drops) us
  rename_made name rdn drops us c i own h = by (renamed_so (ground_of t) name rdn drops us h)
    where
      full : 0 < length name
      full = filled_name name (entry_filled k good c (key_of name) i own)

      -- what is at or below the entry is in its part
      under : Renamed (ground_of t) name rdn drops us → (e : Named) → In e t.entries → IsPrefix (key_of name) (key_at e) → In e (part t c.prefix)
      under a e j on = (let d = area_of_entry k t good is e j in part_of_key k t good is c e i j (under_own c d.0 (key_of name) (key_at e) i d.1 own a.above d.2 on))

      -- nothing stands at or below the new name, if it is another
      none_at : Renamed (ground_of t) name rdn drops us → (new_key name rdn ≡ key_of name) ⊎ (IsEntry k (new_key name rdn) → ⊥)
      none_at a = elim (free_name (ground_of t) name rdn a.free) [ inl s ↦ inl s | inr f ↦ inr (not_entry (new_key name rdn) f) ]

      no_pin_new : Renamed (ground_of t) name rdn drops us → (d : Area) → In d k.areas → IsPrefix (new_key name rdn) d.prefix → ⊥
      no_pin_new a d j p =
          elim (none_at a) [
            | inl s ↦ no_pin_under (key_of name) a.above d j (subst (λ (x : Key). IsPrefix x d.prefix) s p)
            | inr none ↦ no_pin_at (new_key name rdn) (new_key_filled name rdn) none d j p
          ]

      -- what has the new name, or is below it, belongs to the context
      long : Renamed (ground_of t) name rdn drops us → (e old : Named) → In old t.entries → IsPrefix (key_of name) (key_at old) → e.name ≡ name_after name rdn old → IsLongest t.pins (key_at e) (Some c.prefix)
      long a e old j on q =
          let key : key_at e ≡ new_key name rdn ++ drop (length (key_of name)) (key_at old) = ap key_of q ∙ name_after_key name rdn old full on in
          new_longest c (new_key name rdn) (key_at e) i (subst (λ (x : Key). In x c.entries) (sym (new_key_parent name rdn)) (up_own c (key_of name) i own a.above)) (new_key_filled name rdn) (no_pin_new a)
          (subst (λ (x : Key). IsPrefix (new_key name rdn) x) (sym key) (front_prefix (new_key name rdn) (drop (length (key_of name)) (key_at old))))

      at_prefix : (e : Named) → key_at e ≡ key_of name → IsPrefix (key_of name) (key_at e)
      at_prefix e s = subst (λ (x : Key). IsPrefix (key_of name) x) (sym s) (prefix_itself (key_of name))

      apart : Renamed (ground_of t) name rdn drops us → (x y : Named) → In x t.entries → In y t.entries → moved (key_of name) (new_key name rdn) (key_at x) ≡ moved (key_of name) (new_key name rdn) (key_at y) → key_at x ≡ key_at y
      apart a x y j l q = moved_apart_keys (key_of name) (new_key name rdn) (key_at x) (key_at y) (elim (none_at a) [ inl s ↦ inl s | inr none ↦ inr (off none x j, off none y l) ]) q
        where
          off : (IsEntry k (new_key name rdn) → ⊥) → (e : Named) → In e t.entries → IsPrefix (new_key name rdn) (key_at e) → ⊥
          off none e m p = (let d = area_of_entry k t good is e m in none (above_entry k good (length (key_at e)) (key_at e) (new_key name rdn) (omega arith) (d.0, d.1, d.2) p (new_key_filled name rdn)))

      inner_rename : Renamed (ground_of t) name rdn drops us → (e : Named) → IsEntryAfter t.entries (ModifyDn name rdn drops) e → IsLongest t.pins (key_at e) (Some c.prefix) → IsEntryAfter (part t c.prefix) (ModifyDn name rdn drops) e
      inner_rename a e (inl x) l = inl (in_part k t good is c.prefix e x.0 l, x.1)
      inner_rename a e (inr (inl w)) l = inr (inl (w.0, under a w.0 w.1 (at_prefix w.0 w.2), w.2, w.3))
      inner_rename a e (inr (inr w)) l = inr (inr (w.0, under a w.0 w.1 w.3, w.2, w.3, w.4))

      outer_rename : Renamed (ground_of t) name rdn drops us → (e : Named) → IsEntryAfter (part t c.prefix) (ModifyDn name rdn drops) e → IsEntryAfter t.entries (ModifyDn name rdn drops) e × IsLongest t.pins (key_at e) (Some c.prefix)
      outer_rename a e (inl x) = (let v = of_part k t good is c.prefix e x.0 in (inl (v.0, x.1), v.1))
      outer_rename a e (inr (inl w)) = (let j = (of_part k t good is c.prefix w.0 w.1).0 in (inr (inl (w.0, j, w.2, w.3)), long a e w.0 j (at_prefix w.0 w.2) (ap (λ (x : Named). x.name) w.3)))
      outer_rename a e (inr (inr w)) = (let j = (of_part k t good is c.prefix w.0 w.1).0 in (inr (inr (w.0, j, w.2, w.3, w.4)), long a e w.0 j w.3 (ap (λ (x : Named). x.name) w.4)))

      covered_rename : Renamed (ground_of t) name rdn drops us → (es : List Named) → ((x : Named) → In x es → In x t.entries) → (e : Named) → IsEntryAfter es (ModifyDn name rdn drops) e → In e es ⊎ IsLongest t.pins (key_at e) (Some c.prefix)
      covered_rename a es sub e (inl x) = inl x.0
      covered_rename a es sub e (inr (inl w)) = inr (long a e w.0 (sub w.0 w.1) (at_prefix w.0 w.2) (ap (λ (x : Named). x.name) w.3))
      covered_rename a es sub e (inr (inr w)) = inr (long a e w.0 (sub w.0 w.1) w.3 (ap (λ (x : Named). x.name) w.4))

      by : Renamed (ground_of t) name rdn drops us → Made t c.prefix (ModifyDn name rdn drops) us
      by a =
          let w = entry_found t.entries (key_of name) a.at a.there in
          record {
            gives = subst (λ (xs : List Named). Gives t.entries (ModifyDn name rdn drops) xs) (sym a.made) (rename_listed t.entries name rdn drops a.at is.in_order full w.0 w.1 (apart a));
            alone = sorted_entries (map (moved_entry name rdn (renamed (last_rdn name) rdn drops a.at.entry)) (part t c.prefix));
            alone_made = rename_some (ground_of (only_part t c.prefix)) name rdn drops a.at false (Ok (renamed (last_rdn name) rdn drops a.at.entry)) false (part_finds c a.at (key_of name) i w.0 w.1 own) a.above a.single (still_clear c.prefix name rdn a.free);
            alone_gives = rename_listed (part t c.prefix) name rdn drops a.at (part_in_order c.prefix) full (part_of_key k t good is c a.at i w.0 (subst (λ (x : Key). In x c.entries) (sym w.1) own)) w.1
                (λ x y j l. apart a x y (of_part k t good is c.prefix x j).0 (of_part k t good is c.prefix y l).0);
            inner = inner_rename a;
            outer = outer_rename a;
            facts = full;
            alone_facts = full;
            covered = covered_rename a;
            others = λ es sub e q o l x. inl (x, λ on. o (one_pin t.pins (key_at e) q c.prefix l (of_part k t good is c.prefix e (under a e (sub e x) on)).1));
          }
