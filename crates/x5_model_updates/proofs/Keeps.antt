-- Accepted updates keep knowledge coherent, with the parts of the tree afterwards.
use Rattle.std.proofs.Common.{◌≡◌, ◌≢◌, ◌≤◌, Bool, true, false, ◌⊎◌, ◌↔◌, inl, inr, List, map, length, take, refl, sym, ap, subst, ◌∙◌, arith, Some, Ok}
use Rattle.x5_model.specs.Members.{In, Once}
use Rattle.x5_model.specs.Keys.{Key, IsPrefix, parent}
use Rattle.x5_model.specs.Values.{Rdn, Name, key_of}
use Rattle.x5_model.specs.Entries.{Named}
use Rattle.x5_model.specs.Attributes.{is_ordered}
use Rattle.x5_model.specs.Requests.{Attribute, Body, Read, Compare, ListBelow, Search, AddEntry, RemoveEntry, ModifyEntry, ModifyDn}
use Rattle.x5_model.proofs.Lists.{true_or_false, in_map, of_map, of_all, all_in}
use Rattle.x5_model.proofs.Prefixes.{prefix_length, prefix_itself, same_by_length}
use Rattle.x5_model.proofs.Ascending.{filter_ascending}
use Rattle.x5_model_tree.specs.Tree.{Tree, key_at, keys_of, named_below, has_below, belongs, part}
use Rattle.x5_model_tree.specs.Ask.{is_update}
use Rattle.x5_model_tree.specs.Apply.{ground_of, update}
use Rattle.x5_model_tree.proofs.Order.{named_chain}
use Rattle.x5_model_tree.proofs.Longest.{IsLongest}
use Rattle.x5_model_tree.proofs.Grown.{above_key}
use Rattle.x5_model_run.specs.Needs.{target_of}
use Rattle.x5_model_theory.specs.Knowledge.{Knowledge, Area}
use Rattle.x5_model_theory.specs.Coherent.{Coherent}
use Rattle.x5_model_theory.specs.Changing.{holding, with_entries, moved}
use Rattle.x5_model_theory.proofs.Deciding.{dec_nat, dec_key}
use Rattle.x5_model_theory.proofs.Cohering.{map_map, one_master}
use Rattle.x5_model_theory.proofs.Changes.{adding_keeps, removing_keeps, renaming_keeps, reordering_keeps}
use Rattle.x5_model_updates.specs.Standing.{IsTreeOf}
use Rattle.x5_model_updates.specs.Afterwards.{IsKeyAfter, new_key}
use Rattle.x5_model_updates.specs.Keeping.{keys_in, UpdatesKeep, OrderStays}
use Rattle.x5_model_updates.proofs.Lookups.{once_keys}
use Rattle.x5_model_updates.proofs.Outcomes.{same_list, added, removed, renamed_so, accepted_over, tree_made}
use Rattle.x5_model_updates.proofs.Trees.{one_area, entry_filled, of_part, entry_in_area, area_of_entry}
use Rattle.x5_model_updates.proofs.Grounds.{has_below_decides}
use Rattle.x5_model_updates.proofs.Alike.{new_key_parent, new_key_filled}
use Rattle.x5_model_updates.proofs.Renaming.{filled_key, moved_goes, moved_stays}
use Rattle.x5_model_updates.proofs.Ordered.{after_ordered}
use Rattle.x5_model_updates.proofs.Listed.{keys_listed}
use Rattle.x5_model_updates.proofs.Divided.{behind, Made, not_entry, no_pin_under, free_name, under_own}
use Rattle.x5_model_updates.proofs.After.{target_in, made_by, gives_by, own_part, other_part, in_new_part}

-- a name that moves to itself stays
moved_same : (e x : Key) → moved e e x ≡ x
moved_same e x =
    elim (dec_key (take (length e) x) e) [
      | inl on ↦ moved_goes e e x on ∙ behind e x on
      | inr off ↦ moved_stays e e x off
    ]

module _ (k : Knowledge) (t : Tree) (us : List Named) (good : Coherent k) (is : IsTreeOf k t) where
  abbrev U : Tree
  U = record t { entries = us }

  -- ---- the keys of each context afterwards

  module _ (body : Body) (c : Area) (i : In c k.areas) (m : Made t c.prefix body us) where
    once_in : (d : Area) → Once (keys_in U d)
    once_in d = once_keys (part U d.prefix) (filter_ascending named_below named_chain (λ (e : Named). belongs t.pins d.prefix (key_at e)) us m.gives.0)

    own_keys : (x : Key) → In x (keys_in U c) ↔ IsKeyAfter c.entries body x
    own_keys x =
        subst (λ (xs : List Key). In x (keys_in U c) ↔ IsKeyAfter xs body x) (sym (is.parts c i))
        (subst (λ (es : List Named). In x (keys_of es) ↔ IsKeyAfter (keys_of (part t c.prefix)) body x) (sym (own_part k t good is us body c i m)) (keys_listed (part t c.prefix) m.alone body x m.alone_facts m.alone_gives))

    other_keys : (d : Area) → In d k.areas → d.prefix ≢ c.prefix → keys_in U d ≡ d.entries
    other_keys d j o = ap keys_of (other_part k t good is us body c i m d.prefix o) ∙ sym (is.parts d j)

    same_or_other : (d : Area) → In d k.areas → (d ≡ c) ⊎ (d.prefix ≢ c.prefix)
    same_or_other d j = elim (dec_key d.prefix c.prefix) [ inl s ↦ inl (one_master k d c good j i s) | inr o ↦ inr o ]

    -- what holds of the target's context and, in its own form, of each other one
    each_context : (P : Area → Key → Type 0) (x : Key) → ((In x (keys_in U c) → P c x) × (P c x → In x (keys_in U c)))
        → ((d : Area) → In d k.areas → d.prefix ≢ c.prefix → (In x d.entries → P d x) × (P d x → In x d.entries)) → (d : Area) → In d k.areas → In x (keys_in U d) ↔ P d x
    each_context P x own other d j =
        elim (same_or_other d j) [
          | inl s ↦ subst (λ (y : Area). In x (keys_in U y) ↔ P y x) (sym s) own
          | inr o ↦ subst (λ (ys : List Key). In x ys ↔ P d x) (sym (other_keys d j o)) (other d j o)
        ]

    -- an entry of the context isn't one of another
    not_here : (n : Key) → In n c.entries → (d : Area) → In d k.areas → d.prefix ≢ c.prefix → (x : Key) → In x d.entries → x ≢ n
    not_here n own d j o x p s = o (ap (λ (y : Area). y.prefix) (one_area k good d c n j i (subst (λ (y : Key). In y d.entries) s p) own))

  keeps_add : (name : Name) (attributes : List Attribute) (c : Area) → In c k.areas → In (parent (key_of name)) c.entries → Made t c.prefix (AddEntry name attributes) us → update (ground_of t) (AddEntry name attributes) ≡ Ok us → Coherent (with_entries (keys_in U) k)
  keeps_add name attributes c i own m h =
      let a = added (ground_of t) name attributes us h in
      adding_keeps k (keys_in U) c (key_of name) good
      (record {
        mine = i;
        filled = filled_key name (entry_filled k good c (parent (key_of name)) i own);
        below = own;
        new = not_entry k t good is (key_of name) a.free;
        members = λ d x j. each_context (AddEntry name attributes) c i m (λ e y. In y e.entries ⊎ ((y ≡ key_of name) × (e ≡ c))) x (
          λ l. elim ((own_keys (AddEntry name attributes) c i m x).0 l) [ inl n ↦ inl n | inr s ↦ inr (s, refl) ],
          λ l. (own_keys (AddEntry name attributes) c i m x).1 (elim l [ inl n ↦ inl n | inr w ↦ inr w.0 ]),
        )
            (λ e l o. (λ n. inl n, λ n. elim n [ inl y ↦ y | inr w ↦ absurd (o (ap (λ (z : Area). z.prefix) w.1)) ])) d j;
        once = λ d j. once_in (AddEntry name attributes) c i m d;
      })

  keeps_remove : (name : Name) (c : Area) → In c k.areas → In (key_of name) c.entries → Made t c.prefix (RemoveEntry name) us → update (ground_of t) (RemoveEntry name) ≡ Ok us → Coherent (with_entries (keys_in U) k)
  keeps_remove name c i own m h =
      let a = removed (ground_of t) name us h in
      removing_keeps k (keys_in U) (key_of name) good
      (record {
        filled = entry_filled k good c (key_of name) i own;
        above_none = λ x there on. elim (dec_nat (length (key_of name)) (length x)) [
          | inl s ↦ sym (same_by_length (key_of name) x x on (prefix_itself x) s)
          | inr o ↦ absurd (
              let e = entry_in_area k t good is there.0 x there.1 there.2 in
              let le : length (key_of name) ≤ length x = prefix_length (key_of name) x on in
              let s : length (key_at e.0) ≡ length x = ap length e.2 in
              let w : has_below t.entries (key_of name) ≡ true = (has_below_decides t.entries (key_of name)).1 (e.0, (of_part k t good is there.0.prefix e.0 e.1).0, (omega (arith, o), subst (λ (y : Key). IsPrefix (key_of name) y) (sym e.2) on)) in
              let f : true ≡ false = sym w ∙ a.below in
              cc)
        ];
        no_pin = λ d j p. no_pin_under k t good is (key_of name) a.above d j p;
        members = λ d x j. each_context (RemoveEntry name) c i m (λ e y. In y e.entries × (y ≢ key_of name)) x (own_keys (RemoveEntry name) c i m x)
            (λ e l o. (λ n. (n, not_here (RemoveEntry name) c i m (key_of name) own e l o x n), λ n. n.0)) d j;
        once = λ d j. once_in (RemoveEntry name) c i m d;
      })

  -- where the keys are those that they were
  keeps_same : (body : Body) (c : Area) → In c k.areas → Made t c.prefix body us → ((x : Key) → IsKeyAfter c.entries body x ↔ In x c.entries) → Coherent (with_entries (keys_in U) k)
  keeps_same body c i m same =
      reordering_keeps k (keys_in U) good
      (record {
        members = λ d x j. each_context body c i m (λ e y. In y e.entries) x
            (λ l. (same x).0 ((own_keys body c i m x).0 l), λ l. (own_keys body c i m x).1 ((same x).1 l)) (λ e l o. (λ n. n, λ n. n)) d j;
        once = λ d j. once_in body c i m d;
      })

  keeps_rename : (name : Name) (rdn : Rdn) (drops : Bool) (c : Area) → In c k.areas → In (key_of name) c.entries → Made t c.prefix (ModifyDn name rdn drops) us → update (ground_of t) (ModifyDn name rdn drops) ≡ Ok us
      → Coherent (with_entries (keys_in U) k)
  keeps_rename name rdn drops c i own m h =
      let a = renamed_so (ground_of t) name rdn drops us h in
      elim (free_name k t good is (ground_of t) name rdn a.free) [
        | inl s ↦ keeps_same (ModifyDn name rdn drops) c i m (λ x. (
          λ w. subst (λ (y : Key). In y c.entries) (sym (w.2 ∙ ap (λ (n : Key). moved (key_of name) n w.0) s ∙ moved_same (key_of name) w.0)) w.1,
          λ l. (x, l, sym (ap (λ (n : Key). moved (key_of name) n x) s ∙ moved_same (key_of name) x)),
        ))
        | inr f ↦ renaming_keeps k (keys_in U) (key_of name) (new_key name rdn) good
            (record {
              filled = entry_filled k good c (key_of name) i own;
              level = (new_key_filled name rdn, new_key_parent name rdn);
              new = not_entry k t good is (new_key name rdn) f;
              no_pin = λ d j p. no_pin_under k t good is (key_of name) a.above d j p;
              members = λ d x j. each_context (ModifyDn name rdn drops) c i m (λ e y. (z : Key) × In z e.entries × (y ≡ moved (key_of name) (new_key name rdn) z)) x (own_keys (ModifyDn name rdn drops) c i m x)
                  (λ e l o.
                  let apart : (z : Key) → In z e.entries → moved (key_of name) (new_key name rdn) z ≡ z = (λ z n. moved_stays (key_of name) (new_key name rdn) z
                  (λ on. not_here (ModifyDn name rdn drops) c i m z (under_own k t good is c e (key_of name) z i l own a.above n on) e l o z n refl)) in
                  (λ n. (x, n, sym (apart x n)), λ w. subst (λ (y : Key). In y e.entries) (sym (w.2 ∙ apart w.0 w.1)) w.1)) d j;
              once = λ d j. once_in (ModifyDn name rdn drops) c i m d;
            })
      ]

  keeps : (body : Body) (c : Area) → is_update body ≡ true → update (ground_of t) body ≡ Ok us → In c k.areas → In (key_of (target_of body)) c.entries → Made t c.prefix body us → Coherent (with_entries (keys_in U) k)
  keeps (Read name selection) c u h i own m = cc
  keeps (Compare name assertion) c u h i own m = cc
  keeps (ListBelow name) c u h i own m = cc
  keeps (Search base subset f selection) c u h i own m = cc
  keeps (AddEntry name attributes) c u h i own m = keeps_add name attributes c i (subst (λ (y : Key). In y c.entries) (above_key name) own) m h
  keeps (RemoveEntry name) c u h i own m = keeps_remove name c i own m h
  keeps (ModifyEntry name changes) c u h i own m = keeps_same (ModifyEntry name changes) c i m (λ x. (λ l. l, λ l. l))
  keeps (ModifyDn name rdn drops) c u h i own m = keeps_rename name rdn drops c i own m h

  -- ---- and the tree afterwards is theirs

  still_tree : (body : Body) (c : Area) → In c k.areas → Made t c.prefix body us → IsTreeOf (with_entries (keys_in U) k) U
  still_tree body c i m = record {
    in_order = m.gives.0;
    pins = λ q. (λ i. subst (λ (ks : List Key). In q ks) (sym (map_map (holding (keys_in U)) (λ (d : Area). d.prefix) k.areas)) ((is.pins q).0 i), λ i. (is.pins q).1 (subst (λ (ks : List Key). In q ks) (map_map (holding (keys_in U)) (λ (d : Area). d.prefix) k.areas) i));
    parts = λ d j. (let w = of_map (holding (keys_in U)) d k.areas j in ap (λ (x : Area). x.entries) w.2 ∙ ap (λ (x : Key). keys_of (part U x)) (ap (λ (x : Area). x.prefix) (sym w.2)));
    parted = λ e j. in_some e j (m.covered t.entries (λ x y. y) e ((m.gives.1 e).0 j));
  }
    where
      in_some : (e : Named) → In e us → In e t.entries ⊎ IsLongest t.pins (key_at e) (Some c.prefix) → (d : Area) × In d (map (holding (keys_in U)) k.areas) × In e (part U d.prefix)
      in_some e j (inr l) = (holding (keys_in U) c, in_map (holding (keys_in U)) c k.areas i, in_new_part k t good is us body c i m c.prefix e j l)
      in_some e j (inl o) =
          let d = area_of_entry k t good is e o in
          (holding (keys_in U) d.0, in_map (holding (keys_in U)) d.0 k.areas d.1, in_new_part k t good is us body c i m d.0.prefix e j (of_part k t good is d.0.prefix e d.3).1)

  -- ---- a query leaves all as it is

  query_same : (body : Body) → is_update body ≡ false → update (ground_of t) body ≡ Ok us → t.entries ≡ us
  query_same (Read name selection) u h = same_list t.entries us h
  query_same (Compare name assertion) u h = same_list t.entries us h
  query_same (ListBelow name) u h = same_list t.entries us h
  query_same (Search base subset f selection) u h = same_list t.entries us h
  query_same (AddEntry name attributes) u h = cc
  query_same (RemoveEntry name) u h = cc
  query_same (ModifyEntry name changes) u h = cc
  query_same (ModifyDn name rdn drops) u h = cc

-- the same tree
pub same_stands : (k : Knowledge) (t : Tree) → Coherent k → IsTreeOf k t → Coherent (with_entries (keys_in t) k) × IsTreeOf (with_entries (keys_in t) k) t
same_stands k t good is = (
  reordering_keeps k (keys_in t) good
      (record {
        members = λ d x j. (λ l. subst (λ (xs : List Key). In x xs) (sym (is.parts d j)) l, λ l. subst (λ (xs : List Key). In x xs) (is.parts d j) l);
        once = λ d j. subst (λ (xs : List Key). Once xs) (is.parts d j) (good.entries_apart d j);
      }),
  record {
    in_order = is.in_order;
    pins = λ q. (λ i. subst (λ (ks : List Key). In q ks) (sym (map_map (holding (keys_in t)) (λ (d : Area). d.prefix) k.areas)) ((is.pins q).0 i), λ i. (is.pins q).1 (subst (λ (ks : List Key). In q ks) (map_map (holding (keys_in t)) (λ (d : Area). d.prefix) k.areas) i));
    parts = λ d j. (let w = of_map (holding (keys_in t)) d k.areas j in ap (λ (x : Area). x.entries) w.2 ∙ ap (λ (x : Key). keys_of (part t x)) (ap (λ (x : Area). x.prefix) (sym w.2)));
    parted = λ e j. (let d = is.parted e j in (holding (keys_in t) d.0, in_map (holding (keys_in t)) d.0 k.areas d.1, d.2));
  },
)

pub updates_keep : UpdatesKeep
updates_keep k t u r good is h =
    let w = tree_made t u r h in
    let v = accepted_over (ground_of t) r.body u.entries w.0 in
    subst (λ (x : Tree). Coherent (with_entries (keys_in x) k) × IsTreeOf (with_entries (keys_in x) k) x) (sym w.1)
    (elim (true_or_false (is_update r.body)) [
      | inl up ↦
          let d = target_in k t good is r.body u.entries up v.1 in
          let m = made_by k t good is r.body u.entries d.0 up v.1 d.1 d.2 in
          (keeps k t u.entries good is r.body d.0 up v.1 d.1 d.2 m, still_tree k t u.entries good is r.body d.0 d.1 m)
      | inr asks ↦ subst (λ (es : List Named). Coherent (with_entries (keys_in (record t { entries = es })) k) × IsTreeOf (with_entries (keys_in (record t { entries = es })) k) (record t { entries = es }))
          (query_same k t u.entries good is r.body asks v.1) (same_stands k t good is)
    ])

pub order_stays : OrderStays
order_stays k t u r good is ordered h =
    let w = tree_made t u r h in
    let v = accepted_over (ground_of t) r.body u.entries w.0 in
    let g = gives_by k t good is r.body u.entries v.1 in
    all_in (λ (e : Named). is_ordered e.entry) u.entries
    (λ e i. after_ordered t.entries r.body v.0 (λ f j. of_all (λ (x : Named). is_ordered x.entry) f t.entries ordered j) e ((g.0.1 e).0 i))
