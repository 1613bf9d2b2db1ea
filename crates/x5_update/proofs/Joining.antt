-- The entries of a context after an update, where the entries that count in it and those that don't are put together again:
-- exactly those that the update makes of all its entries, since none that doesn't count stands at the update's name or, where
-- no pin does, below it.
use Rattle.std.proofs.Common.{◌≡◌, ◌<◌, Bool, true, false, not, ◌⊎◌, inl, inr, ◌++◌, ◌∷◌, [], List, length, sym, ap, subst, ◌∙◌, Some}
use Rattle.std.specs.List.{filter}
use Rattle.x5_model.specs.Words.{ascending}
use Rattle.x5_model.specs.Members.{In, Once, here, there}
use Rattle.x5_model.specs.Keys.{Key, IsPrefix, parent, same_key}
use Rattle.x5_model.specs.Values.{Name, Rdn, key_of}
use Rattle.x5_model.specs.Entries.{Named}
use Rattle.x5_model.specs.Requests.{Attribute, Change, Body, AddEntry, RemoveEntry, ModifyEntry, ModifyDn}
use Rattle.x5_model.proofs.KeyLaws.{key_decides}
use Rattle.x5_model.proofs.Lists.{true_or_false, in_left, in_right, in_either, in_map, of_map, in_filter, of_filter, not_true}
use Rattle.x5_model.proofs.Ascending.{filter_ascending, in_sorted, of_sorted}
use Rattle.x5_model.proofs.Decide.{once_decides}
use Rattle.x5_model.proofs.Prefixes.{prefix_itself}
use Rattle.x5_model_tree.specs.Tree.{key_at, keys_of, named_below, sorted_entries}
use Rattle.x5_model_tree.specs.Apply.{above_pin}
use Rattle.x5_model_tree.proofs.Longest.{IsLongest, belongs_decides}
use Rattle.x5_model_tree.proofs.Order.{named_chain, one_list_of_entries, union_in_order}
use Rattle.x5_model_theory.specs.Changing.{moved}
use Rattle.x5_model_run.specs.Holdings.{Held}
use Rattle.x5_model_updates.specs.Afterwards.{IsEntryAfter, new_key, name_after}
use Rattle.x5_model_updates.proofs.Judged.{more_after}
use Rattle.x5_model_updates.proofs.Listed.{Gives}
use Rattle.x5_model_updates.proofs.Lookups.{one_each, once_keys}
use Rattle.x5_model_updates.proofs.Own.{held_ground}
use Rattle.x5_model_updates.proofs.Renaming.{new_entry_key, name_after_key, moved_goes, moved_stays}
use Rattle.x5_update.proofs.Grounds.{Seat, counts, below_counts}

-- ---- two lists in order with no common member, and a list in order with the members of both

once_both : (xs ys : List Named) → Once (keys_of xs) → Once (keys_of ys)
    → ((x y : Named) → In x xs → In y ys → key_at x ≡ key_at y → ⊥) → Once (keys_of (xs ++ ys))
once_both [] ys a b apart = b
once_both (x ∷ xs) ys a b apart = (
  λ i.
      let w = of_map key_at (key_at x) (xs ++ ys) i in
      elim (in_either w.0 xs ys w.1) [
        | inl j ↦ a.0 (subst (λ (k : Key). In k (keys_of xs)) (sym w.2) (in_map key_at w.0 xs j))
        | inr j ↦ apart x w.0 here j w.2
      ],
  once_both xs ys a.1 b (λ y z i j. apart y z (there i) j),
)

pub joined : (xs ys zs : List Named) → ascending named_below xs ≡ true → ascending named_below ys ≡ true → ascending named_below zs ≡ true
    → ((e : Named) → In e xs → In e zs) → ((e : Named) → In e ys → In e zs) → ((e : Named) → In e zs → In e xs ⊎ In e ys)
    → ((e : Named) → In e xs → In e ys → ⊥) → sorted_entries (xs ++ ys) ≡ zs
joined xs ys zs ox oy oz to_x to_y from apart =
    one_list_of_entries (sorted_entries (xs ++ ys)) zs
    (union_in_order (xs ++ ys) ((once_decides same_key key_decides (keys_of (xs ++ ys))).1
    (once_both xs ys (once_keys xs ox) (once_keys ys oy)
    (λ x y i j s. let one : x ≡ y = one_each zs oz x y (to_x x i) (to_y y j) s in
    apart x i (subst (λ (z : Named). In z ys) (sym one) j)))))
    oz
    (λ e i. elim (in_either e xs ys (of_sorted named_below e (xs ++ ys) i)) [ inl j ↦ to_x e j | inr j ↦ to_y e j ])
    (λ e i. in_sorted named_below e (xs ++ ys)
    (elim (from e i) [ inl j ↦ in_left e xs ys j | inr j ↦ in_right e xs ys j ]))

-- ---- what counts in the context, and what doesn't

abbrev pub counted : List Key → Held → List Named
counted pins c = filter (counts pins c) c.entries

abbrev pub others : List Key → Held → List Named
others pins c = filter (λ (e : Named). not (counts pins c e)) c.entries

module _ (pins : List Key) (own : List Held) (c : Held) (key : Key) (seat : Seat pins own c key) where
  pub at_key : (e : Named) → key_at e ≡ key → counts pins c e ≡ true
  at_key e s =
      (belongs_decides pins (key_of c.prefix) (key_at e)).1
      (subst (λ (k : Key). IsLongest pins k (Some (key_of c.prefix))) (sym s) seat.long)

  below_key : above_pin (held_ground pins own) key ≡ false → (e : Named) → IsPrefix key (key_at e) → counts pins c e ≡ true
  below_key none e on = (belongs_decides pins (key_of c.prefix) (key_at e)).1 (below_counts pins own c key seat none (key_at e) on)

  out : (e : Named) → counts pins c e ≡ true → counts pins c e ≡ false → ⊥
  out e t f = cc

  of_counted : (e : Named) → In e (counted pins c) → In e c.entries × (counts pins c e ≡ true)
  of_counted e i = of_filter (counts pins c) e c.entries i

  of_others : (e : Named) → In e (others pins c) → In e c.entries × (counts pins c e ≡ false)
  of_others e i =
      let w = of_filter (λ (x : Named). not (counts pins c x)) e c.entries i in (w.0, not_true (counts pins c e) w.1)

  either : (e : Named) → In e c.entries → In e (counted pins c) ⊎ (counts pins c e ≡ false)
  either e i =
      elim (true_or_false (counts pins c e)) [ inl t ↦ inl (in_filter (counts pins c) e c.entries i t) | inr f ↦ inr f ]

  -- what the update leaves of those that don't count, and what it makes of those that do
  pub record Parts (body : Body) : Type 0 where
    pub stay : (e : Named) → In e c.entries → counts pins c e ≡ false → IsEntryAfter c.entries body e
    pub split : (e : Named) → IsEntryAfter c.entries body e
        → IsEntryAfter (counted pins c) body e ⊎ (In e c.entries × (counts pins c e ≡ false))
    pub apart : (e : Named) → IsEntryAfter (counted pins c) body e → In e c.entries → counts pins c e ≡ false → ⊥

  pub together : (body : Body) (es zs : List Named) → ascending named_below c.entries ≡ true → Parts body
      → Gives (counted pins c) body es → Gives c.entries body zs → sorted_entries (es ++ others pins c) ≡ zs
  together body es zs order parts made all =
      joined es (others pins c) zs made.0
      (filter_ascending named_below named_chain (λ (e : Named). not (counts pins c e)) c.entries order) all.0
      (λ e i. (all.1 e).1 (more_after (counted pins c) c.entries body e (λ x j. (of_counted x j).0) ((made.1 e).0 i)))
      (λ e i. let w = of_others e i in (all.1 e).1 (parts.stay e w.0 w.1))
      (λ e i. elim (parts.split e ((all.1 e).0 i)) [
        | inl a ↦ inl ((made.1 e).1 a)
        | inr w ↦ inr (in_filter (λ (x : Named). not (counts pins c x)) e c.entries w.0 (ap not w.1))
      ])
      (λ e i j. let w = of_others e j in parts.apart e ((made.1 e).0 i) w.0 w.1)

  -- ---- each update

  pub add_parts : (name : Name) (attributes : List Attribute) → 0 < length name → key ≡ parent (key_of name)
      → (In (key_of name) (keys_of c.entries) → ⊥) → Parts (AddEntry name attributes)
  add_parts name attributes full is fresh = record {
    stay = λ e i f. inl i;
    split = split;
    apart = apart;
  }
    where
      split : (e : Named) → IsEntryAfter c.entries (AddEntry name attributes) e
          → IsEntryAfter (counted pins c) (AddEntry name attributes) e ⊎ (In e c.entries × (counts pins c e ≡ false))
      split e (inl i) = elim (either e i) [ inl j ↦ inl (inl j) | inr f ↦ inr (i, f) ]
      split e (inr w) = inl (inr (w.0, in_filter (counts pins c) w.0 c.entries w.1 (at_key w.0 (w.2 ∙ sym is)), w.2, w.3))

      apart : (e : Named) → IsEntryAfter (counted pins c) (AddEntry name attributes) e → In e c.entries → counts pins c e ≡ false → ⊥
      apart e (inl i) j f = out e (of_counted e i).1 f
      apart e (inr w) j f =
          fresh (subst (λ (k : Key). In k (keys_of c.entries)) (ap key_at w.3 ∙ new_entry_key w.0 name attributes full w.2)
          (in_map key_at e c.entries j))

  pub remove_parts : (name : Name) → key ≡ key_of name → Parts (RemoveEntry name)
  remove_parts name is = record {
    stay = λ e i f. (i, λ s. out e (at_key e (s ∙ sym is)) f);
    split = λ e w. elim (either e w.0) [ inl j ↦ inl (j, w.1) | inr f ↦ inr (w.0, f) ];
    apart = λ e w j f. out e (of_counted e w.0).1 f;
  }

  pub modify_parts : (name : Name) (changes : List Change) → key ≡ key_of name → Parts (ModifyEntry name changes)
  modify_parts name changes is = record {
    stay = λ e i f. inl (i, λ s. out e (at_key e (s ∙ sym is)) f);
    split = split;
    apart = apart;
  }
    where
      split : (e : Named) → IsEntryAfter c.entries (ModifyEntry name changes) e
          → IsEntryAfter (counted pins c) (ModifyEntry name changes) e ⊎ (In e c.entries × (counts pins c e ≡ false))
      split e (inl w) = elim (either e w.0) [ inl j ↦ inl (inl (j, w.1)) | inr f ↦ inr (w.0, f) ]
      split e (inr w) =
          inl (inr (w.0, w.1, in_filter (counts pins c) w.0 c.entries w.2 (at_key w.0 (w.3 ∙ sym is)), w.3, w.4, w.5))

      apart : (e : Named) → IsEntryAfter (counted pins c) (ModifyEntry name changes) e → In e c.entries → counts pins c e ≡ false → ⊥
      apart e (inl w) j f = out e (of_counted e w.0).1 f
      apart e (inr w) j f = out e (at_key e (ap key_at w.5 ∙ w.3 ∙ sym is)) f

  pub rename_parts : (name : Name) (rdn : Rdn) (drops : Bool) → 0 < length name → key ≡ key_of name
      → above_pin (held_ground pins own) key ≡ false
      → ((x y : Named) → In x c.entries → In y c.entries
      → moved (key_of name) (new_key name rdn) (key_at x) ≡ moved (key_of name) (new_key name rdn) (key_at y) → key_at x ≡ key_at y)
      → Parts (ModifyDn name rdn drops)
  rename_parts name rdn drops full is none one = record {
    stay = λ e i f. inl (i, λ p. out e (under e p) f);
    split = split;
    apart = apart;
  }
    where
      under : (e : Named) → IsPrefix (key_of name) (key_at e) → counts pins c e ≡ true
      under e p = below_key none e (subst (λ (k : Key). IsPrefix k (key_at e)) (sym is) p)

      itself : (e : Named) → key_at e ≡ key_of name → IsPrefix (key_of name) (key_at e)
      itself e s = subst (λ (k : Key). IsPrefix (key_of name) k) (sym s) (prefix_itself (key_of name))

      split : (e : Named) → IsEntryAfter c.entries (ModifyDn name rdn drops) e
          → IsEntryAfter (counted pins c) (ModifyDn name rdn drops) e ⊎ (In e c.entries × (counts pins c e ≡ false))
      split e (inl w) = elim (either e w.0) [ inl j ↦ inl (inl (j, w.1)) | inr f ↦ inr (w.0, f) ]
      split e (inr (inl w)) =
          inl (inr (inl (w.0, in_filter (counts pins c) w.0 c.entries w.1 (under w.0 (itself w.0 w.2)), w.2, w.3)))
      split e (inr (inr w)) =
          inl (inr (inr (w.0, in_filter (counts pins c) w.0 c.entries w.1 (under w.0 w.3), w.2, w.3, w.4)))

      -- what stays where it was isn't where something went
      gone : (e old : Named) → In e c.entries → counts pins c e ≡ false → In old c.entries → IsPrefix (key_of name) (key_at old)
          → key_at e ≡ key_of (name_after name rdn old) → ⊥
      gone e old i f j p s =
          let off : IsPrefix (key_of name) (key_at e) → ⊥ = (λ q. out e (under e q) f) in
          let same : key_at old ≡ key_at e =
          one old e j i (moved_goes (key_of name) (new_key name rdn) (key_at old) p ∙ sym (name_after_key name rdn old full p)
          ∙ sym s ∙ sym (moved_stays (key_of name) (new_key name rdn) (key_at e) off)) in
          off (subst (λ (k : Key). IsPrefix (key_of name) k) same p)

      apart : (e : Named) → IsEntryAfter (counted pins c) (ModifyDn name rdn drops) e → In e c.entries → counts pins c e ≡ false → ⊥
      apart e (inl w) j f = out e (of_counted e w.0).1 f
      apart e (inr (inl w)) j f = gone e w.0 j f (of_counted w.0 w.1).0 (itself w.0 w.2) (ap key_at w.3)
      apart e (inr (inr w)) j f = gone e w.0 j f (of_counted w.0 w.1).0 w.3 (ap key_at w.4)
