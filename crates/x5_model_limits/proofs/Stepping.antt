-- What is noted of an update is within the limits, as what it leaves is; and so are the entries that such steps make, step
-- by step.
use Rattle.std.proofs.Common.{◌≡◌, ℕ, ◌+◌, ◌-◌, ◌<◌, ◌≤◌, Bool, true, false, not, inl, inr, List, [], ◌∷◌, ◌++◌, length, map, take, drop, refl, sym, ap, subst, ◌∙◌, arith, Option, Some, None, Ok, Err, if◌then◌else◌}
use Rattle.std.proofs.lemmas.List.{length-take}
use Rattle.std.specs.List.{filter}
use Rattle.std.specs.Option.{option_map}
use Rattle.x5_model.specs.Words.{is_empty, in_option}
use Rattle.x5_model.specs.Members.{In, here, there}
use Rattle.x5_model.specs.Keys.{same_key, is_prefix, parent}
use Rattle.x5_model.specs.Values.{Name, Rdn, key_of, last_rdn, name_above}
use Rattle.x5_model.specs.Entries.{Entry, Named}
use Rattle.x5_model.specs.Changes.{ChangedEntry, modified, renamed}
use Rattle.x5_model.specs.Requests.{Body, Read, Compare, ListBelow, Search, AddEntry, RemoveEntry, ModifyEntry, ModifyDn, Request}
use Rattle.x5_model.specs.Statics.{fault_of}
use Rattle.x5_model.proofs.KeyLaws.{key_decides}
use Rattle.x5_model.proofs.Lists.{in_first, in_either, of_filter, of_map}
use Rattle.x5_model.proofs.Prefixes.{prefix_length, prefix_decides}
use Rattle.x5_model.proofs.Ascending.{of_sorted}
use Rattle.x5_model_tree.specs.Tree.{key_at, named_below, sorted_entries, entry_at}
use Rattle.x5_model_tree.specs.Apply.{respelled}
use Rattle.x5_model_theory.proofs.Stages.{key_length}
use Rattle.x5_model_updates.specs.Afterwards.{new_entry, name_after}
use Rattle.x5_model_updates.proofs.Lookups.{entry_found}
use Rattle.x5_model_refreshed.specs.Steps.{Step, Add, Remove, Modify, Rename, moved_along, replayed, replay, modify_step, step_of}
use Rattle.x5_model_fitting.specs.Names.{Each, RdnWithin, NameWithin}
use Rattle.x5_model_fitting.specs.Requests.{BodyWithin, RequestWithin}
use Rattle.x5_model_limits.specs.Holding.{BoundedEntry}
use Rattle.x5_model_limits.specs.Steps.{BoundedStep, NotedBounded, ReplayBounded}
use Rattle.x5_model_limits.proofs.Committing.{Kept, rdn_kept, renamed_kept, modified_keeps, respelled_within, no_name_refusals, two_rdns, one_rdn, new_entry_bounded}
use Rattle.x5_model_limits.proofs.Spelling.{last_within}

-- ---- what is noted

some_is : {A : Type 0} (x y : A) → Some x ≡ Some y → x ≡ y
some_is x y e = cc

mapped : {A B : Type 0} (f : A → B) (o : Option A) (y : B) → option_map f o ≡ Some y → (x : A) × (o ≡ Some x) × (f x ≡ y)
mapped f None y e = absurd (cc e)
mapped f (Some x) y e = (x, refl, some_is (f x) y e)

in_some : {A B : Type 0} (f : A → Option B) (o : Option A) (y : B) → in_option None f o ≡ Some y
    → (x : A) × (o ≡ Some x) × (f x ≡ Some y)
in_some f None y e = absurd (cc e)
in_some f (Some x) y e = (x, refl, e)

done_is : (old : Named) (o : ChangedEntry) (s : Step) → modify_step old o ≡ Some s
    → (new : Entry) × (o ≡ Ok new) × (Modify (record old { entry = new }) ≡ s)
done_is old (Ok new) s e = (new, refl, some_is (Modify (record old { entry = new })) s e)
done_is old (Err x) s e = absurd (cc e)

module _ (entries : List Named) (h : Each BoundedEntry entries) where
  renamed_step : (name : Name) (rdn : Rdn) (drops : Bool) (old : Named) → 0 < length name → NameWithin name → RdnWithin rdn
      → BoundedEntry old → key_at old ≡ key_of name
      → BoundedEntry (record { name = name_after name rdn old; entry = renamed (last_rdn name) rdn drops old.entry })
  renamed_step name rdn drops old full within one b same = record {
    name = respelled_within (length (name_above name)) rdn old.name (omega (arith, as_long, full, cut)) one b.name;
    some = not_empty (take (length (name_above name)) old.name);
    attributes =
        renamed_kept (last_rdn name) rdn drops old.entry (rdn_kept (last_rdn name) (last_within name full within))
        (rdn_kept rdn one) b.attributes;
  }
    where
      cut : length (name_above name) ≡ length name - 1
      cut = omega (arith, length-take (length name - 1) name)

      as_long : length old.name ≡ length name
      as_long = sym (key_length old.name) ∙ ap length same ∙ key_length name

      not_empty : (xs : Name) → is_empty (xs ++ rdn ∷ drop (length (name_above name) + 1) old.name) ≡ false
      not_empty [] = refl
      not_empty (x ∷ xs) = refl

  of_body : (b : Body) (s : Step) → BodyWithin b → fault_of b ≡ None → step_of entries b ≡ Some s → BoundedStep s
  of_body (AddEntry name ts) s within none e =
      let m = mapped (λ (above : Named). Add (new_entry above name ts)) (entry_at entries (parent (key_of name))) s e in
      let f = entry_found entries (parent (key_of name)) m.0 m.1 in
      subst BoundedStep m.2
      (new_entry_bounded m.0 name ts (h m.0 f.0) f.1 (two_rdns name ts none) within.0 within.1)
  of_body (RemoveEntry name) s within none e =
      let m = mapped (λ (old : Named). Remove old.name) (entry_at entries (key_of name)) s e in
      let f = entry_found entries (key_of name) m.0 m.1 in
      subst BoundedStep m.2 (h m.0 f.0).name
  of_body (ModifyEntry name changes) s within none e =
      let m = in_some (λ (old : Named). modify_step old (modified (last_rdn name) changes old.entry))
      (entry_at entries (key_of name)) s e in
      let f = entry_found entries (key_of name) m.0 m.1 in
      let d = done_is m.0 (modified (last_rdn name) changes m.0.entry) s m.2 in
      let b = h m.0 f.0 in
      subst BoundedStep d.2 (record {
        name = b.name;
        some = b.some;
        attributes = modified_keeps (last_rdn name) changes within.1 m.0.entry d.0 b.attributes d.1;
      })
  of_body (ModifyDn name rdn drops) s within none e =
      let m = mapped (λ (old : Named). Rename old.name (record {
        name = name_after name rdn old;
        entry = renamed (last_rdn name) rdn drops old.entry;
      })) (entry_at entries (key_of name)) s e in
      let f = entry_found entries (key_of name) m.0 m.1 in
      let full = one_rdn name (no_name_refusals (ModifyDn name rdn drops) none) in
      let b = h m.0 f.0 in
      subst BoundedStep m.2 (b.name, renamed_step name rdn drops m.0 full within.0 within.1 b f.1)
  of_body (Read name selection) s within none e = absurd (cc e)
  of_body (Compare name assertion) s within none e = absurd (cc e)
  of_body (ListBelow name) s within none e = absurd (cc e)
  of_body (Search base subset filter selection) s within none e = absurd (cc e)

pub noted_bounded : NotedBounded
noted_bounded entries r s h within none e = of_body entries h r.body s within.body none e

-- ---- what steps make

module _ (entries : List Named) (h : Each BoundedEntry entries) where
  along_bounded : (name : Name) (new e : Named) → BoundedEntry new → BoundedEntry e → BoundedEntry (moved_along name new e)
  along_bounded name new e n b = by (same_key (key_at e) (key_of name))
    where
      full : 0 < length new.name
      full = some_rdn new.name n.some
        where
          some_rdn : (x : Name) → is_empty x ≡ false → 0 < length x
          some_rdn [] q = absurd (cc q)
          some_rdn (r ∷ x) q = omega arith

      there_is : 0 < length e.name
      there_is = some_rdn e.name b.some
        where
          some_rdn : (x : Name) → is_empty x ≡ false → 0 < length x
          some_rdn [] q = absurd (cc q)
          some_rdn (r ∷ x) q = omega arith

      cut : length (name_above name) ≤ length name - 1
      cut = omega (arith, length-take (length name - 1) name)

      within : is_prefix (key_of name) (key_at e) ≡ true → length (name_above name) < length e.name
      within q =
          let p : length (key_of name) ≤ length (key_at e) =
          prefix_length (key_of name) (key_at e) ((prefix_decides (key_of name) (key_at e)).0 q) in
          omega (arith, p, key_length e.name, key_length name, cut, there_is)

      not_empty : (xs : Name) → is_empty (xs ++ last_rdn new.name ∷ drop (length (name_above name) + 1) e.name) ≡ false
      not_empty [] = refl
      not_empty (x ∷ xs) = refl

      below : (t : Bool) → is_prefix (key_of name) (key_at e) ≡ t
          → BoundedEntry (if t then record e { name = respelled (length (name_above name)) (last_rdn new.name) e.name } else e)
      below true q = record {
        name = respelled_within (length (name_above name)) (last_rdn new.name) e.name (within q)
            (last_within new.name full n.name) b.name;
        some = not_empty (take (length (name_above name)) e.name);
        attributes = b.attributes;
      }
      below false q = b

      by : (t : Bool) → BoundedEntry (if t then new else (if is_prefix (key_of name) (key_at e)
          then record e { name = respelled (length (name_above name)) (last_rdn new.name) e.name } else e))
      by true = n
      by false = below (is_prefix (key_of name) (key_at e)) refl

  either : (t : Bool) (new old : Named) → BoundedEntry new → BoundedEntry old → BoundedEntry (if t then new else old)
  either true new old n o = n
  either false new old n o = o

  step_bounded : (s : Step) → BoundedStep s → Each BoundedEntry (replayed s entries)
  step_bounded (Add e) b = λ x i.
      elim (in_either x entries (e ∷ []) (of_sorted named_below x (entries ++ e ∷ []) i)) [
        | inl j ↦ h x j
        | inr j ↦ elim (in_first x e [] j) [ inl s ↦ subst BoundedEntry (sym s) b | inr k ↦ elim k [ ] ]
      ]
  step_bounded (Remove name) b =
      λ x i. h x (of_filter (λ (e : Named). not (same_key (key_at e) (key_of name))) x entries i).0
  step_bounded (Modify e) b = λ x i.
      let w = of_map (λ (y : Named). if same_key (key_at y) (key_at e) then e else y) x entries i in
      subst BoundedEntry (sym w.2) (either (same_key (key_at w.0) (key_at e)) e w.0 b (h w.0 w.1))
  step_bounded (Rename name new) b = λ x i.
      let w = of_map (moved_along name new) x entries (of_sorted named_below x (map (moved_along name new) entries) i) in
      subst BoundedEntry (sym w.2) (along_bounded name new w.0 b.1 (h w.0 w.1))

pub replay_bounded : ReplayBounded
replay_bounded [] entries each h = h
replay_bounded (s ∷ more) entries each h =
    replay_bounded more (replayed s entries) (λ x i. each x (there i)) (step_bounded entries h s (each s here))
