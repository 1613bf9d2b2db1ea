-- The step of an update can be done on what the context had: by the tests that the update passed.
use Rattle.std.proofs.Common.{◌≡◌, ℕ, ◌+◌, ◌-◌, ◌<◌, Bool, true, false, not, ◌&&◌, ◌||◌, List, [], ◌∷◌, ◌++◌, length, take, drop, refl, sym, ap, subst, ◌∙◌, arith, length-take, Some, None, Ok, inl, inr}
use Rattle.std.specs.Option.{option_map}
use Rattle.std.proofs.lemmas.List.{drop_all}
use Rattle.x5_model.specs.Words.{in_option, has}
use Rattle.x5_model.specs.Members.{In}
use Rattle.x5_model.specs.Keys.{Key, IsPrefix, parent, same_key}
use Rattle.x5_model.specs.Values.{Rdn, Name, key_of, last_rdn, name_above}
use Rattle.x5_model.specs.Entries.{Entry, Named}
use Rattle.x5_model.specs.Changes.{modified, renamed}
use Rattle.x5_model.specs.Requests.{Attribute, Body, Read, Compare, ListBelow, Search, AddEntry, RemoveEntry, ModifyEntry, ModifyDn}
use Rattle.x5_model.proofs.KeyLaws.{key_decides}
use Rattle.x5_model.proofs.Lists.{true_or_false}
use Rattle.x5_model.proofs.Prefixes.{prefix_itself}
use Rattle.x5_model_tree.specs.Tree.{Tree, key_at, entry_at, is_there, has_below, part}
use Rattle.x5_model_tree.specs.Ask.{is_update}
use Rattle.x5_model_tree.specs.Apply.{ground_of, is_taken, update}
use Rattle.x5_model_tree.proofs.Exact.{there_decides}
use Rattle.x5_model_tree.proofs.Longest.{longest_is, belongs_decides}
use Rattle.x5_model_run.specs.Needs.{target_of}
use Rattle.x5_model_theory.proofs.Stages.{key_length}
use Rattle.x5_model_updates.specs.Afterwards.{only_part, new_entry, new_key, name_after}
use Rattle.x5_model_updates.proofs.Lookups.{entry_found}
use Rattle.x5_model_updates.proofs.Outcomes.{added, removed, changed_so, renamed_so, clashes, accepted_over}
use Rattle.x5_model_updates.proofs.Renaming.{filled_name, filled_key, new_entry_key, name_after_key}
use Rattle.x5_model_updates.proofs.Trees.{of_part, tree_filled}
use Rattle.x5_model_updates.proofs.After.{parts_after}
use Rattle.x5_model_refreshed.specs.Steps.{Step, Add, Remove, Modify, Rename, modify_step, step_of}
use Rattle.x5_model_refreshed.specs.Doable.{CanAdd, CanRemove, CanModify, CanRename, CanDo, StepCanBeDone}
use Rattle.x5_model_refreshed.proofs.Noting.{last_of_end, new_end}
use Rattle.x5_model_refreshed.proofs.Spelling.{not_over_pin}

-- ---- tests that were passed

none_there : (a b : Bool) → (a || b) ≡ false → a ≡ false
none_there true b e = cc
none_there false b e = refl

free_name : (other there taken : Bool) → (other && (there || taken)) ≡ false → (other && there) ≡ false
free_name false there taken e = refl
free_name true there taken e = none_there there taken e

-- what isn't above a pin isn't the pin
not_pin : (t : Tree) (key pin : Key) → (IsPrefix key pin → ⊥) → same_key key pin ≡ false
not_pin t key pin off = elim (true_or_false (same_key key pin)) [
  | inr f ↦ f
  | inl e ↦ absurd (off (subst (λ (x : Key). IsPrefix key x) ((key_decides key pin).0 e) (prefix_itself key)))
]

-- ---- each step

module _ (t : Tree) (pin : Key) (held : In pin t.pins) (full : (e : Named) → In e t.entries → 0 < length (key_at e)) where
  can_add : (name : Name) (attributes : List Attribute) (above : Named) → entry_at t.entries (parent (key_of name)) ≡ Some above
      → is_taken (ground_of t) (key_of name) ≡ false → CanAdd t.entries (new_entry above name attributes)
  can_add name attributes above there free =
      let w = entry_found t.entries (parent (key_of name)) above there in
      let long : 0 < length name = filled_name name (filled_key name (subst (λ (x : Key). 0 < length x) w.1 (full above w.0))) in
      let key : key_at (new_entry above name attributes) ≡ key_of name = new_entry_key above name attributes long w.1 in
      let none : is_there t.entries (key_of name) ≡ false = none_there (is_there t.entries (key_of name)) (has same_key t.pins (key_of name) || has same_key [] (key_of name)) free in
      record {
        absent = ap (is_there t.entries) key ∙ none;
        below = record {
          above = above;
          there = w.0;
          spelled = ap (λ (r : Rdn). above.name ++ r ∷ []) (sym (last_of_end above.name (last_rdn name)));
        };
      }

  can_remove : (name : Name) (at : Named) → entry_at t.entries (key_of name) ≡ Some at → (IsPrefix (key_of name) pin → ⊥)
      → has_below t.entries (key_of name) ≡ false → CanRemove pin t.entries at.name
  can_remove name at there off leaf =
      let w = entry_found t.entries (key_of name) at there in
      record {
        there = (there_decides t.entries (key_at at)).1 (at, w.0, refl);
        other = ap (λ (x : Key). same_key x pin) w.1 ∙ not_pin t (key_of name) pin off;
        leaf = ap (has_below t.entries) w.1 ∙ leaf;
      }

  can_modify : (name : Name) (at : Named) (new : Entry) → entry_at t.entries (key_of name) ≡ Some at → CanModify t.entries (record at { entry = new })
  can_modify name at new there =
      let w = entry_found t.entries (key_of name) at there in
      record { old = at; there = ap (entry_at t.entries) w.1 ∙ there; spelled = refl }

  can_rename : (name : Name) (rdn : Rdn) (at : Named) (new : Entry) → entry_at t.entries (key_of name) ≡ Some at → (IsPrefix (key_of name) pin → ⊥)
      → clashes (ground_of t) name rdn ≡ false → CanRename pin t.entries at.name (record { name = name_after name rdn at; entry = new })
  can_rename name rdn at new there off free =
      let w = entry_found t.entries (key_of name) at there in
      let long : 0 < length name = filled_name name (subst (λ (x : Key). 0 < length x) w.1 (full at w.0)) in
      let deep : length at.name ≡ length name = sym (key_length at.name) ∙ ap length w.1 ∙ key_length name in
      let none : drop (length (name_above name) + 1) at.name ≡ [] =
      drop_all (length (name_above name) + 1) at.name (omega (arith, length-take (length name - 1) name)) in
      let cut : length (name_above name) ≡ length at.name - 1 = omega (arith, length-take (length name - 1) name) in
      let short : name_after name rdn at ≡ name_above at.name ++ rdn ∷ [] =
      ap (λ (rest : Name). take (length (name_above name)) at.name ++ rdn ∷ rest) none
      ∙ ap (λ (n : ℕ). take n at.name ++ rdn ∷ []) cut in
      let key : key_of (name_after name rdn at) ≡ new_key name rdn =
      name_after_key name rdn at long (subst (λ (x : Key). IsPrefix (key_of name) x) (sym w.1) (prefix_itself (key_of name)))
      ∙ ap (λ (x : Key). new_key name rdn ++ x) (drop_all (length (key_of name)) (key_at at) (let m : length (key_at at) ≡ length (key_of name) = ap length w.1 in omega arith))
      ∙ nothing_more (new_key name rdn) in
      record {
        old = at;
        there = ap (entry_at t.entries) w.1 ∙ there;
        other = ap (λ (x : Key). same_key x pin) w.1 ∙ not_pin t (key_of name) pin off;
        spelled = short ∙ ap (λ (r : Rdn). name_above at.name ++ r ∷ []) (sym (new_end name rdn at w.1 long));
        free =
            ap (λ (x : Key). not (same_key x (key_at at)) && is_there t.entries x) key
            ∙ ap (λ (x : Key). not (same_key (new_key name rdn) x) && is_there t.entries (new_key name rdn)) w.1
            ∙ free_name (not (same_key (new_key name rdn) (key_of name))) (is_there t.entries (new_key name rdn))
            (has same_key t.pins (new_key name rdn) || has same_key [] (new_key name rdn)) free;
      }
    where
      nothing_more : (x : Key) → x ++ [] ≡ x
      nothing_more [] = refl
      nothing_more (r ∷ x) = ap (λ (y : Key). r ∷ y) (nothing_more x)

  -- the step that is noted can be done
  noted_can : (body : Body) (us : List Named) → is_update body ≡ true → update (ground_of t) body ≡ Ok us
      → (s : Step) × (step_of t.entries body ≡ Some s) × CanDo pin t.entries s
  noted_can (Read name selection) us up h = cc
  noted_can (Compare name assertion) us up h = cc
  noted_can (ListBelow name) us up h = cc
  noted_can (Search base subset f selection) us up h = cc
  noted_can (AddEntry name attributes) us up h =
      let a = added (ground_of t) name attributes us h in (
        Add (new_entry a.above name attributes),
        ap (option_map (λ (above : Named). Add (new_entry above name attributes))) a.there,
        can_add name attributes a.above a.there a.free,
      )
  noted_can (RemoveEntry name) us up h =
      let a = removed (ground_of t) name us h in (
        Remove a.at.name,
        ap (option_map (λ (old : Named). Remove old.name)) a.there,
        can_remove name a.at a.there (not_over_pin (ground_of t) (key_of name) pin a.above held) a.below,
      )
  noted_can (ModifyEntry name changes) us up h =
      let a = changed_so (ground_of t) name changes us h in (
        Modify (record a.at { entry = a.new }),
        ap (in_option None (λ (old : Named). modify_step old (modified (last_rdn name) changes old.entry))) a.there
            ∙ ap (modify_step a.at) a.done,
        can_modify name a.at a.new a.there,
      )
  noted_can (ModifyDn name rdn drops) us up h =
      let a = renamed_so (ground_of t) name rdn drops us h in (
        Rename a.at.name (record { name = name_after name rdn a.at; entry = renamed (last_rdn name) rdn drops a.at.entry }),
        ap (option_map (λ (old : Named). Rename old.name (record {
          name = name_after name rdn old;
          entry = renamed (last_rdn name) rdn drops old.entry;
        }))) a.there,
        can_rename name rdn a.at (renamed (last_rdn name) rdn drops a.at.entry) a.there (not_over_pin (ground_of t) (key_of name) pin a.above held) a.free,
      )

some_step : (a b : Step) → Some a ≡ Some b → a ≡ b
some_step a b e = cc

pub step_can_be_done : StepCanBeDone
step_can_be_done k t u r pin step good is up h at noted =
    let own = (belongs_decides t.pins pin (key_of (target_of r.body))).0 at in
    let long = longest_is t.pins (key_of (target_of r.body)) pin own in
    let w = parts_after k t u r pin good is up h long in
    let v = accepted_over (ground_of (only_part t pin)) r.body (part u pin) w.0 in
    let n = noted_can (only_part t pin) pin own.0
    (λ e i. tree_filled k t good is e (of_part k t good is pin e i).0) r.body (part u pin) up v.1 in
    subst (λ (s : Step). CanDo pin (part t pin) s) (some_step n.0 step (sym n.1 ∙ noted)) n.2
