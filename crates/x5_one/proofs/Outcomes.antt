-- What a modifyDN makes of entries is what the one tree's modifyDN is, and so it is with every update; the tree stays sound.
use Rattle.std.proofs.Common.{◌≡◌, ℕ, ◌-◌, ◌<◌, ◌≤◌, Bool, true, false, not, ◌&&◌, inl, inr, List, ◌++◌}
use Rattle.std.proofs.Common.{length, map, take, drop, get_or, refl, sym, ap, subst, ◌∙◌, arith, Some, None, Ok, Err}
use Rattle.std.specs.List.{list_any, filter}
use Rattle.x5_model.specs.Words.{ascending}
use Rattle.x5_model.specs.Members.{In}
use Rattle.x5_model.specs.Keys.{Key, IsPrefix, same_key, is_prefix}
use Rattle.x5_model.specs.Values.{Rdn, Name, key_of, last_rdn, name_above}
use Rattle.x5_model.specs.Entries.{Entry, Named}
use Rattle.x5_model.specs.Requests.{ModifyDn}
use Rattle.x5_model.specs.Changes.{renamed, single_valued}
use Rattle.x5_model.specs.Answers.{DirError, NoSuchObject, UpdateProblem}
use Rattle.x5_model.specs.Problems.{entry_already_exists, affects_multiple_dsas}
use Rattle.x5_model.proofs.KeyLaws.{key_decides}
use Rattle.x5_model_tree.specs.Tree.{Tree, key_at, keys_of, named_below, entry_at, matched, sorted_entries}
use Rattle.x5_model_tree.specs.Apply.{Ground, rename}
use Rattle.x5_model_theory.specs.Knowledge.{IsEntry}
use Rattle.x5_model_updates.specs.Afterwards.{new_key}
use Rattle.x5_model_updates.proofs.After.{gives_by}
use Rattle.x5_model_updates.proofs.Alike.{new_key_filled}
use Rattle.x5_model_updates.proofs.Outcomes.{rename_none, rename_some, clashes, moved_entry}
use Rattle.x5_model_updates.proofs.Renaming.{filled_name}
use Rattle.x5_model_updates.proofs.Trees.{above_entry, area_of_pin, area_of_entry, entry_in_area, of_part, tree_filled}
use Rattle.x5_one.specs.Making.{ground, ground_tree, PinsThere}
use Rattle.x5_one.specs.Parts.{IsSound}
use Rattle.x5_one.specs.Places.{IsPlace}
use Rattle.x5_one.specs.Moving.{IsNewPlace, IsPlanned, IsSettled, IsTurned, moved_run}
use Rattle.x5_one.specs.declared.renaming.Move.{Move}
use Rattle.x5_one.proofs.Searching.{in_get}
use Rattle.x5_one.proofs.Runs.{key_there, found_entry, missing_entry, no_entry}
use Rattle.x5_one.proofs.Changing.{not_same}
use Rattle.x5_one.proofs.Making.{above_is, taken_at, free_at}
use Rattle.x5_one.proofs.Moving.{nobody, run_moved, stays, goes_back, goes_on}

module _ (entries : List Named) (pins : List Key) (s : IsSound (ground_tree entries pins)) where
  abbrev t : Tree
  t = ground_tree entries pins

  pub sound_order : ascending named_below entries ≡ true
  sound_order = s.tree.in_order

  pub sound_pins : PinsThere entries pins
  sound_pins p i =
      let c = area_of_pin s.knowledge t s.coherent s.tree p i in
      let e = entry_in_area s.knowledge t s.coherent s.tree c.0 c.0.prefix c.1 (s.coherent.headed c.0 c.1) in
      (e.0, (of_part s.knowledge t s.coherent s.tree c.0.prefix e.0 e.1).0, e.2 ∙ sym c.2)

  -- below a name that no entry has there is none
  pub none_under : (n : Key) (i : ℕ) → IsPlace (keys_of entries) n (Err i) → 0 < length n → (y : Named) → In y entries
      → IsPrefix n (key_at y) → ⊥
  none_under n i w full y j p =
      let a = area_of_entry s.knowledge t s.coherent s.tree y j in
      let b : IsEntry s.knowledge n = above_entry s.knowledge s.coherent (length (key_at y)) (key_at y) n (omega arith)
      (a.0, a.1, a.2) p full in
      let e = entry_in_area s.knowledge t s.coherent s.tree b.0 n b.1 b.2 in
      no_entry entries n i w e.0 (of_part s.knowledge t s.coherent s.tree b.0.prefix e.0 e.1).0 e.2

  pub name_filled : (name : Name) (i : ℕ) → IsPlace (keys_of entries) (key_of name) (Ok i) → 0 < length name
  name_filled name i w =
      let at = key_there entries (key_of name) i nobody w in
      filled_name name (subst (λ (k : Key). 0 < length k) at.1 (tree_filled s.knowledge t s.coherent s.tree
      (get_or entries i nobody) (in_get entries i nobody at.0)))

-- ---- refusals

module _ (entries : List Named) (pins : List Key) (h : ascending named_below entries ≡ true) (name : Name) (rdn : Rdn)
    (drops : Bool) where
  abbrev g : Ground
  g = ground entries pins

  pub rename_missing : (i : ℕ) → IsPlace (keys_of entries) (key_of name) (Err i)
      → rename (ground entries pins) name rdn drops ≡ Err (NoSuchObject (matched entries (key_of name)))
  rename_missing i w = rename_none g name rdn drops (missing_entry entries (key_of name) i w)

  pub rename_above : (i : ℕ) → IsPlace (keys_of entries) (key_of name) (Ok i)
      → list_any (is_prefix (key_of name)) pins ≡ true
      → rename (ground entries pins) name rdn drops ≡ Err (UpdateProblem affects_multiple_dsas)
  rename_above i w a =
      rename_some g name rdn drops (get_or entries i nobody) true
      (single_valued (renamed (last_rdn name) rdn drops (get_or entries i nobody).entry)) (clashes g name rdn)
      (found_entry entries (key_of name) i nobody h w) (above_is entries pins (key_of name) true a) refl refl

  module _ (i : ℕ) (e : Named) (w : IsPlace (keys_of entries) (key_of name) (Ok i)) (is : e ≡ get_or entries i e)
      (a : list_any (is_prefix (key_of name)) pins ≡ false) where
    found : entry_at entries (key_of name) ≡ Some e
    found = found_entry entries (key_of name) i e h w ∙ ap (λ (y : Named). Some y) (sym is)

    pub rename_doubled : (x : DirError) → single_valued (renamed (last_rdn name) rdn drops e.entry) ≡ Err x
        → rename (ground entries pins) name rdn drops ≡ Err x
    rename_doubled x m =
        rename_some g name rdn drops e false (Err x) (clashes g name rdn) found
        (above_is entries pins (key_of name) false a) m refl

    pub rename_taken : (new : Entry) → single_valued (renamed (last_rdn name) rdn drops e.entry) ≡ Ok new
        → IsNewPlace entries (key_of name) (new_key name rdn) i None
        → rename (ground entries pins) name rdn drops ≡ Err (UpdateProblem entry_already_exists)
    rename_taken new m v =
        rename_some g name rdn drops e false (Ok new) true found (above_is entries pins (key_of name) false a) m
        ((λ j. not (not_same (new_key name rdn) (key_of name) v.0 j)
        && taken_at entries pins h (new_key name rdn) v.1.0 nobody v.1.1 j))

    -- ---- what is made

    module _ (s : IsSound (ground_tree entries pins)) (new : Entry)
        (m : single_valued (renamed (last_rdn name) rdn drops e.entry) ≡ Ok new) where
      abbrev made : List Named
      made = sorted_entries (map (moved_entry name rdn new) entries)

      no_clash : (place : ℕ) → IsNewPlace entries (key_of name) (new_key name rdn) i (Some place)
          → clashes g name rdn ≡ false
      no_clash place (inl v) = clear ((key_decides (new_key name rdn) (key_of name)).1 v.0)
        where
          clear : same_key (new_key name rdn) (key_of name) ≡ true → clashes g name rdn ≡ false
          clear q = ap (λ (b : Bool). not b && taken) q
            where
              taken : Bool
              taken = Rattle.x5_model_tree.specs.Apply.is_taken g (new_key name rdn)
      no_clash place (inr v) = both (not (same_key (new_key name rdn) (key_of name)))
          (free_at entries pins h (new_key name rdn) place (sound_pins entries pins s) v)
        where
          both : (b : Bool) {c : Bool} → c ≡ false → (b && c) ≡ false
          both true q = q
          both false q = refl

      accepted : (place : ℕ) → IsNewPlace entries (key_of name) (new_key name rdn) i (Some place)
          → rename (ground entries pins) name rdn drops ≡ Ok made
      accepted place v =
          rename_some g name rdn drops e false (Ok new) false found (above_is entries pins (key_of name) false a) m
          (no_clash place v)

      made_in_order : rename (ground entries pins) name rdn drops ≡ Ok made → ascending named_below made ≡ true
      made_in_order q = (gives_by s.knowledge (ground_tree entries pins) s.coherent s.tree (ModifyDn name rdn drops) made
          q).0.0

      module _ (end place : ℕ) (first : Named) (rs mid after : List Named)
          (order : i ≤ end) (within : end ≤ length entries)
          (run : take (end - i) (drop i entries) ≡ filter (λ x. is_prefix (key_of name) (key_at x)) entries)
          (head : first ≡ get_or (take (end - i) (drop i entries)) 0 first)
          (moved : rs ≡ moved_run (length (name_above name)) rdn new first (take (end - i) (drop i entries)))
          (put : mid ≡ take i entries ++ (rs ++ drop end entries))
          (v : IsNewPlace entries (key_of name) (new_key name rdn) i (Some place)) where
        full : 0 < length name
        full = name_filled entries pins s name i w

        runs : rs ≡ map (moved_entry name rdn new) (take (end - i) (drop i entries))
        runs = moved ∙ sym (run_moved entries h name rdn new i end w order within run full first head)

        up : ascending named_below made ≡ true
        up = made_in_order (accepted place v)

        unseen : IsPlace (keys_of entries) (new_key name rdn) (Err place) → (y : Named) → In y entries
            → IsPrefix (new_key name rdn) (key_at y) → ⊥
        unseen f = none_under entries pins s (new_key name rdn) place f (new_key_filled name rdn)

        pub rename_back : place ≤ i → IsTurned place i end mid after
            → rename (ground entries pins) name rdn drops ≡ Ok after
        rename_back l turned = accepted place v ∙ ap (λ (es : List Named). Ok es) (sym (by v))
          where
            turned_mid : IsTurned place i end (take i entries ++ (rs ++ drop end entries)) after
            turned_mid = subst (λ (zs : List Named). IsTurned place i end zs after) put turned

            by : IsNewPlace entries (key_of name) (new_key name rdn) i (Some place) → after ≡ made
            by (inl u) = stays entries h name rdn new i end w order within run full rs made runs refl up after u.0
                (subst (λ (n : ℕ). IsTurned n i end (take i entries ++ (rs ++ drop end entries)) after) u.1 turned_mid)
            by (inr f) = goes_back entries h name rdn new i end w order within run full rs made runs refl up place f
                (unseen f) after l turned_mid

        pub rename_on : i < place → IsTurned i end place mid after
            → rename (ground entries pins) name rdn drops ≡ Ok after
        rename_on l turned = accepted place v ∙ ap (λ (es : List Named). Ok es) (sym (by v))
          where
            by : IsNewPlace entries (key_of name) (new_key name rdn) i (Some place) → after ≡ made
            by (inl u) = (let q = u.1 in absurd (omega arith))
            by (inr f) = goes_on entries h name rdn new i end w order within run full rs made runs refl up place f
                (unseen f) after l (subst (λ (zs : List Named). IsTurned i end place zs after) put turned)

-- what is planned is made once it's settled
pub planned_made : (m : Move) (xs ys es after : List Named) (pins : List Key) (name : Name) (rdn : Rdn) (drops a : Bool)
    → xs ≡ es → ys ≡ es
    → ((ps : List Key) → IsSound (ground_tree xs ps) → list_any (is_prefix (key_of name)) ps ≡ a
    → IsPlanned (Ok m) (rename (ground xs ps) name rdn drops) xs)
    → IsSettled m ys after → IsSound (ground_tree es pins) → list_any (is_prefix (key_of name)) pins ≡ a
    → rename (ground es pins) name rdn drops ≡ Ok after
planned_made m xs ys es after pins name rdn drops a ex ey f settled s above =
    subst (λ (zs : List Named). rename (ground zs pins) name rdn drops ≡ Ok after) ex
    (f pins (subst (λ (zs : List Named). IsSound (ground_tree zs pins)) (sym ex) s) above after
    (subst (λ (zs : List Named). IsSettled m zs after) (ey ∙ sym ex) settled))
