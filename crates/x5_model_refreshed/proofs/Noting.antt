-- An accepted update, noted as a step, replays as the update: by what each update gives in the context by itself.
use Rattle.std.proofs.Common.{◌≡◌, ℕ, ◌+◌, ◌-◌, ◌<◌, Bool, true, false, not, List, [], ◌∷◌, ◌++◌, map, length, take, drop, refl, sym, ap, subst, ◌∙◌, arith, length-take, Some, None, Ok, if◌then◌else◌}
use Rattle.std.specs.List.{filter}
use Rattle.std.specs.Option.{option_map}
use Rattle.std.proofs.lemmas.List.{drop_all}
use Rattle.x5_model.specs.Words.{in_option}
use Rattle.x5_model.specs.Members.{In, here, there}
use Rattle.x5_model.specs.Keys.{Key, same_key, is_prefix}
use Rattle.x5_model.specs.Values.{Rdn, Name, key_of, last_rdn, name_above}
use Rattle.x5_model.specs.Entries.{Entry, Named}
use Rattle.x5_model.specs.Changes.{modified, renamed}
use Rattle.x5_model.specs.Requests.{Body, Read, Compare, ListBelow, Search, AddEntry, RemoveEntry, ModifyEntry, ModifyDn}
use Rattle.x5_model.proofs.KeyLaws.{key_decides}
use Rattle.x5_model.proofs.Ascending.{filter_ascending}
use Rattle.x5_model_tree.specs.Tree.{Tree, key_at, named_below, sorted_entries, belongs, part}
use Rattle.x5_model_tree.specs.Ask.{is_update}
use Rattle.x5_model_tree.specs.Apply.{ground_of, replace_at, respelled, update}
use Rattle.x5_model_tree.proofs.Order.{named_chain}
use Rattle.x5_model_tree.proofs.Longest.{longest_is, belongs_decides}
use Rattle.x5_model_run.specs.Needs.{target_of}
use Rattle.x5_model_theory.proofs.Stages.{key_length}
use Rattle.x5_model_updates.specs.Afterwards.{only_part, new_entry, name_after}
use Rattle.x5_model_updates.proofs.Lookups.{OneEach, one_each, entry_found}
use Rattle.x5_model_updates.proofs.Outcomes.{added, removed, changed_so, renamed_so, accepted_over, moved_entry}
use Rattle.x5_model_updates.proofs.Renaming.{filled_name}
use Rattle.x5_model_updates.proofs.Trees.{of_part, tree_filled}
use Rattle.x5_model_updates.proofs.After.{parts_after}
use Rattle.x5_model_refreshed.specs.Steps.{Step, Add, Remove, Modify, Rename, moved_along, replayed, modify_step, step_of}
use Rattle.x5_model_refreshed.specs.Noting.{StepIsUpdate}

-- ---- lists

map_alike : {A B : Type 0} (f g : A → B) (xs : List A) → ((x : A) → In x xs → f x ≡ g x) → map f xs ≡ map g xs
map_alike f g [] h = refl
map_alike {A} {B} f g (x ∷ xs) h =
    ap (λ (y : B). y ∷ map f xs) (h x here)
    ∙ ap (λ (ys : List B). g x ∷ ys) (map_alike f g xs (λ y i. h y (there i)))

pub last_of_end : (n : Name) (r : Rdn) → last_rdn (n ++ r ∷ []) ≡ r
last_of_end [] r = refl
last_of_end (q ∷ []) r = refl
last_of_end (q ∷ s ∷ n) r = last_of_end (s ∷ n) r

-- ---- a renamed entry takes along what is below it

-- the names above are as long for each spelling of a key
same_above : (m n : Name) → key_of m ≡ key_of n → length (name_above m) ≡ length (name_above n)
same_above m n q =
    let l : length m ≡ length n = sym (key_length m) ∙ ap length q ∙ key_length n in
    omega (arith, length-take (length m - 1) m, length-take (length n - 1) n)

-- the new name ends with the new RDN
pub new_end : (name : Name) (rdn : Rdn) (old : Named) → key_at old ≡ key_of name → 0 < length name
    → last_rdn (name_after name rdn old) ≡ rdn
new_end name rdn old q full =
    let l : length old.name ≡ length name = sym (key_length old.name) ∙ ap length q ∙ key_length name in
    let none : drop (length (name_above name) + 1) old.name ≡ [] =
    drop_all (length (name_above name) + 1) old.name (omega (arith, length-take (length name - 1) name)) in
    ap (λ (rest : Name). last_rdn (take (length (name_above name)) old.name ++ rdn ∷ rest)) none
    ∙ last_of_end (take (length (name_above name)) old.name) rdn

abbrev goes : ℕ → Rdn → Named → Named → Bool → Bool → Named
goes above rdn new e same below =
    if same then new else (if below then record e { name = respelled above rdn e.name } else e)

along_is : (name before : Name) (rdn : Rdn) (new e : Named) → key_of before ≡ key_of name → last_rdn new.name ≡ rdn
    → moved_along before new e
    ≡ goes (length (name_above name)) rdn new e (same_key (key_at e) (key_of name)) (is_prefix (key_of name) (key_at e))
along_is name before rdn new e q r =
    ap (λ (x : Key). goes (length (name_above before)) (last_rdn new.name) new e (same_key (key_at e) x) (is_prefix x (key_at e))) q
    ∙ ap (λ (n : ℕ). goes n (last_rdn new.name) new e (same_key (key_at e) (key_of name)) (is_prefix (key_of name) (key_at e))) (same_above before name q)
    ∙ ap (λ (x : Rdn). goes (length (name_above name)) x new e (same_key (key_at e) (key_of name)) (is_prefix (key_of name) (key_at e))) r

moves_alike : (name : Name) (rdn : Rdn) (new : Entry) (old e : Named) → key_at old ≡ key_of name → 0 < length name
    → (key_at e ≡ key_of name → e ≡ old)
    → moved_entry name rdn new e ≡ moved_along old.name (record { name = name_after name rdn old; entry = new }) e
moves_alike name rdn new old e q full one =
    at (same_key (key_at e) (key_of name)) refl
    ∙ sym (along_is name old.name rdn (record { name = name_after name rdn old; entry = new }) e q (new_end name rdn old q full))
  where
    at : (b : Bool) → same_key (key_at e) (key_of name) ≡ b
        → goes (length (name_above name)) rdn (record { name = name_after name rdn e; entry = new }) e b (is_prefix (key_of name) (key_at e))
        ≡ goes (length (name_above name)) rdn (record { name = name_after name rdn old; entry = new }) e b (is_prefix (key_of name) (key_at e))
    at true s = ap (λ (x : Named). record { name = name_after name rdn x; entry = new }) (one ((key_decides (key_at e) (key_of name)).0 s))
    at false s = refl

-- ---- the step of an update

-- what an update makes of a tree's entries, its step makes of them
abbrev IsNoted : List Named → Body → List Named → Type 0
IsNoted es body us = (s : Step) × (step_of es body ≡ Some s) × (us ≡ replayed s es)

noted : (t : Tree) (body : Body) (us : List Named) → OneEach t.entries
    → ((e : Named) → In e t.entries → 0 < length (key_at e)) → is_update body ≡ true → update (ground_of t) body ≡ Ok us
    → IsNoted t.entries body us
noted t (Read name selection) us one full up h = cc
noted t (Compare name assertion) us one full up h = cc
noted t (ListBelow name) us one full up h = cc
noted t (Search base subset f selection) us one full up h = cc
noted t (AddEntry name attributes) us one full up h =
    let a = added (ground_of t) name attributes us h in (
      Add (new_entry a.above name attributes),
      ap (option_map (λ (above : Named). Add (new_entry above name attributes))) a.there,
      a.made,
    )
noted t (RemoveEntry name) us one full up h =
    let a = removed (ground_of t) name us h in
    let w = entry_found t.entries (key_of name) a.at a.there in (
      Remove a.at.name,
      ap (option_map (λ (old : Named). Remove old.name)) a.there,
      a.made ∙ ap (λ (x : Key). filter (λ (e : Named). not (same_key (key_at e) x)) t.entries) (sym w.1),
    )
noted t (ModifyEntry name changes) us one full up h =
    let a = changed_so (ground_of t) name changes us h in
    let w = entry_found t.entries (key_of name) a.at a.there in (
      Modify (record a.at { entry = a.new }),
      ap (in_option None (λ (old : Named). modify_step old (modified (last_rdn name) changes old.entry))) a.there
          ∙ ap (modify_step a.at) a.done,
      a.made ∙ ap (λ (x : Key). replace_at x (record a.at { entry = a.new }) t.entries) (sym w.1),
    )
noted t (ModifyDn name rdn drops) us one full up h =
    let a = renamed_so (ground_of t) name rdn drops us h in
    let w = entry_found t.entries (key_of name) a.at a.there in
    let long : 0 < length name = filled_name name (subst (λ (x : Key). 0 < length x) w.1 (full a.at w.0)) in
    let new : Entry = renamed (last_rdn name) rdn drops a.at.entry in (
      Rename a.at.name (record { name = name_after name rdn a.at; entry = new }),
      ap (option_map (λ (old : Named). Rename old.name (record {
        name = name_after name rdn old;
        entry = renamed (last_rdn name) rdn drops old.entry;
      }))) a.there,
      a.made ∙ ap sorted_entries (map_alike (moved_entry name rdn new) (moved_along a.at.name (record { name = name_after name rdn a.at; entry = new })) t.entries
          (λ e i. moves_alike name rdn new a.at e w.1 long (λ s. one e a.at i w.0 (s ∙ sym w.1)))),
    )

pub step_is_update : StepIsUpdate
step_is_update k t u r pin good is up h at =
    let long = longest_is t.pins (key_of (target_of r.body)) pin ((belongs_decides t.pins pin (key_of (target_of r.body))).0 at) in
    let w = parts_after k t u r pin good is up h long in
    let v = accepted_over (ground_of (only_part t pin)) r.body (part u pin) w.0 in
    let n = noted (only_part t pin) r.body (part u pin)
    (one_each (part t pin) (filter_ascending named_below named_chain (λ (e : Named). belongs t.pins pin (key_at e)) t.entries is.in_order))
    (λ e i. tree_filled k t good is e (of_part k t good is pin e i).0) up v.1 in
    record { step = n.0; noted = n.1; makes = n.2; others = w.1 }
