-- What updates of entries make is what the one tree's updates are.
use Rattle.std.proofs.Common.{◌≡◌, ℕ, ◌+◌, ◌<◌, Bool, true, false, ◌||◌, inl, inr, List, [], ◌∷◌, ◌++◌, length, take, drop, set, get_or, refl, sym, ap, subst, ◌∙◌, Option, Some, None, Result, Ok, Err}
use Rattle.std.specs.List.{list_any}
use Rattle.std.specs.Option.{is_some}
use Rattle.x5_model.specs.Words.{has, ascending, first_of}
use Rattle.x5_model.specs.Keys.{Key, same_key, is_prefix, parent}
use Rattle.x5_model.specs.Values.{Rdn, Name, key_of, last_rdn}
use Rattle.x5_model.specs.Entries.{Entry, Named}
use Rattle.x5_model.specs.Requests.{Attribute, Change}
use Rattle.x5_model.specs.Attributes.{added_entry}
use Rattle.x5_model.specs.Changes.{ChangedEntry, modified}
use Rattle.x5_model.specs.Answers.{DirError, NoSuchObject, UpdateProblem}
use Rattle.x5_model.specs.Problems.{entry_already_exists, affects_multiple_dsas, not_allowed_on_non_leaf}
use Rattle.x5_model.specs.Statics.{attribute_repeats}
use Rattle.x5_model.proofs.KeyLaws.{key_decides}
use Rattle.x5_model.proofs.Lists.{true_or_false, of_has}
use Rattle.x5_model_tree.specs.Tree.{key_at, keys_of, named_below, entry_at, has_below, matched, sorted_entries}
use Rattle.x5_model_tree.specs.Apply.{UpdatedEntries, above_pin, is_taken, replace_at, add, remove, modify}
use Rattle.x5_model_updates.specs.Afterwards.{new_entry}
use Rattle.x5_model_updates.proofs.Outcomes.{add_none, add_taken, add_free, remove_none, remove_some, modify_none, modify_some}
use Rattle.x5_model_updates.proofs.Renaming.{new_entry_key}
use Rattle.x5_ops.specs.AnswerViews.{error_view}
use Rattle.x5_ops.specs.ChangeView.{IsRefused, added}
use Rattle.x5_ops.specs.declared.changes.ChangeFault.{ChangeFault}
use Rattle.x5_ops.specs.declared.changes.ChangeFault.TheVariants as faults
use Rattle.x5_one.specs.Making.{ground, PinsThere, IsStopped}
use Rattle.x5_one.specs.Places.{IsPlace}
use Rattle.x5_one.proofs.Runs.{key_there, found_entry, missing_entry, no_entry, there_by_entry}
use Rattle.x5_one.proofs.Changing.{put_in, take_out, put_over, next_is}

-- ---- stopped

pub stopped_as : (f : ChangeFault) (o p : UpdatedEntries) → p ≡ o → IsStopped f o → IsStopped f p
stopped_as (faults.Refused r) o p e s = λ names. e ∙ s names
stopped_as faults.NoMemory o p e s = s

-- a refusal of the entry's change is one of the update
pub refused_as : (f : ChangeFault) (m : ChangedEntry) (o : UpdatedEntries) → ((x : DirError) → m ≡ Err x → o ≡ Err x) → IsRefused f m → IsStopped f o
refused_as (faults.Refused r) m o g s = λ names. g (error_view names r) (s names)
refused_as faults.NoMemory m o g s = s

pub absent_as : (f : ChangeFault) (xs entries : List Named) (k key : Key) (o : UpdatedEntries) → xs ≡ entries → k ≡ key → o ≡ Err (NoSuchObject (matched entries key)) → IsStopped f (Err (NoSuchObject (matched xs k))) → IsStopped f o
absent_as f xs entries k key o e l is s =
    stopped_as f (Err (NoSuchObject (matched xs k))) o (is ∙ (λ i. Err (NoSuchObject (matched (sym e i) (sym l i))))) s

pub place_as : (xs entries : List Named) (k key : Key) (r : Result ℕ ℕ) → xs ≡ entries → k ≡ key → IsPlace (keys_of xs) k r → IsPlace (keys_of entries) key r
place_as xs entries k key r e l w = subst (λ (ys : List Named). IsPlace (keys_of ys) key r) e (subst (λ (q : Key). IsPlace (keys_of xs) q r) l w)

or_nothing : (a : Bool) → (a || false) ≡ a
or_nothing true = refl
or_nothing false = refl

pub above_is : (entries : List Named) (pins : List Key) (key : Key) (b : Bool) → list_any (is_prefix key) pins ≡ b → above_pin (ground entries pins) key ≡ b
above_is entries pins key b e = or_nothing (list_any (is_prefix key) pins) ∙ e

module _ (entries : List Named) (pins : List Key) (h : ascending named_below entries ≡ true) where
  -- ---- names that are taken, and that are free

  pub taken_at : (key : Key) (i : ℕ) (d : Named) → IsPlace (keys_of entries) key (Ok i) → is_taken (ground entries pins) key ≡ true
  taken_at key i d w =
      ap (λ (b : Bool). b || (has same_key pins key || false)) (there_by_entry entries key ∙ ap (λ (o : Option Named). is_some o) (found_entry entries key i d h w))

  pub free_at : (key : Key) (i : ℕ) → PinsThere entries pins → IsPlace (keys_of entries) key (Err i) → is_taken (ground entries pins) key ≡ false
  free_at key i there w =
      (λ j. (there_by_entry entries key ∙ ap (λ (o : Option Named). is_some o) (missing_entry entries key i w)) j || (has same_key pins key || false))
      ∙ or_nothing (has same_key pins key) ∙ none
    where
      none : has same_key pins key ≡ false
      none = elim (true_or_false (has same_key pins key)) [
        | inr f ↦ f
        | inl t ↦ absurd (let p = there key (of_has same_key key_decides key pins t) in no_entry entries key i w p.0 p.1 p.2)
      ]

  -- ---- addEntry

  module _ (name : Name) (attributes : List Attribute) where
    pub add_missing : (i : ℕ) → IsPlace (keys_of entries) (parent (key_of name)) (Err i) → add (ground entries pins) name attributes ≡ Err (NoSuchObject (matched entries (parent (key_of name))))
    add_missing i w = add_none (ground entries pins) name attributes (missing_entry entries (parent (key_of name)) i w)

    pub add_there : (i j : ℕ) (d : Named) → IsPlace (keys_of entries) (parent (key_of name)) (Ok i) → IsPlace (keys_of entries) (key_of name) (Ok j) → add (ground entries pins) name attributes ≡ Err (UpdateProblem entry_already_exists)
    add_there i j d v w =
        add_taken (ground entries pins) name attributes (get_or entries i d) (found_entry entries (parent (key_of name)) i d h v) (taken_at (key_of name) j d w)

    pub add_made : (i j : ℕ) (above new : Named) → 0 < length name → PinsThere entries pins → IsPlace (keys_of entries) (parent (key_of name)) (Ok i) → IsPlace (keys_of entries) (key_of name) (Err j)
        → above ≡ get_or entries i above → new ≡ new_entry above name attributes → add (ground entries pins) name attributes ≡ Ok (take j entries ++ new ∷ drop j entries)
    add_made i j above new full there v w is made =
        let at : entry_at entries (parent (key_of name)) ≡ Some above = found_entry entries (parent (key_of name)) i above h v ∙ ap (λ (e : Named). Some e) (sym is) in
        let own : key_at above ≡ parent (key_of name) = ap key_at is ∙ (key_there entries (parent (key_of name)) i above v).1 in
        let key : key_at new ≡ key_of name = ap key_at made ∙ new_entry_key above name attributes full own in
        add_free (ground entries pins) name attributes above at (free_at (key_of name) j there w)
        ∙ ap (λ (e : Named). Ok (sorted_entries (entries ++ e ∷ []))) (sym made)
        ∙ ap (λ (es : List Named). Ok es) (sym (put_in entries new j h (subst (λ (k : Key). IsPlace (keys_of entries) k (Err j)) (sym key) w)))

  -- ---- removeEntry

  module _ (name : Name) where
    pub remove_missing : (i : ℕ) → IsPlace (keys_of entries) (key_of name) (Err i) → remove (ground entries pins) name ≡ Err (NoSuchObject (matched entries (key_of name)))
    remove_missing i w = remove_none (ground entries pins) name (missing_entry entries (key_of name) i w)

    pub remove_above : (i : ℕ) (d : Named) → IsPlace (keys_of entries) (key_of name) (Ok i) → list_any (is_prefix (key_of name)) pins ≡ true → remove (ground entries pins) name ≡ Err (UpdateProblem affects_multiple_dsas)
    remove_above i d w a =
        remove_some (ground entries pins) name (get_or entries i d) true (has_below entries (key_of name)) (found_entry entries (key_of name) i d h w) (above_is entries pins (key_of name) true a) refl

    pub remove_filled : (i : ℕ) (d : Named) → IsPlace (keys_of entries) (key_of name) (Ok i) → list_any (is_prefix (key_of name)) pins ≡ false → has_below entries (key_of name) ≡ true
        → remove (ground entries pins) name ≡ Err (UpdateProblem not_allowed_on_non_leaf)
    remove_filled i d w a b =
        remove_some (ground entries pins) name (get_or entries i d) false true (found_entry entries (key_of name) i d h w) (above_is entries pins (key_of name) false a) b

    pub remove_made : (i : ℕ) (d : Named) → IsPlace (keys_of entries) (key_of name) (Ok i) → list_any (is_prefix (key_of name)) pins ≡ false → has_below entries (key_of name) ≡ false
        → remove (ground entries pins) name ≡ Ok (take i entries ++ drop (i + 1) entries)
    remove_made i d w a b =
        let at = key_there entries (key_of name) i d w in
        remove_some (ground entries pins) name (get_or entries i d) false false (found_entry entries (key_of name) i d h w) (above_is entries pins (key_of name) false a) b
        ∙ ap (λ (es : List Named). Ok es) (sym (take_out entries (key_of name) i d h at.0 at.1))
        ∙ ap (λ (n : ℕ). Ok (take i entries ++ drop n entries)) (sym (next_is i))

  -- ---- modifyEntry

  module _ (name : Name) (changes : List Change) where
    pub modify_missing : (i : ℕ) → IsPlace (keys_of entries) (key_of name) (Err i) → modify (ground entries pins) name changes ≡ Err (NoSuchObject (matched entries (key_of name)))
    modify_missing i w = modify_none (ground entries pins) name changes (missing_entry entries (key_of name) i w)

    pub modify_refused : (i : ℕ) (e : Named) (x : DirError) → IsPlace (keys_of entries) (key_of name) (Ok i) → e ≡ get_or entries i e → modified (last_rdn name) changes e.entry ≡ Err x → modify (ground entries pins) name changes ≡ Err x
    modify_refused i e x w is m =
        modify_some (ground entries pins) name changes e (Err x) (found_entry entries (key_of name) i e h w ∙ ap (λ (y : Named). Some y) (sym is)) m

    pub modify_made : (i : ℕ) (e new : Named) (entry : Entry) → IsPlace (keys_of entries) (key_of name) (Ok i) → e ≡ get_or entries i e → modified (last_rdn name) changes e.entry ≡ Ok entry → new ≡ record e { entry = entry }
        → modify (ground entries pins) name changes ≡ Ok (set entries i new)
    modify_made i e new entry w is m made =
        let at = key_there entries (key_of name) i e w in
        modify_some (ground entries pins) name changes e (Ok entry) (found_entry entries (key_of name) i e h w ∙ ap (λ (y : Named). Some y) (sym is)) m
        ∙ ap (λ (y : Named). Ok (replace_at (key_of name) y entries)) (sym made)
        ∙ ap (λ (es : List Named). Ok es) (sym (put_over entries (key_of name) i e new h at.0 at.1))

-- what is added, where nothing repeats
abbrev by_repeats : Rdn → List Attribute → Option DirError → ChangedEntry
by_repeats rdn attributes None = Ok (added_entry rdn attributes)
by_repeats rdn attributes (Some x) = Err x

same_ok : (a b : Entry) → ◌≡◌ {A = ChangedEntry} (Ok a) (Ok b) → a ≡ b
same_ok a b e = cc

pub added_is : (rdn : Rdn) (attributes : List Attribute) (e : Entry) → first_of (attribute_repeats [] attributes) ≡ None → added rdn attributes ≡ Ok e → e ≡ added_entry rdn attributes
added_is rdn attributes e none is = same_ok e (added_entry rdn attributes) (sym is ∙ ap (by_repeats rdn attributes) none)
