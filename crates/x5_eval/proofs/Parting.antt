-- What one context shows of a list or search: by the subset that the message asks for, and in the order of keys.
use Rattle.std.proofs.Common.{◌≡◌, ℕ, Bool, true, false, ◌&&◌, List, [], ◌∷◌, map, refl, sym, ap, subst, ◌∙◌, Option, Some, None}
use Rattle.std.specs.List.{filter}
use Rattle.std.specs.Option.{is_some}
use Rattle.x5_model.specs.Words.{in_option, ascending}
use Rattle.x5_model.specs.Members.{In, here, there}
use Rattle.x5_model.specs.Keys.{Key}
use Rattle.x5_model.specs.Values.{Name, key_of}
use Rattle.x5_model.specs.Entries.{Named}
use Rattle.x5_model.specs.Filters.{Filter}
use Rattle.x5_model.specs.Truth.{selects_entry}
use Rattle.x5_model.specs.Requests.{Subset, Selection, Body, Read, Compare, ListBelow, Search, AddEntry, RemoveEntry, ModifyEntry, ModifyDn}
use Rattle.x5_model.specs.References.{Chained}
use Rattle.x5_model.specs.Answers.{EntryInfo, Sub, Source, Outcome, Listed, Found}
use Rattle.x5_model.proofs.Lists.{both_true, and_true, of_filter}
use Rattle.x5_model.proofs.Ascending.{filter_ascending}
use Rattle.x5_model_tree.specs.Tree.{key_at, named_below}
use Rattle.x5_model_tree.specs.Ask.{in_subset, info_of, sub_of}
use Rattle.x5_model_tree.proofs.Order.{named_chain}
use Rattle.x5_model_run.specs.Journal.{is_done, is_wide}
use Rattle.x5_model_run.specs.Holdings.{Held}
use Rattle.x5_model_run.specs.Placed.{is_query_below}
use Rattle.x5_model_run.specs.Needs.{by_pin, subset_in, subset_of}
use Rattle.x5_model_parts.specs.Parts.{asks_for}
use Rattle.x5_model_serve.specs.Answering.{before_sub, before_info}
use Rattle.x5_model_joins.proofs.Telling.{list_picks}
use Rattle.x5_model_joins.proofs.Entries.{list_order}
use Rattle.x5_eval.specs.Shown.{subs_shown, infos_shown, source_of, whole, shown_by}

-- what is shown of members in order is in order
risen : {E X : Type 0} (low : E → E → Bool) (below : X → X → Bool) (h : E → X) (xs : List E)
    → ((d e : E) → In d xs → In e xs → below (h d) (h e) ≡ low d e) → ascending low xs ≡ true → ascending below (map h xs) ≡ true
risen low below h [] f a = refl
risen low below h (x ∷ []) f a = refl
risen low below h (x ∷ y ∷ ys) f a =
    let b = both_true (low x y) (ascending low (y ∷ ys)) a in
    and_true (below (h x) (h y)) (ascending below (map h (y ∷ ys))) (f x y here (there here) ∙ b.0)
    (risen low below h (y ∷ ys) (λ d e i j. f d e (there i) (there j)) b.1)

module _ (m : Chained) (c : Held) (rising : ascending named_below c.entries ≡ true) where
  -- a list looks just below, or at one pin alone
  subs_rise : (name : Name) (copies : Key → Bool) → m.request.body ≡ ListBelow name
      → ascending before_sub (map (sub_of copies) (filter (λ e. asks_for m (key_at e)) c.entries)) ≡ true
  subs_rise name copies is =
      subst (λ (b : Body). ascending before_sub (map (sub_of copies) (filter (λ e. in_option false (λ s. in_subset s (key_of m.target) (key_at e))
      (subset_in (by_pin m) b)) c.entries)) ≡ true) (sym is)
      (risen named_below before_sub (sub_of copies) (filter picks c.entries)
      (λ d e i j. list_order (is_done m.progress) (is_wide m.kind) m.target copies d e (of_filter picks d c.entries i).1 (of_filter picks e c.entries j).1)
      (filter_ascending named_below named_chain picks c.entries rising))
    where
      picks : Named → Bool
      picks = list_picks (is_done m.progress) (is_wide m.kind) m.target

  infos_rise : (f : Filter) (selection : Selection) (copies : Key → Bool)
      → ascending before_info (map (info_of copies selection) (filter (λ e. asks_for m (key_at e) && selects_entry f e.entry) c.entries)) ≡ true
  infos_rise f selection copies =
      risen named_below before_info (info_of copies selection) (filter (λ e. asks_for m (key_at e) && selects_entry f e.entry) c.entries)
      (λ d e i j. refl)
      (filter_ascending named_below named_chain (λ e. asks_for m (key_at e) && selects_entry f e.entry) c.entries rising)

  module _ (me : ℕ) (stamp : Option ℕ) (subset : Subset) (asked : Some subset ≡ subset_of m) where
    module _ (name : Name) (is : m.request.body ≡ ListBelow name) (copy : Bool) (marked : copy ≡ is_some stamp) (subs : List Sub) (sources : List Source) (outcome : Outcome)
        (shown : subs ≡ map (sub_of (λ key. copy)) (filter (λ e. in_subset subset (key_of m.target) (key_at e)) c.entries))
        (alone : sources ≡ source_of me stamp c ∷ []) (complete : outcome ≡ whole) where
      subs_are : subs ≡ subs_shown m stamp c
      subs_are = shown
          ∙ (λ i. map (sub_of (λ key. marked i)) (filter (λ e. in_option false (λ s. in_subset s (key_of m.target) (key_at e)) (asked i)) c.entries))

      pub list_part : Listed subs sources outcome ≡ shown_by m.request.body m me stamp c
      list_part = (λ i. Listed (subs_are i) (alone i) (complete i)) ∙ sym (ap (λ (b : Body). shown_by b m me stamp c) is)

      pub list_rises : ascending before_sub subs ≡ true
      list_rises = ap (ascending before_sub) subs_are ∙ subs_rise name (λ key. is_some stamp) is

    module _ (base : Name) (within : Subset) (f : Filter) (selection : Selection) (is : m.request.body ≡ Search base within f selection) (copy : Bool) (marked : copy ≡ is_some stamp)
        (infos : List EntryInfo) (sources : List Source) (outcome : Outcome)
        (shown : infos ≡ map (info_of (λ key. copy) selection) (filter (λ e. in_subset subset (key_of m.target) (key_at e) && selects_entry f e.entry) c.entries))
        (alone : sources ≡ source_of me stamp c ∷ []) (complete : outcome ≡ whole) where
      infos_are : infos ≡ infos_shown m f selection stamp c
      infos_are = shown
          ∙ (λ i. map (info_of (λ key. marked i) selection)
          (filter (λ e. in_option false (λ s. in_subset s (key_of m.target) (key_at e)) (asked i) && selects_entry f e.entry) c.entries))

      pub search_part : Found infos sources outcome ≡ shown_by m.request.body m me stamp c
      search_part = (λ i. Found (infos_are i) (alone i) (complete i)) ∙ sym (ap (λ (b : Body). shown_by b m me stamp c) is)

      pub search_rises : ascending before_info infos ≡ true
      search_rises = ap (ascending before_info) infos_are ∙ infos_rise f selection (λ key. is_some stamp)

-- a list or search asks for some subset
pub asks : (m : Chained) → is_query_below m.request.body ≡ true → None ≡ subset_of m → ⊥
asks m q e = by (by_pin m) m.request.body q e
  where
    by : (pinned : Bool) (b : Body) → is_query_below b ≡ true → None ≡ subset_in pinned b → ⊥
    by true (ListBelow name) q e = cc
    by false (ListBelow name) q e = cc
    by pinned (Search base subset f selection) q e = cc
    by pinned (Read name selection) q e = cc
    by pinned (Compare name a) q e = cc
    by pinned (AddEntry name attributes) q e = cc
    by pinned (RemoveEntry name) q e = cc
    by pinned (ModifyEntry name changes) q e = cc
    by pinned (ModifyDn name rdn drops) q e = cc
