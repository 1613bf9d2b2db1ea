-- What an agent answers from entries within the limits is within them: by the cases of a request, and by where what is
-- listed and found comes from.
use Rattle.std.proofs.Common.{◌≡◌, ℕ, Bool, true, false, ◌&&◌, if◌then◌else◌, List, [], ◌∷◌, map, refl, sym, subst, Option, Some, None, cond, inl, inr}
use Rattle.std.specs.List.{filter, flat_map}
use Rattle.std.specs.Option.{is_some}
use Rattle.x5_model.specs.Words.{is_empty, in_option}
use Rattle.x5_model.specs.Members.{here}
use Rattle.x5_model.specs.Keys.{Key, same_key, is_child}
use Rattle.x5_model.specs.Values.{TypeRef, StoredValue, Name, key_of}
use Rattle.x5_model.specs.Entries.{Stored, Entry, Named}
use Rattle.x5_model.specs.Filters.{Assertion, Filter}
use Rattle.x5_model.specs.Truth.{selects_entry}
use Rattle.x5_model.specs.Requests.{Subset, Selection, All, Only, Body, Read, Compare, ListBelow, Search, AddEntry, RemoveEntry, ModifyEntry, ModifyDn, Request}
use Rattle.x5_model.specs.References.{Chained}
use Rattle.x5_model.specs.Answers.{Source, DirError, ServiceProblem}
use Rattle.x5_model.specs.Problems.{unavailable}
use Rattle.x5_model.specs.Selections.{is_selected, shown_attribute, shown, selection_fault}
use Rattle.x5_model.specs.Statics.{fault_of}
use Rattle.x5_model.proofs.Lists.{of_filter, of_find}
use Rattle.x5_model_tree.specs.Tree.{Tree, key_at, named_below, tree_of, entry_at, is_there_or_root}
use Rattle.x5_model_tree.specs.Apply.{Applied, apply_over, apply, ground_of}
use Rattle.x5_model_tree.specs.Ask as ask
use Rattle.x5_model_tree.specs.Ask.{Told, Shows, Compares, Lists, Finds, Changes, Refuses, in_subset, info_of, sub_of, has_type, just_below, searched, limited_list, limited_found, at_object, updated, ask_body, ask_marked}
use Rattle.x5_model_updates.proofs.Outcomes.{ok_or_err, tree_accepts, tree_refuses}
use Rattle.x5_model_run.specs.Holdings.{Held, Copy, Holdings, copy_at, masters_pin}
use Rattle.x5_model_parts.specs.Parts.{asks_for}
use Rattle.x5_model_serve.specs.Walking.{entered}
use Rattle.x5_model_serve.specs.Answering.{reply_from, own_source, copy_source, stamp_at, local_sources, subs_in, infos_in, before_sub, before_info, told_in, local_told}
use Rattle.x5_model_serve.proofs.Walks.{of_walk}
use Rattle.x5_model_fitting.specs.Names.{Each}
use Rattle.x5_model_fitting.specs.Terms.{TypeWithin, ValueWithin}
use Rattle.x5_model_fitting.specs.Requests.{CountWithin, IfThere, SelectionWithin, BodyWithin, RequestWithin}
use Rattle.x5_model_fitting.specs.Replies.{ShownWithin, InfoWithin, SubWithin}
use Rattle.x5_model_fitting.proofs.Texts.{known_within}
use Rattle.x5_model_limits.specs.Holding.{BoundedStored, BoundedEntry, BoundedContext, BoundedCopy, BoundedHoldings}
use Rattle.x5_model_limits.specs.Messages.{BoundedSource, BoundedError, BoundedReply}
use Rattle.x5_model_limits.specs.Laws.{OwnPartBounded, CopyPartBounded, LocalPartBounded}
use Rattle.x5_model_limits.proofs.Lists.{each_one, each_sorted, each_flat, each_map}
use Rattle.x5_model_limits.proofs.Answering.{each_first, each_limited}
use Rattle.x5_model_limits.proofs.Refusing.{problem_within, attribute_problem, refusals_are_bounded, judged_is_bounded, matched_within}
use Rattle.x5_model_limits.proofs.Spelling.{some_rdn, last_within}
use Rattle.x5_model_limits.proofs.Finding.{copied_at}
use Rattle.x5_model_limits.proofs.Needing.{evaluated_bounded}

-- ---- what is told
abbrev BoundedTold : Told → Type 0
BoundedTold (Shows info) = InfoWithin info
BoundedTold (Compares equal copy) = Unit {0}
BoundedTold (Lists subs cut) = Each SubWithin subs
BoundedTold (Finds infos cut) = Each InfoWithin infos
BoundedTold Changes = Unit {0}
BoundedTold (Refuses x) = BoundedError x

unavailable_within : BoundedError (ServiceProblem unavailable None None)
unavailable_within = (problem_within 12 unavailable refl, tt, tt)

from_bounded : (sources : List Source) (t : Told) → Each BoundedSource sources → BoundedTold t
    → BoundedReply (reply_from sources t)
from_bounded [] (Shows info) f p = unavailable_within
from_bounded (s ∷ more) (Shows info) f p = (p, f s here)
from_bounded [] (Compares equal copy) f p = unavailable_within
from_bounded (s ∷ more) (Compares equal copy) f p = f s here
from_bounded sources (Lists subs cut) f p = (p, f, λ r i. elim i [ ])
from_bounded sources (Finds infos cut) f p = (p, f, λ r i. elim i [ ])
from_bounded sources Changes f p = tt
from_bounded sources (Refuses x) f p = p

-- ---- of an entry
still_some : {A B : Type 0} (f : A → B) (xs : List A) → is_empty xs ≡ false → is_empty (map f xs) ≡ false
still_some f [] e = absurd (cc e)
still_some f (x ∷ xs) e = refl

shown_within : (a : Stored) → BoundedStored a → ShownWithin (shown_attribute a)
shown_within a h = record {
  type = known_within a.kind h.type;
  some = still_some (λ (v : StoredValue). v.value) a.values h.some;
  values = each_map ValueWithin (λ (v : StoredValue). v.value) a.values h.values;
}

info_within : (copies : Key → Bool) (selection : Selection) (e : Named) → BoundedEntry e
    → InfoWithin (info_of copies selection e)
info_within copies selection e h = record {
  name = h.name;
  attributes = each_map ShownWithin shown_attribute _ (λ a i. shown_within a (h.attributes a
      (of_filter (λ (x : Stored). is_selected selection x.kind) a e.entry.attributes i).0));
}

sub_within : (copies : Key → Bool) (e : Named) → BoundedEntry e → SubWithin (sub_of copies e)
sub_within copies e h = last_within e.name (some_rdn e.name h.some) h.name

-- ---- by a tree
if_told : (b : Bool) (c d : Told) → BoundedTold c → BoundedTold d → BoundedTold (cond b c d)
if_told true c d p q = p
if_told false c d p q = q

selected_within : (selection : Selection) (e : Entry) (type : TypeRef) → SelectionWithin selection
    → selection_fault selection e ≡ Some type → TypeWithin type
selected_within All e type h q = absurd (cc q)
selected_within (Only []) e type h q = absurd (cc q)
selected_within (Only (t ∷ ts)) e type h q = by (is_empty (shown (Only (t ∷ ts)) e)) q
  where
    by : (b : Bool) → (if b then Some t else None) ≡ Some type → TypeWithin type
    by true r = subst (λ (u : TypeRef). TypeWithin u) (let s : t ≡ type = cc in s) (h t here)
    by false r = absurd (cc r)

module _ (copies : Key → Bool) (t : Tree) (all : Each BoundedEntry t.entries) where
  absent_bounded : (name : Name) → BoundedTold (ask.absent t name)
  absent_bounded name = matched_within t.entries (key_of name) all

  object_bounded : (name : Name) (f : Named → Told) → ((e : Named) → BoundedEntry e → BoundedTold (f e))
      → BoundedTold (at_object t name f)
  object_bounded name f h = by (entry_at t.entries (key_of name)) refl
    where
      by : (o : Option Named) → entry_at t.entries (key_of name) ≡ o → BoundedTold (at_object t name f)
      by None q = rw q (absent_bounded name)
      by (Some e) q =
          rw q (h e (all e (of_find (λ (x : Named). same_key (key_at x) (key_of name)) e t.entries q).0))

  read_bounded : (selection : Selection) → SelectionWithin selection → (e : Named) → BoundedEntry e
      → BoundedTold (ask.read copies selection e)
  read_bounded selection s e h = by (selection_fault selection e.entry) refl
    where
      by : (o : Option TypeRef) → selection_fault selection e.entry ≡ o → BoundedTold (ask.read copies selection e)
      by None q = rw q (info_within copies selection e h)
      by (Some type) q = rw q (attribute_problem _ type refl (selected_within selection e.entry type s q))

  compare_bounded : (a : Assertion) → TypeWithin a.kind → (e : Named) → BoundedEntry e
      → BoundedTold (ask.compare copies a e)
  compare_bounded a h e k = if_told (has_type e.entry a.kind) _ _ tt (attribute_problem _ a.kind refl h)

  listed_bounded : (size : Option ℕ) (name : Name) → BoundedTold (limited_list copies size (just_below t name))
  listed_bounded size name =
      each_limited SubWithin size _ (each_map SubWithin (sub_of copies) (just_below t name) (λ e i.
      sub_within copies e (all e (of_filter (λ (x : Named). is_child (key_of name) (key_at x)) e t.entries i).0)))

  found_bounded : (size : Option ℕ) (base : Name) (subset : Subset) (f : Filter) (selection : Selection)
      → BoundedTold (limited_found copies size selection (searched t base subset f))
  found_bounded size base subset f selection =
      each_limited InfoWithin size _ (each_map InfoWithin (info_of copies selection) (searched t base subset f) (λ e i.
      info_within copies selection e (all e (of_filter (λ (x : Named). in_subset subset (key_of base) (key_at x)
      && selects_entry f x.entry) e t.entries i).0)))

  applied_bounded : (r : Request) → RequestWithin r → BoundedTold (updated (apply t r))
  applied_bounded r h = elim (ok_or_err (apply_over (ground_of t) r.body)) [
    | inl w ↦ subst (λ (o : Applied). BoundedTold (updated o)) (sym (tree_accepts t r w.0 w.1)) tt
    | inr w ↦ subst (λ (o : Applied). BoundedTold (updated o)) (sym (tree_refuses t r w.0 w.1))
        (judged_is_bounded (ground_of t) r w.0 all h w.1)
  ]

  body_bounded : (r : Request) (body : Body) → RequestWithin r → BodyWithin body
      → BoundedTold (ask_body copies t r body)
  body_bounded r (Read name selection) h b =
      object_bounded name (ask.read copies selection) (read_bounded selection b.1)
  body_bounded r (Compare name a) h b = object_bounded name (ask.compare copies a) (compare_bounded a b.1.type)
  body_bounded r (ListBelow name) h b =
      if_told (is_there_or_root t.entries (key_of name)) _ (ask.absent t name) (listed_bounded r.controls.size name)
      (absent_bounded name)
  body_bounded r (Search base subset f selection) h b =
      if_told (is_there_or_root t.entries (key_of base)) _ (ask.absent t base)
      (found_bounded r.controls.size base subset f selection) (absent_bounded base)
  body_bounded r (AddEntry name attributes) h b = applied_bounded r h
  body_bounded r (RemoveEntry name) h b = applied_bounded r h
  body_bounded r (ModifyEntry name changes) h b = applied_bounded r h
  body_bounded r (ModifyDn name rdn drops) h b = applied_bounded r h

  marked_bounded : (r : Request) → RequestWithin r → BoundedTold (ask_marked copies t r)
  marked_bounded r h = by (fault_of r.body) refl
    where
      by : (o : Option DirError) → fault_of r.body ≡ o → BoundedTold (ask_marked copies t r)
      by (Some x) q = rw q (refusals_are_bounded r x h q)
      by None q = rw q (body_bounded r r.body h h.body)

pub own_part_is_bounded : OwnPartBounded
own_part_is_bounded me m c h b =
    from_bounded (own_source me c ∷ []) (ask_marked (λ key. false) (tree_of c.entries []) m.request)
    (each_one BoundedSource (own_source me c) (record { context = b.prefix; moment = tt }))
    (marked_bounded (λ key. false) (tree_of c.entries []) (each_sorted BoundedEntry named_below c.entries b.entries)
    m.request h)

pub copy_part_is_bounded : CopyPartBounded
copy_part_is_bounded me m c h b =
    from_bounded (copy_source me c ∷ []) (ask_marked (λ key. true) (tree_of c.held.entries []) m.request)
    (each_one BoundedSource (copy_source me c) (record { context = b.held.prefix; moment = b.stamp }))
    (marked_bounded (λ key. true) (tree_of c.held.entries [])
    (each_sorted BoundedEntry named_below c.held.entries b.held.entries) m.request h)

-- ---- the local part of a list or search
module _ (h : Holdings) (b : BoundedHoldings h) where
  copied_stamp : (o : Option Copy) → ((c : Copy) → o ≡ Some c → BoundedCopy c)
      → IfThere CountWithin (in_option None (λ x. x.stamp) o)
  copied_stamp None f = tt
  copied_stamp (Some c) f = (f c refl).stamp

  stamp_within : (c : Held) → IfThere CountWithin (stamp_at h c)
  stamp_within c = by (masters_pin h (key_of c.prefix))
    where
      by : (masters : Bool)
          → IfThere CountWithin (if masters then None else in_option None (λ x. x.stamp) (copy_at h (key_of c.prefix)))
      by true = tt
      by false = copied_stamp (copy_at h (key_of c.prefix)) (copied_at h b (key_of c.prefix))

  module _ (m : Chained) where
    entered_bounded : Each BoundedContext (entered h m)
    entered_bounded c i = evaluated_bounded h m b c (of_walk false h m c i)

    sources_bounded : Each BoundedSource (local_sources h m)
    sources_bounded = each_map BoundedSource _ (entered h m) (λ c i.
        record { context = (entered_bounded c i).prefix; moment = stamp_within c })

    subs_bounded : (c : Held) → BoundedContext c → Each SubWithin (subs_in h m c)
    subs_bounded c k = each_map SubWithin _ (filter (λ (e : Named). asks_for m (key_at e)) c.entries) (λ e i.
        sub_within (λ key. is_some (stamp_at h c)) e
        (k.entries e (of_filter (λ (x : Named). asks_for m (key_at x)) e c.entries i).0))

    infos_bounded : (f : Filter) (selection : Selection) (c : Held) → BoundedContext c
        → Each InfoWithin (infos_in h m f selection c)
    infos_bounded f selection c k =
        each_map InfoWithin _
        (filter (λ (e : Named). asks_for m (key_at e) && selects_entry f e.entry) c.entries) (λ e i.
        info_within (λ key. is_some (stamp_at h c)) selection e (k.entries e
        (of_filter (λ (x : Named). asks_for m (key_at x) && selects_entry f x.entry) e c.entries i).0))

    told_bounded : (body : Body) → BoundedTold (told_in h m body)
    told_bounded (ListBelow name) =
        each_sorted SubWithin before_sub _ (each_first SubWithin before_sub (flat_map (subs_in h m) (entered h m))
        (each_flat SubWithin (subs_in h m) (entered h m) (λ c i. subs_bounded c (entered_bounded c i))))
    told_bounded (Search base subset f selection) =
        each_sorted InfoWithin before_info _ (each_first InfoWithin before_info
        (flat_map (infos_in h m f selection) (entered h m))
        (each_flat InfoWithin (infos_in h m f selection) (entered h m) (λ c i.
        infos_bounded f selection c (entered_bounded c i))))
    told_bounded (Read name selection) = unavailable_within
    told_bounded (Compare name a) = unavailable_within
    told_bounded (AddEntry name attributes) = unavailable_within
    told_bounded (RemoveEntry name) = unavailable_within
    told_bounded (ModifyEntry name changes) = unavailable_within
    told_bounded (ModifyDn name rdn drops) = unavailable_within

pub local_part_is_bounded : LocalPartBounded
local_part_is_bounded h m r b =
    from_bounded (local_sources h m) (local_told h m) (sources_bounded h b m) (told_bounded h b m m.request.body)
