-- A read or compare of an entry in a copy is what the copy's source tells, marked as a copy: the copy has the part of
-- the tree at its moment, and an object's answer rests on its entry alone.
use Rattle.std.proofs.Common.{◌≡◌, ℕ, Bool, true, false, cond, not, ◌&&◌, ◌||◌, ◌==◌, List, [], ◌∷◌, map, refl, sym, ap, subst, ◌∙◌, Option, Some, None}
use Rattle.std.specs.List.{filter, list_any}
use Rattle.std.specs.Option.{is_some}
use Rattle.std.proofs.lemmas.Bool.Decides.{Decides-eqb}
use Rattle.std.proofs.lemmas.List.{append-nil}
use Rattle.x5_model.specs.Words.{in_option, some_and}
use Rattle.x5_model.specs.Members.{In}
use Rattle.x5_model.specs.Keys.{Key, same_key, is_root}
use Rattle.x5_model.specs.Values.{TypeRef, key_of}
use Rattle.x5_model.specs.Entries.{Named}
use Rattle.x5_model.specs.Selections.{selection_fault}
use Rattle.x5_model.specs.Requests.{Selection, Body, Read, Compare, ListBelow, Search, AddEntry, RemoveEntry, ModifyEntry, ModifyDn, Request}
use Rattle.x5_model.specs.References.{Progress, Start, Next, Done, Reference, Chained}
use Rattle.x5_model.specs.Answers.{Source, AttributeProblem}
use Rattle.x5_model.specs.Problems.{no_such_attribute_or_value}
use Rattle.x5_model.proofs.KeyLaws.{key_decides}
use Rattle.x5_model.proofs.Ascending.{of_sorted}
use Rattle.x5_model.proofs.Lists.{both_true, and_true, not_true, of_find, of_map, of_filter, any_in, or_left, once_map}
use Rattle.x5_model_tree.specs.World.{Agreement}
use Rattle.x5_model_tree.specs.Tree.{Tree, key_at, named_below, sorted_entries, entry_at, is_there, lowest, longest, tree_of, part}
use Rattle.x5_model_tree.specs.Masters.{Mastered, is_consumer}
use Rattle.x5_model_tree.specs.Ask.{Told, Shows, Refuses, is_update, read, compare, info_of, ask_body, ask_marked, ask}
use Rattle.x5_model_tree.proofs.Longest.{IsLongest, longest_is, belongs_decides}
use Rattle.x5_model_tree.specs.Tree.{belongs}
use Rattle.x5_model_run.specs.Journal.{same_name, is_done, is_wide}
use Rattle.x5_model_run.specs.Holdings.{Held, Copy, Holdings, may_copy, usable_copies, known_pin, held_at, copy_at, holds_within}
use Rattle.x5_model_run.specs.Needs.{target_of, fails, superior_needs, multicast_needs, supplier_needs, copy_answers, specific_needs, subset_of}
use Rattle.x5_model_run.specs.History.{Point, knowledge_at, tree_at, tree_of_moment, as_of, copy_as_of, copy_by, mastered_at, sent_references, holdings_at}
use Rattle.x5_model_run.specs.Covers.{touched, source_tree, mixed, is_copied, told, answer_below, answer_at_pin}
use Rattle.x5_model_run.specs.Right.{is_copy_source}
use Rattle.x5_model_run.specs.Placed.{is_query_below}
use Rattle.x5_model_parts.specs.Standing.{StoodAt, CopiesStand}
use Rattle.x5_model_theory.proofs.Holding.{by_agent, copy_is, copy_key}
use Rattle.x5_model_updates.specs.Standing as updates
use Rattle.x5_model_updates.proofs.Lookups.{entry_found}
use Rattle.x5_model_serve.specs.Answering.{copy_source}
use Rattle.x5_model_serve.specs.Finding.{Found, Here, CopyHere, Root, Onward, Nowhere, Stuck, by_first, in_own, in_copy, at_pin, resolved, find, IsLooked}
use Rattle.x5_model_find.specs.Finds.{Orderly, CopyIsTold}
use Rattle.x5_model_find.proofs.Absent.{not_there}
use Rattle.x5_model_find.proofs.Begins.{some_is}
use Rattle.x5_model_find.proofs.Deciding.{subset_by, there_sorted}
use Rattle.x5_model_find.proofs.Needing.{false_true}
use Rattle.x5_model_find.proofs.Nobody.{in_cond}
use Rattle.x5_model_find.proofs.Orderly.{holdings_orderly}
use Rattle.x5_model_find.proofs.Owns.{some_subset, object_touched, not_done, object_is, first_refused}
use Rattle.x5_model_find.proofs.Standings.{pins_are}

-- ---- found in a copy

copy_first : (rs : List Reference) (other : Found) (c : Copy) → by_first rs other ≡ CopyHere c → other ≡ CopyHere c
copy_first [] other c e = e
copy_first (r ∷ rs) other c e = (let w : Onward r ≡ CopyHere c = e in cc)

same_copy : (c d : Copy) → CopyHere c ≡ CopyHere d → c ≡ d
same_copy c d e = cc

module _ (h : Holdings) (m : Chained) (c : Copy) where
  own_never : (d : Held) → in_own h m d ≡ CopyHere c → ⊥
  own_never d e = by (lowest d.entries (key_of m.target)) refl
    where
      at : (x : Named) → lowest d.entries (key_of m.target) ≡ Some x → (b : Bool) → same_name x.name m.target ≡ b → ⊥
      at x z true k = (let w : Here d ≡ CopyHere c = rw (z, k) at e in cc)
      at x z false k = (let f = copy_first (multicast_needs h m d) (Nowhere x.name) c (rw (z, k) at e) in let w : Nowhere x.name ≡ CopyHere c = f in cc)

      by : (x : Option Named) → lowest d.entries (key_of m.target) ≡ x → ⊥
      by None z = (let w : Nowhere [] ≡ CopyHere c = rw z at e in cc)
      by (Some x) z = at x z (same_name x.name m.target) refl

  copy_here : (d : Copy) → in_copy h m d ≡ CopyHere c → (d ≡ c) × (copy_answers h m d ≡ true)
  copy_here d e = by (copy_answers h m d) refl
    where
      by : (b : Bool) → copy_answers h m d ≡ b → (d ≡ c) × (copy_answers h m d ≡ true)
      by true q = (same_copy d c (subst (λ (b : Bool). cond b (CopyHere d) (by_first (supplier_needs h m d) Stuck) ≡ CopyHere c) q e), q)
      by false q = (let f = copy_first (supplier_needs h m d) Stuck c (subst (λ (b : Bool). cond b (CopyHere d) (by_first (supplier_needs h m d) Stuck) ≡ CopyHere c) q e) in let w : Stuck ≡ CopyHere c = f in cc)

  pin_copy : (x : Option Key) → at_pin h m x ≡ CopyHere c → In c h.copies × (copy_answers h m c ≡ true)
  pin_copy None e = absurd (root (is_root (key_of m.target)) (copy_first (superior_needs h m) (cond (is_root (key_of m.target)) Root (Nowhere [])) c e))
    where
      root : (b : Bool) → cond b Root (Nowhere []) ≡ CopyHere c → ⊥
      root true z = cc
      root false z = cc
  pin_copy (Some q) e = by_own (held_at h.own q) refl
    where
      by_copy : held_at h.own q ≡ None → (x : Option Copy) → copy_at h q ≡ x → In c h.copies × (copy_answers h m c ≡ true)
      by_copy n None z = (let f = copy_first (specific_needs h m q) Stuck c (rw (n, z) at e) in let w : Stuck ≡ CopyHere c = f in cc)
      by_copy n (Some d) z =
          let w = copy_here d (rw (n, z) at e) in
          let i = (of_find (λ (y : Copy). same_key (key_of y.held.prefix) q) d h.copies z).0 in
          (subst (λ (y : Copy). In y h.copies) w.0 i, subst (λ (y : Copy). copy_answers h m y ≡ true) w.0 w.1)

      by_own : (x : Option Held) → held_at h.own q ≡ x → In c h.copies × (copy_answers h m c ≡ true)
      by_own None z = by_copy z (copy_at h q) refl
      by_own (Some d) z = absurd (own_never d (rw z at e))

  resolved_copy : is_done m.progress ≡ false → find h m ≡ CopyHere c → resolved h m ≡ CopyHere c
  resolved_copy going e = by m.progress refl
    where
      by : (x : Progress) → m.progress ≡ x → resolved h m ≡ CopyHere c
      by Start q = rw q at e
      by (Next k) q = next (holds_within h (key_of m.target) k) refl
        where
          next : (b : Bool) → holds_within h (key_of m.target) k ≡ b → resolved h m ≡ CopyHere c
          next true w = rw (q, w) at e
          next false w = (let f : Stuck ≡ CopyHere c = rw (q, w) at e in cc)
      by Done q = (let f : true ≡ false = rw q at going in absurd (false_true (sym f)))

  -- it is refreshed, and may be used
  usable : Orderly h → In c h.copies → copy_answers h m c ≡ true → (may_copy m.request ≡ true) × (t : ℕ) × (c.stamp ≡ Some t)
  usable ord i answers =
      let a = both_true (is_some (held_at (usable_copies m.request h) (key_of c.held.prefix))) (is_there c.held.entries (key_of m.target) && not (fails (ask (tree_of c.held.entries []) m.request))) answers in
      let d = some_is (held_at (usable_copies m.request h) (key_of c.held.prefix)) a.0 in
      let w = of_find (λ (y : Held). same_key (key_of y.prefix) (key_of c.held.prefix)) d.0 (usable_copies m.request h) d.1 in
      let x = of_map (λ (y : Copy). y.held) d.0 (filter (λ (y : Copy). is_some y.stamp) h.copies) (in_cond (may_copy m.request) (map (λ (y : Copy). y.held) (filter (λ (y : Copy). is_some y.stamp) h.copies)) d.0 w.0) in
      let f = of_filter (λ (y : Copy). is_some y.stamp) x.0 h.copies x.1 in
      let same : x.0 ≡ c = once_map (λ (y : Copy). key_of y.held.prefix) h.copies x.0 c ord.copies_once f.0 i (ap (λ (y : Held). key_of y.prefix) (sym x.2) ∙ (key_decides (key_of d.0.prefix) (key_of c.held.prefix)).0 w.1) in
      let t = some_is c.stamp (subst (λ (y : Copy). is_some y.stamp ≡ true) same f.1) in
      (may (may_copy m.request) w.0, t.0, t.1)
    where
      may : {x : Held} (b : Bool) → In x (cond b (map (λ (y : Copy). y.held) (filter (λ (y : Copy). is_some y.stamp) h.copies)) []) → b ≡ true
      may true j = refl
      may false j = elim j [ ]

-- ---- marked alike

abbrev read_by : (Key → Bool) → Selection → Named → Option TypeRef → Told
read_by copies s e None = Shows (info_of copies s e)
read_by copies s e (Some kind) = Refuses (AttributeProblem no_such_attribute_or_value kind)

abbrev marked_by : Selection → Named → Bool → Told
marked_by s e b = read_by (λ key. b) s e (selection_fault s e.entry)

read_same : (f g : Key → Bool) (s : Selection) (e : Named) → f (key_at e) ≡ g (key_at e) → read f s e ≡ read g s e
read_same f g s e q = by (selection_fault s e.entry)
  where
    by : (o : Option TypeRef) → read_by f s e o ≡ read_by g s e o
    by None = ap (λ (b : Bool). read_by (λ key. b) s e None) q
    by (Some kind) = refl

copy_same : (m : Chained) (f g : Key → Bool) (t u : Tree) (r : Request) (b : Body) (e : Named) → subset_by m b ≡ None → is_update b ≡ false → f (key_at e) ≡ g (key_at e) → entry_at t.entries (key_of (target_of b)) ≡ Some e
    → entry_at u.entries (key_of (target_of b)) ≡ Some e → ask_body f t r b ≡ ask_body g u r b
copy_same m f g t u r (Read name selection) e none query q x y = object_is t name (read f selection) e x ∙ read_same f g selection e q ∙ sym (object_is u name (read g selection) e y)
copy_same m f g t u r (Compare name a) e none query q x y =
    object_is t name (compare f a) e x ∙ ap (λ (b : Bool). compare (λ key. b) a e) q ∙ sym (object_is u name (compare g a) e y)
copy_same m f g t u r (ListBelow name) e none query q x y = absurd (some_subset _ none)
copy_same m f g t u r (Search base s z selection) e none query q x y = cc
copy_same m f g t u r (AddEntry name attributes) e none query q x y = cc
copy_same m f g t u r (RemoveEntry name) e none query q x y = cc
copy_same m f g t u r (ModifyEntry name changes) e none query q x y = cc
copy_same m f g t u r (ModifyDn name rdn drops) e none query q x y = cc

-- ---- a copy as of its moment

sent_entries : (p : Point) (g : Agreement) (t : ℕ) → (copy_as_of p g (Some t)).entries ≡ part (tree_of_moment p t) (key_of g.context)
sent_entries p g t = by (mastered_at (knowledge_at p) (key_of g.context)) (part (tree_of_moment p t) (key_of g.context))
  where
    by : (x : Option Mastered) (es : List Named)
        → (in_option {Y = Held} (record { prefix = g.context; entries = es; subordinate = []; nssrs = [] }) (λ (c : Mastered). record { prefix = g.context; entries = es; subordinate = sent_references (knowledge_at p) c es; nssrs = c.context.nssrs }) x).entries ≡ es
    by None es = refl
    by (Some c) es = refl

query_of : (r : Request) → may_copy r ≡ true → is_update r.body ≡ false
query_of r e = not_true (is_update r.body) (both_true (not r.controls.nocopy) (not (is_update r.body)) e).1

some_entry : (entries : List Named) (key : Key) → is_there entries key ≡ true → (e : Named) × (entry_at entries key ≡ Some e)
some_entry entries key h = by (entry_at entries key) refl
  where
    by : (o : Option Named) → entry_at entries key ≡ o → (e : Named) × (entry_at entries key ≡ Some e)
    by None q = absurd (false_true (sym (not_there entries key q) ∙ h))
    by (Some e) q = (e, q)

-- no list or search, so it asks for its object
object_alone : (m : Chained) (b : Body) → subset_by m b ≡ None → is_query_below b ≡ false
object_alone m (Read name selection) none = refl
object_alone m (Compare name a) none = refl
object_alone m (ListBelow name) none = absurd (some_subset _ none)
object_alone m (Search base s f selection) none = cc
object_alone m (AddEntry name attributes) none = refl
object_alone m (RemoveEntry name) none = refl
object_alone m (ModifyEntry name changes) none = refl
object_alone m (ModifyDn name rdn drops) none = refl

abbrev from_copy : List Source → Key → Bool
from_copy sources pin = list_any (λ s. same_key (key_of s.context) pin && is_some s.moment) sources

module _ (p : Point) (o : ℕ) (m : Chained) (c : Copy) (s : updates.StandsWhole p) (stood : CopiesStand p) (looked : IsLooked m) (e : find (holdings_at p o) m ≡ CopyHere c) (none : subset_of m ≡ None) where
  fits_both : (same_name (target_of m.request.body) m.target ≡ true) × ((not (is_done m.progress) || is_query_below m.request.body) ≡ true)
  fits_both = both_true (same_name (target_of m.request.body) m.target) (not (is_done m.progress) || is_query_below m.request.body) looked.1

  same : key_of (target_of m.request.body) ≡ key_of m.target
  same = (key_decides (key_of (target_of m.request.body)) (key_of m.target)).0 fits_both.0

  goes : is_done m.progress ≡ false
  goes = not_done (is_done m.progress) (is_query_below m.request.body) fits_both.1 (object_alone m m.request.body none)

  held_copy : In c (holdings_at p o).copies × (copy_answers (holdings_at p o) m c ≡ true)
  held_copy = pin_copy (holdings_at p o) m c (known_pin m.request (holdings_at p o) (key_of m.target)) (resolved_copy (holdings_at p o) m c goes e)

  may_use : (may_copy m.request ≡ true) × (t : ℕ) × (c.stamp ≡ Some t)
  may_use = usable (holdings_at p o) m c (holdings_orderly p o (record { described = s.described; consistent = s.consistent })) held_copy.0 held_copy.1

  abbrev t : ℕ
  t = may_use.1

  agreed : (g : Agreement) × In g (knowledge_at p).agreements × (g.consumer ≡ o) × (c ≡ copy_by p g)
  agreed = by_agent p o (λ h. In c h.copies → (g : Agreement) × In g (knowledge_at p).agreements × (g.consumer ≡ o) × (c ≡ copy_by p g)) (λ i. elim i [ ]) (λ a ia i. copy_is p o a c i) held_copy.0

  refreshed : as_of p agreed.0.number ≡ Some t
  refreshed = ap (λ (x : Copy). x.stamp) (sym agreed.3) ∙ may_use.2

  prefix_is : key_of c.held.prefix ≡ key_of agreed.0.context
  prefix_is = ap (λ (x : Copy). key_of x.held.prefix) agreed.3 ∙ copy_key p agreed.0

  entries_are : c.held.entries ≡ part (tree_of_moment p t) (key_of c.held.prefix)
  entries_are =
      ap (λ (x : Copy). x.held.entries) agreed.3
      ∙ ap (λ (x : Option ℕ). (copy_as_of p agreed.0 x).entries) refreshed
      ∙ sent_entries p agreed.0 t
      ∙ ap (λ (k : Key). part (tree_of_moment p t) k) (sym prefix_is)

  object : (x : Named) × (entry_at (sorted_entries c.held.entries) (key_of m.target) ≡ Some x)
  object =
      let a = both_true (is_some (held_at (usable_copies m.request (holdings_at p o)) (key_of c.held.prefix))) (is_there c.held.entries (key_of m.target) && not (fails (ask (tree_of c.held.entries []) m.request))) held_copy.1 in
      let b = both_true (is_there c.held.entries (key_of m.target)) (not (fails (ask (tree_of c.held.entries []) m.request))) a.1 in
      some_entry (sorted_entries c.held.entries) (key_of m.target) (there_sorted c.held.entries (key_of m.target) b.0)

  object_in : In object.0 (sorted_entries c.held.entries) × (key_at object.0 ≡ key_of m.target)
  object_in = entry_found (sorted_entries c.held.entries) (key_of m.target) object.0 object.1

  pin_then : IsLongest (tree_of_moment p t).pins (key_at object.0) (Some (key_of c.held.prefix))
  pin_then =
      let i : In object.0 (part (tree_of_moment p t) (key_of c.held.prefix)) = subst (λ (es : List Named). In object.0 es) entries_are (of_sorted named_below object.0 c.held.entries object_in.0) in
      (belongs_decides (tree_of_moment p t).pins (key_of c.held.prefix) (key_at object.0)).0 (of_filter (λ (x : Named). belongs (tree_of_moment p t).pins (key_of c.held.prefix) (key_at x)) object.0 (tree_of_moment p t).entries i).1

  long : longest (tree_at p).pins (key_at object.0) ≡ Some (key_of c.held.prefix)
  long =
      let st : StoodAt p t = stood agreed.0 t agreed.1 refreshed in
      longest_is (tree_at p).pins (key_at object.0) (key_of c.held.prefix)
      ((pins_are p s (key_of c.held.prefix)).1 ((st.pins_are (key_of c.held.prefix)).0 pin_then.0), (pin_then.1.0, λ q i u. pin_then.1.1 q ((st.pins_are q).1 ((pins_are p s q).0 i)) u))

  key : key_at object.0 ≡ key_of (target_of m.request.body)
  key = object_in.1 ∙ sym same

  query : is_update m.request.body ≡ false
  query = query_of m.request may_use.0

  source_is : is_copy_source p (copy_source o c) t ≡ true
  source_is =
      any_in (λ (g : Agreement). is_consumer o (key_of c.held.prefix) g && some_and (λ at. at == t) (as_of p g.number)) agreed.0 (knowledge_at p).agreements agreed.1
      (and_true (is_consumer o (key_of c.held.prefix) agreed.0) (some_and (λ at. at == t) (as_of p agreed.0.number))
      (and_true (agreed.0.consumer == o) (same_key (key_of agreed.0.context) (key_of c.held.prefix)) ((Decides-eqb agreed.0.consumer o).1 agreed.2) ((key_decides (key_of agreed.0.context) (key_of c.held.prefix)).1 (sym prefix_is)))
      (ap (λ (x : Option ℕ). some_and (λ at. at == t) x) refreshed ∙ (Decides-eqb t t).1 refl))

  touched_is : touched (knowledge_at p) (tree_at p) o m ≡ key_of c.held.prefix ∷ []
  touched_is =
      object_touched (knowledge_at p) (tree_at p) o m none query
      ∙ ap (λ (k : Option Key). in_option [] (λ (q : Key). q ∷ []) k) (ap (λ (k : Key). longest (tree_at p).pins k) (sym key) ∙ long)

  copied : is_copied p (copy_source o c ∷ []) (key_at object.0) ≡ true
  copied =
      ap (λ (k : Option Key). some_and (from_copy (copy_source o c ∷ [])) k) long
      ∙ or_left (same_key (key_of c.held.prefix) (key_of c.held.prefix) && is_some c.stamp) false
      (and_true (same_key (key_of c.held.prefix) (key_of c.held.prefix)) (is_some c.stamp) ((key_decides (key_of c.held.prefix) (key_of c.held.prefix)).1 refl) (ap (λ (x : Option ℕ). is_some x) may_use.2))

  in_copy_there : entry_at (tree_of c.held.entries []).entries (key_of (target_of m.request.body)) ≡ Some object.0
  in_copy_there = subst (λ (k : Key). entry_at (sorted_entries c.held.entries) k ≡ Some object.0) (sym same) object.1

  in_mixed : entry_at (mixed p (copy_source o c ∷ [])).entries (key_of (target_of m.request.body)) ≡ Some object.0
  in_mixed =
      ap (λ (es : List Named). entry_at (sorted_entries es) (key_of (target_of m.request.body))) (append-nil (part (source_tree p c.stamp) (key_of c.held.prefix)) ∙ ap (λ (x : Option ℕ). part (source_tree p x) (key_of c.held.prefix)) may_use.2 ∙ sym entries_are)
      ∙ in_copy_there

  told_is : ask_marked (λ key. true) (tree_of c.held.entries []) m.request ≡ told (is_copied p (copy_source o c ∷ [])) (mixed p (copy_source o c ∷ [])) m
  told_is =
      ap (first_refused (λ key. true) (tree_of c.held.entries []) m.request) looked.0
      ∙ copy_same m (λ key. true) (is_copied p (copy_source o c ∷ [])) (tree_of c.held.entries []) (mixed p (copy_source o c ∷ [])) m.request m.request.body object.0 none query (sym copied) in_copy_there in_mixed
      ∙ sym (ap (first_refused (is_copied p (copy_source o c ∷ [])) (mixed p (copy_source o c ∷ [])) m.request) looked.0)
      ∙ sym (ap (λ (b : Bool). cond b (cond (is_wide m.kind) (answer_below (is_copied p (copy_source o c ∷ [])) (mixed p (copy_source o c ∷ [])) m.request m.request.body) (answer_at_pin (is_copied p (copy_source o c ∷ [])) (mixed p (copy_source o c ∷ [])) m.request m.request.body)) (ask_marked (is_copied p (copy_source o c ∷ [])) (mixed p (copy_source o c ∷ [])) m.request)) goes)

pub copy_is_told : CopyIsTold
copy_is_told p o m c s stood looked e none =
    (t p o m c s stood looked e none, (may_use p o m c s stood looked e none).2, (may_use p o m c s stood looked e none).0, source_is p o m c s stood looked e none, touched_is p o m c s stood looked e none, told_is p o m c s stood looked e none)
