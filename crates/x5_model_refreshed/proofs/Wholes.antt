-- What a context's master has is whole at each line: it is so as the world is described, and accepted updates keep it.
use Rattle.std.proofs.Common.{◌≡◌, ℕ, suc, ◌-◌, Bool, true, false, not, ◌&&◌, ◌==◌, inl, inr, List, [], ◌∷◌, ◌++◌, take, length, refl, sym, ap, subst, ◌∙◌, arith, Some, Ok, Err}
use Rattle.std.specs.List.{list_any, list_all}
use Rattle.std.specs.Option.{option_map}
use Rattle.std.specs.Cmp.{tied_itself}
use Rattle.std.specs.Ordering.{is_lt, ordering_then}
use Rattle.std.specs.declared.cmp.Ordering.{Ordering}
use Rattle.x5_model.specs.Words.{ascending, first_of}
use Rattle.x5_model.specs.Members.{In, here, there}
use Rattle.x5_model.specs.Keys.{Key, KeyRdn, IsPrefix, same_key, rdn_cmp, key_cmp, key_below}
use Rattle.x5_model.specs.Values.{Name, key_of, last_rdn, name_above}
use Rattle.x5_model.specs.Entries.{Named}
use Rattle.x5_model.proofs.KeyLaws.{key_decides, rdn_cmp_total}
use Rattle.x5_model.proofs.Lists.{both_true, of_any, of_all, in_first}
use Rattle.x5_model.proofs.Ascending.{in_sorted, of_sorted, first_below, filter_ascending}
use Rattle.x5_model_tree.specs.World.{Context, World}
use Rattle.x5_model_tree.specs.Tree.{Tree, key_at, named_below, sorted_entries, is_there, belongs, part}
use Rattle.x5_model_tree.specs.Masters.{Mastered, pin_of, mastered, masters, whole}
use Rattle.x5_model_tree.specs.Ask.{is_update}
use Rattle.x5_model_tree.specs.Apply.{Applied, ground_of, apply}
use Rattle.x5_model_tree.specs.Consistent.{IsConsistent}
use Rattle.x5_model_tree.specs.Described.{same_spelling, is_entry_name, is_kept, is_grown, is_rooted, is_context, is_agent, are_references, IsDescribed}
use Rattle.x5_model_tree.proofs.Exact.{conditions_hold}
use Rattle.x5_model_tree.proofs.Order.{named_chain}
use Rattle.x5_model_tree.proofs.Longest.{longest_is, belongs_decides}
use Rattle.x5_model_tree.proofs.Stored.{same_name_is}
use Rattle.x5_model_tree.proofs.Gives.{of_numbered, owner_of, consistent_is_good}
use Rattle.x5_model_tree.proofs.WholeTree.{part_is_context}
use Rattle.x5_model_run.specs.Needs.{target_of}
use Rattle.x5_model_run.specs.History.{Acceptance, Did, tree_with, tree_accepting, tree_by}
use Rattle.x5_model_run.specs.Refresh.{is_change_in, accepted_in}
use Rattle.x5_model_theory.specs.Knowledge.{Knowledge, Area}
use Rattle.x5_model_theory.specs.Coherent.{Coherent}
use Rattle.x5_model_theory.specs.Changing.{with_entries}
use Rattle.x5_model_updates.specs.Standing.{IsTreeOf}
use Rattle.x5_model_updates.specs.Afterwards.{only_part}
use Rattle.x5_model_updates.specs.Keeping.{keys_in}
use Rattle.x5_model_updates.proofs.Lookups.{one_each}
use Rattle.x5_model_updates.proofs.Outcomes.{accepted_over, tree_made}
use Rattle.x5_model_updates.proofs.Trees.{area_of_pin, of_part, entry_in_area, tree_filled}
use Rattle.x5_model_updates.proofs.After.{parts_after}
use Rattle.x5_model_updates.proofs.Keeps.{updates_keep}
use Rattle.x5_model_refreshed.specs.Doable.{IsBelow, AreWhole, PartsAreWhole}
use Rattle.x5_model_refreshed.specs.Replaying.{AreTaken, AllHappen}
use Rattle.x5_model_refreshed.proofs.Spelling.{AreSpelled, more_spelled, update_keeps}
use Rattle.x5_model_refreshed.proofs.Mastering.{elsewhere}
use Rattle.x5_model_refreshed.proofs.Leading.{at_line, accepts_taken, tree_accepted, knowledge_stays, mastered_pin, stands, pins_stay}

-- ---- as a world is described

last_end : (name : Name) → is_entry_name name ≡ true → name ≡ name_above name ++ last_rdn name ∷ []
last_end [] h = cc
last_end (r ∷ []) h = ap (λ (n : ℕ). take n (r ∷ []) ++ r ∷ []) (let e : 0 ≡ length (r ∷ []) - 1 = omega arith in e)
last_end (r ∷ q ∷ rest) h =
    let e : suc (length (q ∷ rest) - 1) ≡ length (r ∷ q ∷ rest) - 1 = omega arith in
    ap (λ (ns : Name). r ∷ ns) (last_end (q ∷ rest) refl)
    ∙ ap (λ (n : ℕ). take n (r ∷ q ∷ rest) ++ last_rdn (q ∷ rest) ∷ []) e

grown_spelled : (all before more : List Named) → is_grown before more ≡ true → ((f : Named) → In f before → In f all) → ((f : Named) → In f more → In f all)
    → ((f : Named) → In f more → is_entry_name f.name ≡ true) → (e : Named) → In e more → IsBelow all e
grown_spelled all before [] h p q full e i = elim i [ ]
grown_spelled all before (x ∷ more) h p q full e i =
    let w = both_true (list_any (λ (f : Named). same_spelling f.name (name_above x.name)) before) (not (is_there before (key_at x)) && is_grown (x ∷ before) more) h in
    let v = both_true (not (is_there before (key_at x))) (is_grown (x ∷ before) more) w.1 in
    elim (in_first e x more i) [
      | inl s ↦ subst (λ (y : Named). IsBelow all y) (sym s) (one (of_any (λ (f : Named). same_spelling f.name (name_above x.name)) before w.0))
      | inr j ↦ grown_spelled all (x ∷ before) more v.1
          (λ f k. elim (in_first f x before k) [ inl r ↦ subst (λ (y : Named). In y all) (sym r) (q x here) | inr l ↦ p f l ])
          (λ f k. q f (there k)) (λ f k. full f (there k)) e j
    ]
  where
    one : (f : Named) × In f before × (same_spelling f.name (name_above x.name) ≡ true) → IsBelow all x
    one u = record {
      above = u.0;
      there = p u.0 u.1;
      spelled = last_end x.name (full x here) ∙ ap (λ (n : Name). n ++ last_rdn x.name ∷ []) (sym (same_name_is u.0.name (name_above x.name) u.2));
    }

rooted_spelled : (c : Context) (es : List Named) → is_rooted c es ≡ true → ((f : Named) → In f es → is_entry_name f.name ≡ true)
    → AreSpelled (key_of c.prefix) es
rooted_spelled c [] h full e i = elim i [ ]
rooted_spelled c (x ∷ more) h full e i =
    let w = both_true (same_spelling c.prefix x.name) (is_grown (x ∷ []) more) h in
    elim (in_first e x more i) [
      | inl s ↦ inl (ap key_at s ∙ ap key_of (sym (same_name_is c.prefix x.name w.0)))
      | inr j ↦ inr (grown_spelled (x ∷ more) (x ∷ []) more w.1
          (λ f k. elim (in_first f x [] k) [ inl r ↦ subst (λ (y : Named). In y (x ∷ more)) (sym r) here | inr l ↦ elim l [ ] ])
          (λ f k. there k) (λ f k. full f (there k)) e j)
    ]

described_spelled : (w : World) → IsDescribed w → (m : Mastered) → In m (mastered w) → AreSpelled (pin_of m) m.context.entries
described_spelled w d m i =
    let o = owner_of w m i in
    let a : is_agent w o.0 ≡ true = of_all (is_agent w) o.0 w.agents d.agents (of_numbered 0 w.agents (m.master, o.0) o.1) in
    let cs : list_all (is_context w) o.0.contexts ≡ true = (both_true (list_all (is_context w) o.0.contexts) (are_references w o.0.subordinate && are_references w o.0.cross) (both_true _ _ a).1).0 in
    let c : is_context w m.context ≡ true = of_all (is_context w) m.context o.0.contexts cs o.2 in
    let r = both_true (is_rooted m.context m.context.entries) _ c in
    let k = both_true (list_all is_kept m.context.entries) _ r.1 in
    rooted_spelled m.context m.context.entries r.0
    (λ f j. (both_true (is_entry_name f.name) _ (of_all is_kept f m.context.entries k.0 j)).0)

sorted_spelled : (pin : Key) (es : List Named) → AreSpelled pin es → AreSpelled pin (sorted_entries es)
sorted_spelled pin es all e i =
    more_spelled pin es (sorted_entries es) e (λ f j. in_sorted named_below f es j) (all e (of_sorted named_below e es i))

-- ---- update by update

module _ (k : Knowledge) (t u : Tree) (good : Coherent k) (is : IsTreeOf k t) (pin : Key) (a : Acceptance) where
  one_kept : is_update a.request.body ≡ true → apply t a.request ≡ Ok u → In pin t.pins → AreSpelled pin (part t pin) → (b : Bool) → is_change_in t.pins pin a ≡ b
      → AreSpelled pin (part u pin)
  one_kept up done held all false e = subst (λ (es : List Named). AreSpelled pin es) (elsewhere k t u good is 0 pin a up done held e) all
  one_kept up done held all true e =
      let long = longest_is t.pins (key_of (target_of a.request.body)) pin ((belongs_decides t.pins pin (key_of (target_of a.request.body))).0 e) in
      let w = parts_after k t u a.request pin good is up done long in
      let v = accepted_over (ground_of (only_part t pin)) a.request.body (part u pin) w.0 in
      update_keeps (only_part t pin) a.request.body (part u pin) pin
      (one_each (part t pin) (filter_ascending named_below named_chain (λ (e : Named). belongs t.pins pin (key_at e)) t.entries is.in_order))
      (λ e i. tree_filled k t good is e (of_part k t good is pin e i).0) held up v.1 all

abbrev or_left : Tree → Applied → Tree
or_left t (Ok u) = u
or_left t (Err x) = t

all_kept_spelled : (k : Knowledge) (t : Tree) → Coherent k → IsTreeOf k t → (pin : Key) → In pin t.pins → AreSpelled pin (part t pin)
    → (accepted : List Acceptance) → AreTaken t accepted → AreSpelled pin (part (tree_accepting accepted t) pin)
all_kept_spelled k t good is pin held all [] taken = all
all_kept_spelled k t good is pin held all (a ∷ more) taken =
    let u : Tree = taken.1.0 in
    let done : apply t a.request ≡ Ok u = taken.1.1 in
    let now : tree_with t a.request ≡ u = ap (or_left t) done in
    let next = updates_keep k t u a.request good is done in
    let pins_now : u.pins ≡ t.pins = ap (λ (x : Tree). x.pins) (tree_made t u a.request done).1 in
    subst (λ (x : Tree). AreSpelled pin (part (tree_accepting more x) pin)) (sym now)
    (all_kept_spelled (with_entries (keys_in u) k) u next.0 next.1 pin (subst (λ (qs : List Key). In pin qs) (sym pins_now) held)
    (one_kept k t u good is pin a taken.0 done held all (is_change_in t.pins pin a) refl) more (subst (λ (x : Tree). AreTaken x more) now taken.2))

-- ---- line by line

module _ (w : World) (described : IsDescribed w) (consistent : IsConsistent w) (a : ℕ) (pin : Key) (mine : masters w a pin ≡ true) where
  begins_spelled : AreSpelled pin (part (whole w) pin)
  begins_spelled =
      let m = of_any (λ (m : Mastered). (m.master == a) && same_key (pin_of m) pin) (mastered w) mine in
      let s = both_true (m.0.master == a) (same_key (pin_of m.0) pin) m.2 in
      subst (λ (x : Key). AreSpelled x (part (whole w) x)) ((key_decides (pin_of m.0) pin).0 s.1)
      (subst (λ (es : List Named). AreSpelled (pin_of m.0) es)
      (sym (part_is_context w (consistent_is_good w described consistent) (conditions_hold w consistent).one_master m.0 m.1))
      (sorted_spelled (pin_of m.0) m.0.context.entries (described_spelled w described m.0 m.1)))

  line_spelled : (past : List Did) → AllHappen w past → AreSpelled pin (part (tree_by w past) pin)
  line_spelled [] h = begins_spelled
  line_spelled (d ∷ before) h =
      let s = stands w described consistent before h.1 in
      subst (λ (x : Tree). AreSpelled pin (part x pin)) (sym (tree_accepted (at_line w before) (tree_by w before) d.deed h.0))
      (all_kept_spelled _ (tree_by w before) s.coherent s.tree pin
      (subst (λ (qs : List Key). In pin qs) (sym (pins_stay w described consistent before h.1)) (mastered_pin w a pin mine))
      (line_spelled before h.1) (accepted_in d.deed) (accepts_taken (at_line w before) d.deed h.0))

-- ---- the prefix stands first

first_same : (r s : KeyRdn) (a b : Key) → r ∷ a ≡ s ∷ b → r ≡ s
first_same r s a b e = cc

rest_same : (r s : KeyRdn) (a b : Key) → r ∷ a ≡ s ∷ b → a ≡ b
rest_same r s a b e = cc

-- what begins with a key isn't below it
not_below : (a x : Key) → IsPrefix a x → key_below x a ≡ false
not_below [] [] h = refl
not_below [] (s ∷ x) h = refl
not_below (r ∷ a) [] h = cc
not_below (r ∷ a) (s ∷ x) h =
    let same : s ≡ r = first_same s r (take (length a) x) a h in
    ap (λ (t : KeyRdn). is_lt (ordering_then (rdn_cmp t r) (key_cmp x a))) same
    ∙ ap (λ (o : Ordering). is_lt (ordering_then o (key_cmp x a))) (tied_itself rdn_cmp_total r)
    ∙ not_below a x (rest_same s r (take (length a) x) a h)

prefix_first : (pin : Key) (es : List Named) (e : Named) → ascending named_below es ≡ true → In e es → key_at e ≡ pin
    → ((f : Named) → In f es → IsPrefix pin (key_at f)) → option_map key_at (first_of es) ≡ Some pin
prefix_first pin [] e h i q all = elim i [ ]
prefix_first pin (x ∷ xs) e h i q all = elim (in_first e x xs i) [
  | inl s ↦ ap Some (ap key_at (sym s) ∙ q)
  | inr j ↦
      let below : key_below (key_at x) pin ≡ true = subst (λ (k : Key). key_below (key_at x) k ≡ true) q (first_below named_below named_chain x e xs h j) in
      let none : key_below (key_at x) pin ≡ false = not_below pin (key_at x) (all x here) in
      cc
]

module _ (k : Knowledge) (t : Tree) (good : Coherent k) (is : IsTreeOf k t) where
  area_whole : (c : Area) → In c k.areas → AreSpelled c.prefix (part t c.prefix) → AreWhole c.prefix (part t c.prefix)
  area_whole c i all =
      let up = filter_ascending named_below named_chain (λ (e : Named). belongs t.pins c.prefix (key_at e)) t.entries is.in_order in
      let e = entry_in_area k t good is c c.prefix i (good.headed c i) in
      record {
        below_root = good.filled c i;
        first = prefix_first c.prefix (part t c.prefix) e.0 up e.1 e.2 (λ f j. (of_part k t good is c.prefix f j).1.1.0);
        in_order = up;
        above = all;
      }

  part_whole : (pin : Key) → In pin t.pins → AreSpelled pin (part t pin) → AreWhole pin (part t pin)
  part_whole pin i all =
      let c = area_of_pin k t good is pin i in
      subst (λ (x : Key). AreWhole x (part t x)) (sym c.2)
      (area_whole c.0 c.1 (subst (λ (x : Key). AreSpelled x (part t x)) c.2 all))

pub parts_are_whole : PartsAreWhole
parts_are_whole p a pin led here_too =
    let mine = ap (λ (x : World). masters x a pin) (sym (knowledge_stays p.described p.past led.happened)) ∙ here_too in
    let s = stands p.described led.described led.consistent p.past led.happened in
    part_whole _ (tree_by p.described p.past) s.coherent s.tree pin
    (subst (λ (qs : List Key). In pin qs) (sym (pins_stay p.described led.described led.consistent p.past led.happened)) (mastered_pin p.described a pin mine))
    (line_spelled p.described led.described led.consistent a pin mine p.past led.happened)
