-- While no update was accepted and no context moved, a line finds what consistent knowledge gives.
use Rattle.std.proofs.Common.{◌≡◌, inl, inr, ◌↔◌, true, List, [], ◌∷◌, length, map, refl, sym, subst, ◌∙◌, ℕ, zero, suc, ◌-◌, drop}
use Rattle.x5_model.specs.Words.{distinct}
use Rattle.x5_model.specs.Members.{In, Once}
use Rattle.x5_model.specs.Keys.{Key, same_key, parent}
use Rattle.x5_model.specs.Entries.{Named}
use Rattle.x5_model.proofs.KeyLaws.{key_decides}
use Rattle.x5_model.proofs.Lists.{in_map, of_map}
use Rattle.x5_model.proofs.Decide.{once_decides}
use Rattle.x5_model.proofs.Ascending.{of_sorted, in_sorted}
use Rattle.x5_model_tree.specs.World.{World}
use Rattle.x5_model_tree.specs.Tree.{Tree, key_at, keys_of, named_below, sorted_entries, part}
use Rattle.x5_model_tree.specs.Masters.{Mastered, pin_of, mastered, pins, whole}
use Rattle.x5_model_tree.specs.Consistent.{IsConsistent}
use Rattle.x5_model_tree.specs.Described.{IsDescribed}
use Rattle.x5_model_tree.specs.Good.{Good}
use Rattle.x5_model_tree.proofs.Exact.{conditions_hold}
use Rattle.x5_model_tree.proofs.Gives.{consistent_is_good}
use Rattle.x5_model_tree.proofs.Order.{entries_once, union_in_order}
use Rattle.x5_model_tree.proofs.WholeTree.{part_is_context}
use Rattle.x5_model_run.specs.History.{Deed, Nothing, Outs, Loses, Accepts, Refreshes, Splits, Unsplits, Did, tree_after, tree_by, knowledge_after, knowledge_by}
use Rattle.x5_model_theory.specs.Knowledge.{Knowledge, Area}
use Rattle.x5_model_theory.specs.Coherent.{Coherent}
use Rattle.x5_model_theory.specs.Described.{area_of, knowledge_of}
use Rattle.x5_model_theory.specs.Changing.{with_entries}
use Rattle.x5_model_theory.proofs.Cohering.{consistent_is_coherent}
use Rattle.x5_model_theory.proofs.Changes.{kept}
use Rattle.x5_model_parts.specs.Standing.{keeps_tree, KeepTree, StandsAtFirst}

module _ (w : World) (described : IsDescribed w) (consistent : IsConsistent w) where
  good : Good w
  good = consistent_is_good w described consistent

  once : Once (pins w)
  once = (conditions_hold w consistent).one_master

  k : Knowledge
  k = knowledge_of w

  coherent : Coherent (knowledge_of w)
  coherent = consistent_is_coherent w described consistent

  abbrev filling : Area → List Key
  filling c = keys_of (part (whole w) c.prefix)

  part_is : (m : Mastered) → In m (mastered w) → part (whole w) (pin_of m) ≡ sorted_entries m.context.entries
  part_is m i = part_is_context w good once m i

  each : (P : Area → Type 0) → ((m : Mastered) → In m (mastered w) → P (area_of m)) → (c : Area) → In c (map area_of (mastered w)) → P c
  each P f c i = (let m = of_map area_of c (mastered w) i in subst P (sym m.2) (f m.0 m.1))

  same : (c : Area) → In c (knowledge_of w).areas → (x : Key) → In x (keys_of (part (whole w) c.prefix)) ↔ In x c.entries
  same = each (λ c. (x : Key) → In x (keys_of (part (whole w) c.prefix)) ↔ In x c.entries) (λ m i x. (
    λ j.
        let e = of_map key_at x (sorted_entries m.context.entries) (subst (λ (xs : List Named). In x (keys_of xs)) (part_is m i) j) in
        subst (λ (y : Key). In y (keys_of m.context.entries)) (sym e.2) (in_map key_at e.0 m.context.entries (of_sorted named_below e.0 m.context.entries e.1)),
    λ j.
        let e = of_map key_at x m.context.entries j in
        subst (λ (xs : List Named). In x (keys_of xs)) (sym (part_is m i)) (subst (λ (y : Key). In y (keys_of (sorted_entries m.context.entries))) (sym e.2) (in_map key_at e.0 (sorted_entries m.context.entries) (in_sorted named_below e.0 m.context.entries e.1))),
  ))

  apart : (c : Area) → In c (knowledge_of w).areas → Once (keys_of (part (whole w) c.prefix))
  apart = each (λ c. Once (keys_of (part (whole w) c.prefix))) (λ m i.
      (let d : distinct same_key (keys_of m.context.entries) ≡ true = (once_decides same_key key_decides (keys_of m.context.entries)).1 (good.context m i).once in
      subst (λ (xs : List Named). Once (keys_of xs)) (sym (part_is m i)) ((once_decides same_key key_decides (keys_of (sorted_entries m.context.entries))).0 (entries_once (sorted_entries m.context.entries) (union_in_order m.context.entries d)))))

  pub first_coherent : Coherent (with_entries (λ c. keys_of (part (whole w) c.prefix)) (knowledge_of w))
  first_coherent = kept (knowledge_of w) filling coherent (record {
    headed = λ c i. (same c i c.prefix).1 (coherent.headed c i);
    below = λ c e i j. coherent.below c e i ((same c i e).0 j);
    closed = λ c e i j. elim (coherent.closed c e i ((same c i e).0 j)) [ inl x ↦ inl x | inr x ↦ inr ((same c i (parent e)).1 x) ];
    apart = apart;
    nssr_at = λ c n i j. (same c i n.at).1 (coherent.nssr_at c n i j);
    parents = λ c i. elim (coherent.parents c i) [ inl x ↦ inl x | inr d ↦ inr (d.0, d.1, (same d.0 d.1 (parent c.prefix)).1 d.2) ];
    no_longer = λ c d e i j l on. coherent.no_longer c d e i j ((same c i e).0 l) on;
    placed = λ r i. elim (coherent.subordinate_placed r i) [ inl c ↦ inl (c.0, c.1, c.2, (same c.0 c.1 (parent r.pin)).1 c.3) | inr x ↦ inr x ];
    known = λ c d i j up. coherent.known_below c d i j ((same c i (parent d.prefix)).0 up);
  })

still_tree : (d : Deed) (t : Tree) → keeps_tree d → tree_after d t ≡ t
still_tree Nothing t h = refl
still_tree (Outs o) t h = refl
still_tree (Loses reply k) t h = refl
still_tree (Accepts accepted) t h = absurd h
still_tree (Refreshes f) t h = refl
still_tree (Splits name a) t h = absurd h
still_tree (Unsplits name) t h = absurd h

still_knowledge : (w : World) (before : List Did) (d : Deed) (k : World) → keeps_tree d → knowledge_after w before d k ≡ k
still_knowledge w before Nothing k h = refl
still_knowledge w before (Outs o) k h = refl
still_knowledge w before (Loses reply j) k h = refl
still_knowledge w before (Accepts accepted) k h = absurd h
still_knowledge w before (Refreshes f) k h = refl
still_knowledge w before (Splits name a) k h = absurd h
still_knowledge w before (Unsplits name) k h = absurd h

pub tree_still : (w : World) (past : List Did) → KeepTree past → tree_by w past ≡ whole w
tree_still w [] h = refl
tree_still w (d ∷ before) h = still_tree d.deed (tree_by w before) h.0 ∙ tree_still w before h.1

pub knowledge_still : (w : World) (past : List Did) → KeepTree past → knowledge_by w past ≡ w
knowledge_still w [] h = refl
knowledge_still w (d ∷ before) h = still_knowledge w before d.deed (knowledge_by w before) h.0 ∙ knowledge_still w before h.1

keep_drop : (n : ℕ) (past : List Did) → KeepTree past → KeepTree (drop n past)
keep_drop zero past h = h
keep_drop (suc n) [] h = tt
keep_drop (suc n) (d ∷ before) h = keep_drop n before h.1

pub stands_at_first : StandsAtFirst
stands_at_first w past described consistent h =
    let same : w ≡ knowledge_by w past = sym (knowledge_still w past h) in
    let stood : (t : Tree) → whole w ≡ t → Coherent (with_entries (λ c. keys_of (part t c.prefix)) (knowledge_of (knowledge_by w past))) = λ t tree.
    subst (λ (x : World). Coherent (with_entries (λ c. keys_of (part t c.prefix)) (knowledge_of x))) same
    (subst (λ (t : Tree). Coherent (with_entries (λ c. keys_of (part t c.prefix)) (knowledge_of w))) tree (first_coherent w described consistent)) in
    let pinned : (t : Tree) → whole w ≡ t → (q : Key) → In q t.pins ↔ In q (pins (knowledge_by w past)) = λ t tree.
    subst (λ (x : World). (q : Key) → In q t.pins ↔ In q (pins x)) same (subst (λ (t : Tree). (q : Key) → In q t.pins ↔ In q (pins w)) tree (λ q. (λ i. i, λ i. i))) in (
      record {
        described = subst (λ (x : World). IsDescribed x) same described;
        consistent = subst (λ (x : World). IsConsistent x) same consistent;
        coherent = stood (tree_by w past) (sym (tree_still w past h));
        pins_are = pinned (tree_by w past) (sym (tree_still w past h));
      },
      λ g moment i e.
          let at : whole w ≡ tree_by w (drop (length past - moment) past) = sym (tree_still w (drop (length past - moment) past) (keep_drop (length past - moment) past h)) in
          record { coherent = stood (tree_by w (drop (length past - moment) past)) at; pins_are = pinned (tree_by w (drop (length past - moment) past)) at },
    )
