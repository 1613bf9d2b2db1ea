-- The world with the entries of the moment gives what consistent knowledge gives.
use Rattle.std.proofs.Common.{◌≡◌, ℕ, inl, inr, List, map, sym, ap, subst, ◌∙◌, true, not, ◌&&◌}
use Rattle.std.specs.Prelude.{IsTrue}
use Rattle.std.specs.List.{list_all}
use Rattle.x5_model.specs.Words.{ascending}
use Rattle.x5_model.specs.Members.{In, Once}
use Rattle.x5_model.specs.Keys.{Key, parent, is_root}
use Rattle.x5_model.specs.Values.{key_of}
use Rattle.x5_model.specs.Entries.{Named}
use Rattle.x5_model.specs.Attributes.{is_ordered}
use Rattle.x5_model.proofs.Lists.{in_map, of_map, of_flat, once_map, of_all, all_in}
use Rattle.x5_model_tree.specs.World.{Agent, World}
use Rattle.x5_model_tree.specs.Tree.{Tree, IsTree, key_at, keys_of, named_below, is_there, is_there_or_root, part}
use Rattle.x5_model_tree.specs.Masters.{Mastered, pin_of, numbered, mastered, pins, whole}
use Rattle.x5_model_tree.specs.Conditions.{Has, Refers, Masters}
use Rattle.x5_model_tree.specs.Good.{IsContext, Good}
use Rattle.x5_model_tree.proofs.Gives.{consistent_is_good, owner_of}
use Rattle.x5_model_tree.proofs.WholeTree.{of_whole, in_whole, whole_in_order, whole_is_tree}
use Rattle.x5_model_tree.proofs.Order.{one_list_of_entries}
use Rattle.x5_model_run.specs.History.{Point, knowledge_at, tree_at, world_at}
use Rattle.x5_model_theory.specs.Knowledge.{Knowledge, Area, Spot, Pointer, IsMastered, IsReferred}
use Rattle.x5_model_theory.specs.Coherent.{Coherent}
use Rattle.x5_model_theory.specs.Described.{spot_of, area_of, pointer_of, knowledge_of}
use Rattle.x5_model_theory.proofs.Places.{pointer_in}
use Rattle.x5_model_theory.proofs.Views.{one_at_place, superior_at}
use Rattle.x5_model_theory.proofs.Cohering.{map_map}
use Rattle.x5_model_updates.specs.Standing.{StandsWhole, TreeIsUnion, StandsAsTree, StandsGood}
use Rattle.x5_model_updates.proofs.Trees.{entry_filled, area_of_entry, of_part}
use Rattle.x5_model_updates.proofs.Moments.{now_mastered, mastered_now}

-- ---- from facts by keys to facts of contexts and agents, for any world

module _ (w : World) where
  pub area_there : (m : Mastered) → In m (mastered w) → In (area_of m) (knowledge_of w).areas
  area_there m i = in_map area_of m (mastered w) i

  pub has_of : (entries : List Named) (x : Key) → In x (keys_of entries) → Has entries x
  has_of entries x i = (let e = of_map key_at x entries i in (e.0, e.1, sym e.2))

  pub in_of : (entries : List Named) (x : Key) → Has entries x → In x (keys_of entries)
  in_of entries x h = subst (λ (y : Key). In y (keys_of entries)) h.2 (in_map key_at h.0 entries h.1)

  pub masters_of : (a : ℕ) (q : Key) → IsMastered (knowledge_of w) a q → Masters w a q
  masters_of a q c = (let m = of_map area_of c.0 (mastered w) c.1 in (m.0, m.1, (ap (λ (x : Area). x.master) (sym m.2) ∙ c.2, ap (λ (x : Area). x.prefix) (sym m.2) ∙ c.3)))

  -- a reference that an agent has
  pub refers_of : (place : ℕ) (a : Agent) (q : Key) → In (place, a) (numbered w) → IsReferred (knowledge_of w) place q → Refers a q
  refers_of place a q i r =
      let f = of_flat (λ (b : ℕ × Agent). map (pointer_of b.0) b.1.subordinate) r.0 (numbered w) r.1 in
      let g = of_map (pointer_of f.0.0) r.0 f.0.1.subordinate f.2 in
      let at : f.0.0 ≡ place = ap (λ (x : Pointer). x.owner) (sym g.2) ∙ r.2 in
      let same : f.0.1 ≡ a = one_at_place w place f.0.1 a (subst (λ (n : ℕ). In (n, f.0.1) (numbered w)) at f.1) i in
      (g.0, subst (λ (x : Agent). In g.0 x.subordinate) same g.1, ap (λ (x : Pointer). x.pin) (sym g.2) ∙ r.3)

  pub pins_once : Coherent (knowledge_of w) → Once (pins w)
  pins_once good = subst Once (map_map area_of (λ (c : Area). c.prefix) (mastered w)) good.once

  pub same_pin : Coherent (knowledge_of w) → (m n : Mastered) → In m (mastered w) → In n (mastered w) → pin_of m ≡ pin_of n → m ≡ n
  same_pin good m n i j e = once_map pin_of (mastered w) m n (pins_once good) i j e

module _ (p : Point) (s : StandsWhole p) where
  abbrev W : World
  W = world_at p

  abbrev K : Knowledge
  K = knowledge_of (world_at p)

  k : Coherent (knowledge_of (world_at p))
  k = s.coherent

  before : Good (knowledge_at p)
  before = consistent_is_good (knowledge_at p) s.described s.consistent

  -- a context of the moment has its part of the tree
  pub part_there : (m : Mastered) → In m (mastered (world_at p)) → m.context.entries ≡ part (tree_at p) (pin_of m)
  part_there m i =
      let w = of_map (now_mastered (tree_at p)) m (mastered (knowledge_at p)) (subst (λ (ms : List Mastered). In m ms) (mastered_now (tree_at p) (knowledge_at p)) i) in
      ap (λ (x : Mastered). x.context.entries) w.2 ∙ ap (λ (x : Key). part (tree_at p) x) (ap pin_of (sym w.2))

  -- a context of the moment and the described one
  pub was_mastered : (m : Mastered) → In m (mastered (world_at p)) → (n : Mastered) × In n (mastered (knowledge_at p)) × (m ≡ now_mastered (tree_at p) n)
  was_mastered m i = of_map (now_mastered (tree_at p)) m (mastered (knowledge_at p)) (subst (λ (ms : List Mastered). In m ms) (mastered_now (tree_at p) (knowledge_at p)) i)

  context_now : (m : Mastered) → In m (mastered (world_at p)) → IsContext m.context
  context_now m i =
      let a = area_there (world_at p) m i in
      let o = was_mastered m i in
      record {
        filled = k.filled (area_of m) a;
        prefix_there = has_of (world_at p) m.context.entries (pin_of m) (k.headed (area_of m) a);
        below = λ e j. k.below (area_of m) (key_at e) a (in_map key_at e m.context.entries j);
        grown = λ e j. elim (k.closed (area_of m) (key_at e) a (in_map key_at e m.context.entries j)) [ inl q ↦ inl q | inr u ↦ inr (has_of (world_at p) m.context.entries (parent (key_at e)) u) ];
        once = k.entries_apart (area_of m) a;
        one_entry = λ e f j l q. once_map key_at m.context.entries e f (k.entries_apart (area_of m) a) j l q;
        kept = λ e j. (
          entry_filled (knowledge_of (world_at p)) k (area_of m) (key_at e) a (in_map key_at e m.context.entries j),
          of_all (λ (x : Named). is_ordered x.entry) e (tree_at p).entries s.ordered
              (of_part (knowledge_of (world_at p)) (tree_at p) k s.tree (pin_of m) e (subst (λ (es : List Named). In e es) (part_there m i) j)).0,
        );
        nssr_there = λ n j. has_of (world_at p) m.context.entries (key_of n.at) (k.nssr_at (area_of m) (spot_of n) a (in_map spot_of n m.context.nssrs j));
        one_nssr = λ n x j l q. (before.context o.0 o.1).one_nssr n x (subst (λ (y : Mastered). In n y.context.nssrs) o.2 j) (subst (λ (y : Mastered). In x y.context.nssrs) o.2 l) q;
      }

  pub good_now : Good (world_at p)
  good_now = record {
    context = context_now;
    one_context = same_pin (world_at p) k;
    parents = λ m i. elim (k.parents (area_of m) (area_there (world_at p) m i)) [
      | inl one ↦ inl one
      | inr c ↦ inr (let n = of_map area_of c.0 (mastered (world_at p)) c.1 in (n.0, n.1, has_of (world_at p) n.0.context.entries (parent (pin_of m)) (subst (λ (x : Area). In (parent (pin_of m)) x.entries) n.2 c.2)))
    ];
    no_longer = λ m q e i j l u. k.no_longer (area_of m) (area_of q) (key_at e) (area_there (world_at p) m i) (area_there (world_at p) q j) (in_map key_at e m.context.entries l) u;
    known_below = λ m q a i j l n h. elim (k.known_below (area_of m) (area_of q) (area_there (world_at p) m i) (area_there (world_at p) q j) (in_of (world_at p) m.context.entries (parent (pin_of q)) h)) [
      | inl e ↦ inl e
      | inr r ↦ elim r [
        | inl r ↦ inr (inl (refers_of (world_at p) m.master a (pin_of q) l r))
        | inr x ↦ inr (inr (let y = of_map spot_of x.0 m.context.nssrs x.1 in (y.0, y.1, (ap (λ (z : Spot). z.at) (sym y.2) ∙ x.2, subst (λ (z : Spot). In q.master z.agents) y.2 x.3))))
      ]
    ];
    top_known = λ place a q i j top one. elim (k.first_level place (area_of q) (in_map (λ (x : ℕ × Agent). x.0) (place, a) (numbered (world_at p)) i) (superior_at (world_at p) place a i ∙ top) (area_there (world_at p) q j) one) [
      | inl e ↦ inl e
      | inr r ↦ inr (refers_of (world_at p) place a (pin_of q) i r)
    ];
    names_master = λ place a x i j. elim j [
      | inl l ↦ masters_of (world_at p) x.access.master (key_of x.pin) (k.subordinate_right (pointer_of place x) (pointer_in (world_at p) (λ (y : Agent). y.subordinate) place a x i l))
      | inr l ↦ masters_of (world_at p) x.access.master (key_of x.pin) (k.cross_right (pointer_of place x) (pointer_in (world_at p) (λ (y : Agent). y.cross) place a x i l))
    ];
    owner = owner_of (world_at p);
  }

pub stands_good : StandsGood
stands_good p s = good_now p s

-- ---- the tree is what its masters have together

module _ (p : Point) (s : StandsWhole p) where
  once_now : Once (pins (world_at p))
  once_now = pins_once (world_at p) s.coherent

  same_pins : (q : Key) → (In q (tree_at p).pins → In q (pins (world_at p))) × (In q (pins (world_at p)) → In q (tree_at p).pins)
  same_pins q = (
    λ i. subst (λ (ks : List Key). In q ks) (map_map area_of (λ (c : Area). c.prefix) (mastered (world_at p))) ((s.tree.pins q).0 i),
    λ i. (s.tree.pins q).1 (subst (λ (ks : List Key). In q ks) (sym (map_map area_of (λ (c : Area). c.prefix) (mastered (world_at p)))) i),
  )

  union : (whole (world_at p)).entries ≡ (tree_at p).entries
  union =
      one_list_of_entries (whole (world_at p)).entries (tree_at p).entries (whole_in_order (world_at p) (good_now p s) once_now) s.tree.in_order
      (λ e i. (let m = of_whole (world_at p) (good_now p s) once_now e i in
      (of_part (knowledge_of (world_at p)) (tree_at p) s.coherent s.tree (pin_of m.0) e (subst (λ (es : List Named). In e es) (part_there p s m.0 m.1) m.2)).0))
      (λ e i. (let c = area_of_entry (knowledge_of (world_at p)) (tree_at p) s.coherent s.tree e i in
      let m = of_map area_of c.0 (mastered (world_at p)) c.1 in
      in_whole (world_at p) (good_now p s) once_now e m.0 m.1
      (subst (λ (es : List Named). In e es) (ap (λ (x : Area). part (tree_at p) x.prefix) m.2 ∙ sym (part_there p s m.0 m.1)) c.3)))

pub tree_is_union : TreeIsUnion
tree_is_union p s = (union p s, same_pins p s)

pub stands_as_tree : StandsAsTree
stands_as_tree p s =
    let w = whole_is_tree (world_at p) (good_now p s) (pins_once (world_at p) s.coherent) in
    let e = union p s in
    record {
      in_order = subst (λ (es : List Named). IsTrue (ascending named_below es)) e w.in_order;
      above = subst (λ (es : List Named). IsTrue (list_all (λ (x : Named). not (is_root (key_at x)) && is_there_or_root es (parent (key_at x))) es)) e w.above;
      pins_there = all_in (is_there (tree_at p).entries) (tree_at p).pins (λ q i. subst (λ (es : List Named). is_there es q ≡ true) e (of_all (is_there (whole (world_at p)).entries) q (pins (world_at p)) w.pins_there ((same_pins p s q).0 i)));
      ordered = subst (λ (es : List Named). IsTrue (list_all (λ (x : Named). is_ordered x.entry) es)) e w.ordered;
    }
