-- The world with the entries of the moment meets the ten conditions.
use Rattle.std.proofs.Common.{◌≡◌, ℕ, ◌+◌, ◌<◌, inl, inr, List, [], ◌∷◌, map, length, refl, sym, ap, subst, ◌∙◌, arith, Option}
use Rattle.std.specs.List.{enumerate_from}
use Rattle.x5_model.specs.Members.{In, here, there}
use Rattle.x5_model.specs.Keys.{Key, parent}
use Rattle.x5_model.specs.Values.{key_of}
use Rattle.x5_model.proofs.Lists.{in_first, in_map, of_map, in_flat, in_either}
use Rattle.x5_model.proofs.Prefixes.{parent_length}
use Rattle.x5_model_tree.specs.World.{Specific, Context, Agent}
use Rattle.x5_model_tree.specs.Tree.{Tree, key_at}
use Rattle.x5_model_tree.specs.Masters.{Mastered, pin_of, numbered, mastered, superior_of}
use Rattle.x5_model_tree.specs.Conditions.{Masters, Consumes, ChildOfOwn, EndsWithin, Conditions}
use Rattle.x5_model_tree.proofs.Exact.{conditions_hold, consistent_where}
use Rattle.x5_model_tree.proofs.Gives.{owner_of}
use Rattle.x5_model_run.specs.History.{Point, knowledge_at, tree_at, world_at}
use Rattle.x5_model_theory.specs.Knowledge.{Knowledge, Area, Spot, Supply, IsMastered, IsConsumed}
use Rattle.x5_model_theory.specs.Coherent.{Coherent}
use Rattle.x5_model_theory.specs.Described.{spot_of, area_of, pointer_of, supply_of, knowledge_of}
use Rattle.x5_model_theory.proofs.Places.{at_agent, pointer_in}
use Rattle.x5_model_theory.proofs.Views.{one_at_place, superior_at}
use Rattle.x5_model_updates.specs.Standing.{StandsWhole, StandsConsistent}
use Rattle.x5_model_updates.proofs.Moments.{now_agent, now_mastered, mastered_now, knowledge_now}
use Rattle.x5_model_updates.proofs.Mastering.{found_among}
use Rattle.x5_model_updates.proofs.Goods.{area_there, has_of, in_of, masters_of, refers_of, pins_once, was_mastered}

-- agents with other entries, by their places
pub was_numbered : (t : Tree) (n : ℕ) (agents : List Agent) (a : ℕ × Agent) → In a (enumerate_from n (map (now_agent t) agents)) → (b : Agent) × In (a.0, b) (enumerate_from n agents) × (a.1 ≡ now_agent t b)
was_numbered t n [] a i = elim i [ ]
was_numbered t n (x ∷ agents) a i =
    elim (in_first a (n, now_agent t x) (enumerate_from (n + 1) (map (now_agent t) agents)) i) [
      | inl s ↦ (x, subst (λ (m : ℕ). In (m, x) ((n, x) ∷ enumerate_from (n + 1) agents)) (sym (ap (λ (q : ℕ × Agent). q.0) s)) here, ap (λ (q : ℕ × Agent). q.1) s)
      | inr j ↦ (let w = was_numbered t (n + 1) agents a j in (w.0, there w.1, w.2))
    ]

module _ (p : Point) (s : StandsWhole p) where
  k : Coherent (knowledge_of (world_at p))
  k = s.coherent

  old : Conditions (knowledge_at p)
  old = conditions_hold (knowledge_at p) s.consistent

  -- a context that an agent has
  area_of_own : (a : ℕ × Agent) (c : Context) → In a (numbered (world_at p)) → In c a.1.contexts → In (at_agent a.0 c) (mastered (world_at p))
  area_of_own a c i j = in_flat (λ (x : ℕ × Agent). map (at_agent x.0) x.1.contexts) (at_agent a.0 c) a (numbered (world_at p)) i (in_map (at_agent a.0) c a.1.contexts j)

  mastered_pair : (a : ℕ) (q : Mastered) → In q (mastered (world_at p)) → q.master ≡ a → Masters (world_at p) a (pin_of q)
  mastered_pair a q i e = (q, i, (e, refl))

  pin_filled : (a : ℕ) (x : Key) → IsMastered (knowledge_of (world_at p)) a x → 0 < length x
  pin_filled a x m = subst (λ (y : Key). 0 < length y) m.3 (k.filled m.0 m.1)

  child_of_own : (a : ℕ × Agent) (r : Specific) → In a (numbered (world_at p)) → In r a.1.subordinate → ChildOfOwn a.1 (key_of r.pin)
  child_of_own a r i j =
      let q = pointer_in (world_at p) (λ (x : Agent). x.subordinate) a.0 a.1 r i j in
      elim (k.subordinate_placed (pointer_of a.0 r) q) [
        | inr h ↦ inl (sym (superior_at (world_at p) a.0 a.1 i) ∙ h.1, h.0)
        | inl c ↦
            let m = of_map area_of c.0 (mastered (world_at p)) c.1 in
            let o = owner_of (world_at p) m.0 m.1 in
            let place : m.0.master ≡ a.0 = ap (λ (x : Area). x.master) (sym m.2) ∙ c.2 in
            let same : o.0 ≡ a.1 = one_at_place (world_at p) a.0 o.0 a.1 (subst (λ (n : ℕ). In (n, o.0) (numbered (world_at p))) place o.1) i in
            let e = has_of (world_at p) m.0.context.entries (parent (key_of r.pin)) (subst (λ (x : Area). In (parent (key_of r.pin)) x.entries) m.2 c.3) in
            inr (m.0.context, subst (λ (x : Agent). In m.0.context x.contexts) same o.2, (e.0, e.1, (pin_filled r.access.master (key_of r.pin) (k.subordinate_right (pointer_of a.0 r) q), sym e.2)))
      ]

  consumes_of : (a : ℕ) (x : Key) → IsConsumed (knowledge_of (world_at p)) a x → Consumes (world_at p) a x
  consumes_of a x c =
      let g = of_map supply_of c.0 (world_at p).agreements c.1 in
      (g.0, g.1, (ap (λ (y : Supply). y.consumer) (sym g.2) ∙ c.2, ap (λ (y : Supply). y.prefix) (sym g.2) ∙ c.3))

  -- the described world's masters are the moment's, and the other way round
  masters_now : (a : ℕ) (x : Key) → Masters (knowledge_at p) a x → Masters (world_at p) a x
  masters_now a x m =
      (now_mastered (tree_at p) m.0, subst (λ (ms : List Mastered). In (now_mastered (tree_at p) m.0) ms) (sym (mastered_now (tree_at p) (knowledge_at p))) (in_map (now_mastered (tree_at p)) m.0 (mastered (knowledge_at p)) m.1), m.2)

  masters_then : (a : ℕ) (x : Key) → Masters (world_at p) a x → Masters (knowledge_at p) a x
  masters_then a x m =
      let w = was_mastered p s m.0 m.1 in
      (w.0, w.1, (ap (λ (y : Mastered). y.master) (sym w.2) ∙ m.2.0, ap pin_of (sym w.2) ∙ m.2.1))

  same_superiors : superior_of (world_at p) ≡ superior_of (knowledge_at p)
  same_superiors = ap (λ (x : Knowledge). x.superior) (knowledge_now (tree_at p) (knowledge_at p))

  conditions_now : Conditions (world_at p)
  conditions_now = record {
    one_master = pins_once (world_at p) k;
    parents = λ m i. elim (k.parents (area_of m) (area_there (world_at p) m i)) [
      | inl one ↦ inl (let up : length (parent (pin_of m)) + 1 ≡ length (pin_of m) = parent_length (pin_of m) (k.filled (area_of m) (area_there (world_at p) m i)) in omega arith)
      | inr c ↦ inr (let n = of_map area_of c.0 (mastered (world_at p)) c.1 in
          let e = has_of (world_at p) n.0.context.entries (parent (pin_of m)) (subst (λ (x : Area). In (parent (pin_of m)) x.entries) n.2 c.2) in
          (e.0, in_flat (λ (x : Mastered). x.context.entries) e.0 n.0 (mastered (world_at p)) n.1 e.1, e.2))
    ];
    no_longer_pin = λ m i e l q j u. k.no_longer (area_of m) (area_of q) (key_at e) (area_there (world_at p) m i) (area_there (world_at p) q j) (in_map key_at e m.context.entries l) u;
    references = λ a i. (
      λ r j. (masters_of (world_at p) r.access.master (key_of r.pin) (k.subordinate_right (pointer_of a.0 r) (pointer_in (world_at p) (λ (x : Agent). x.subordinate) a.0 a.1 r i j)), child_of_own a r i j),
      λ r j. masters_of (world_at p) r.access.master (key_of r.pin) (k.cross_right (pointer_of a.0 r) (pointer_in (world_at p) (λ (x : Agent). x.cross) a.0 a.1 r i j)),
    );
    shadows = λ a i r j. elim (in_either r a.1.subordinate a.1.cross j) [
      | inl l ↦ (let w = k.subordinate_shadows (pointer_of a.0 r) (pointer_in (world_at p) (λ (x : Agent). x.subordinate) a.0 a.1 r i l) in (w.0, λ x y. consumes_of x (key_of r.pin) (w.1 x y)))
      | inr l ↦ (let w = k.cross_shadows (pointer_of a.0 r) (pointer_in (world_at p) (λ (x : Agent). x.cross) a.0 a.1 r i l) in (w.0, λ x y. consumes_of x (key_of r.pin) (w.1 x y)))
    ];
    known_below = λ a i c l q j h. elim (k.known_below (area_of (at_agent a.0 c)) (area_of q) (area_there (world_at p) (at_agent a.0 c) (area_of_own a c i l)) (area_there (world_at p) q j) (in_of (world_at p) c.entries (parent (pin_of q)) h)) [
      | inl e ↦ inl (mastered_pair a.0 q j e)
      | inr r ↦ elim r [
        | inl r ↦ inr (inl (refers_of (world_at p) a.0 a.1 (pin_of q) i r))
        | inr x ↦ inr (inr (let y = of_map spot_of x.0 c.nssrs x.1 in
            (q.master, found_among (mastered (world_at p)) q (pins_once (world_at p) k) j, (y.0, y.1, (ap (λ (z : Spot). z.at) (sym y.2) ∙ x.2, subst (λ (z : Spot). In q.master z.agents) y.2 x.3)))))
      ]
    ];
    members = λ m i n j. (let a = area_there (world_at p) m i in let b = in_map spot_of n m.context.nssrs j in (
      k.nssr_once (area_of m) (spot_of n) a b,
      λ x l. (
        λ e. k.nssr_others (area_of m) (spot_of n) a b (subst (λ (y : ℕ). In y n.agents) e l),
        let d = k.nssr_masters (area_of m) (spot_of n) x a b l in
            let q = of_map area_of d.0 (mastered (world_at p)) d.1 in
            (q.0, q.1, (ap (λ (y : Area). y.master) (sym q.2) ∙ d.2, (subst (λ (y : Area). 0 < length y.prefix) q.2 (k.filled d.0 d.1), ap (λ (y : Area). parent y.prefix) (sym q.2) ∙ d.3))),
      ),
    ));
    top_known = λ a i q j top one. elim (k.first_level a.0 (area_of q) (in_map (λ (x : ℕ × Agent). x.0) a (numbered (world_at p)) i) (superior_at (world_at p) a.0 a.1 i ∙ top) (area_there (world_at p) q j) one) [
      | inl e ↦ inl (mastered_pair a.0 q j e)
      | inr r ↦ inr (refers_of (world_at p) a.0 a.1 (pin_of q) i r)
    ];
    superiors = λ a i. (let b = was_numbered (tree_at p) 0 (knowledge_at p).agents a i in
        subst (λ (next : ℕ → Option ℕ). EndsWithin next 16 a.1.superior) (sym same_superiors)
        (subst (λ (x : Agent). EndsWithin (superior_of (knowledge_at p)) 16 x.superior) (sym b.2) (old.superiors (a.0, b.0) b.1)));
    supplied = λ g i. (let w = old.supplied g i in (
      (λ m. w.0 (masters_then g.consumer (key_of g.context) m)),
      (w.1.0, (w.1.1.0, (w.1.1.1.0, (w.1.1.1.1.0, (w.1.1.1.1.1.0, masters_now w.1.1.1.1.0 (key_of g.context) w.1.1.1.1.1.1))))),
    ));
  }

pub stands_consistent : StandsConsistent
stands_consistent p s = consistent_where (world_at p) (conditions_now p s)
