-- The ground of an agent at a line is made of its parts of the tree and of pins.
use Rattle.std.proofs.Common.{◌≡◌, ℕ, true, false, not, List, map, sym, ap, subst, ◌∙◌}
use Rattle.std.specs.List.{filter, flat_map}
use Rattle.std.proofs.lemmas.List.Folds.{flat_map-map}
use Rattle.x5_model.specs.Members.{In}
use Rattle.x5_model.specs.Keys.{Key, parent}
use Rattle.x5_model.specs.Values.{key_of}
use Rattle.x5_model.specs.Entries.{Named}
use Rattle.x5_model.specs.Requests.{Request}
use Rattle.x5_model.proofs.Lists.{not_true, in_map, of_map, in_flat, of_flat, in_filter, of_filter}
use Rattle.x5_model_tree.specs.World.{Specific, Nssr, Context, Agent}
use Rattle.x5_model_tree.specs.Tree.{key_at, keys_of, is_there, part, belongs}
use Rattle.x5_model_tree.specs.Masters.{Mastered, pin_of, numbered, mastered}
use Rattle.x5_model_tree.specs.Apply.{At, Ground, counts_in}
use Rattle.x5_model_tree.proofs.Longest.{belongs_decides}
use Rattle.x5_model_run.specs.Holdings.{Held, Holdings, known_pins, as_context, ground_at}
use Rattle.x5_model_run.specs.History.{Point, knowledge_at, tree_at, world_at, own_context, holdings_at}
use Rattle.x5_model_theory.specs.Knowledge.{Area, Spot, Pointer}
use Rattle.x5_model_theory.specs.Described.{spot_of, area_of, pointer_of, pointers_of, knowledge_of}
use Rattle.x5_model_theory.specs.Changing.{holding}
use Rattle.x5_model_theory.proofs.Views.{there_decides, one_at_place}
use Rattle.x5_model_updates.specs.Standing.{StandsWhole}
use Rattle.x5_model_updates.specs.Keeping.{keys_in}
use Rattle.x5_model_updates.proofs.Trees.{pin_there, of_part}
use Rattle.x5_model_updates.proofs.Grounds.{Knows}
use Rattle.x5_model_updates.proofs.Held.{now, of_area, in_area, mastered_still, holder_of, own_held, of_held, known_mastered, known_own, known_subordinate}

-- the ground of what an agent holds
abbrev pub counted_in : List Key → Held → List Named
counted_in known c = filter (λ (e : Named). belongs known (key_of c.prefix) (key_at e)) c.entries

abbrev pub uncounted_in : List Key → Held → List Key
uncounted_in known c = map key_at (filter (λ (e : Named). not (belongs known (key_of c.prefix) (key_at e))) c.entries)

abbrev pub ats_in : Held → List At
ats_in c = map (λ (n : Nssr). record { context = key_of c.prefix; entry = key_of n.at }) c.nssrs

abbrev pub held_ground : List Key → List Held → Ground
held_ground known own =
    record { entries = flat_map (counted_in known) own; pins = known; nssrs = flat_map ats_in own; taken = flat_map (uncounted_in known) own }

pub ground_is : (r : Request) (h : Holdings) → ground_at r h ≡ held_ground (map key_of (known_pins r h)) h.own
ground_is r h =
    λ i. record { entries = flat_map-map (λ (c : Context). filter (counts_in known c) c.entries) as_context h.own i; pins = known; nssrs = flat_map-map (λ (c : Context). map (λ (n : Nssr). record { context = key_of c.prefix; entry = key_of n.at }) c.nssrs) as_context h.own i; taken = flat_map-map (λ (c : Context). map key_at (filter (λ e. not (counts_in known c e)) c.entries)) as_context h.own i }
  where
    known : List Key
    known = map key_of (known_pins r h)

module _ (p : Point) (s : StandsWhole p) (r : Request) (o : ℕ) where
  abbrev known : List Key
  known = map key_of (known_pins r (holdings_at p o))

  pub known_there : (q : Key) → In q (map key_of (known_pins r (holdings_at p o))) → (c : Area) × In c (knowledge_of (world_at p)).areas × (q ≡ c.prefix)
  known_there q i =
      let w = known_mastered p s r o q i in
      let v = mastered_still p s w.0 q w.1 in
      (v.0, v.1, sym v.3)

  -- an own context is held
  pub held_of : (m : Mastered) → In m (mastered (knowledge_at p)) → m.master ≡ o → (a : Agent) × In (m.master, a) (numbered (knowledge_at p)) × In (own_context (tree_at p) a m.context) (holdings_at p o).own
  held_of m i e =
      let h = holder_of p s m i in
      (h.0, h.1, subst (λ (n : ℕ). In (own_context (tree_at p) h.0 m.context) (holdings_at p n).own) e (subst (λ (x : Holdings). In (own_context (tree_at p) h.0 m.context) x.own) (sym h.3) (own_held p s m h.0 i h.1 h.2)))

  -- an entry of a part belongs to its context by the known pins too
  part_belongs : (m : Mastered) (e : Named) → In m (mastered (knowledge_at p)) → m.master ≡ o → In e (part (tree_at p) (pin_of m)) → belongs (map key_of (known_pins r (holdings_at p o))) (pin_of m) (key_at e) ≡ true
  part_belongs m e i mine j =
      let l = (of_part (knowledge_of (world_at p)) (tree_at p) s.coherent s.tree (pin_of m) e j).1 in
      let h = held_of m i mine in
      (belongs_decides (map key_of (known_pins r (holdings_at p o))) (pin_of m) (key_at e)).1 (
        known_own p s r o (own_context (tree_at p) h.0 m.context) h.2,
        (
          l.1.0,
          λ q k u. l.1.1 q
              (let c = known_there q k in subst (λ (x : Key). In x (tree_at p).pins) (sym c.2) (pin_there (knowledge_of (world_at p)) (tree_at p) s.coherent s.tree c.0 c.1)) u,
        ),
      )

  -- the entries that count, and the names of those that don't
  abbrev counted : Held → List Named
  counted c = filter (λ (e : Named). belongs (map key_of (known_pins r (holdings_at p o))) (key_of c.prefix) (key_at e)) c.entries

  abbrev uncounted : Held → List Key
  uncounted c = map key_at (filter (λ (e : Named). not (belongs (map key_of (known_pins r (holdings_at p o))) (key_of c.prefix) (key_at e))) c.entries)

  abbrev ats : Held → List At
  ats c = map (λ (n : Nssr). record { context = key_of c.prefix; entry = key_of n.at }) c.nssrs

  held_knows : Knows (knowledge_of (world_at p)) (tree_at p) o (held_ground (map key_of (known_pins r (holdings_at p o))) (holdings_at p o).own)
  held_knows = record {
    of_own = λ e i. (let w = of_flat counted e (holdings_at p o).own i in
        let h = of_held p s o w.0 w.1 in
        let f = of_filter (λ (x : Named). belongs (map key_of (known_pins r (holdings_at p o))) (key_of w.0.prefix) (key_at x)) e w.0.entries w.2 in
        (holding (keys_in (tree_at p)) (area_of h.1), in_area p s h.1 h.3, h.4, subst (λ (x : Held). In e x.entries) h.6 f.0));
    in_own = λ c e i mine j. (let m = of_area p s c i in
        let mm : m.0.master ≡ o = ap (λ (x : Area). x.master) (sym m.2) ∙ mine in
        let h = held_of m.0 m.1 mm in
        let k : In e (part (tree_at p) (pin_of m.0)) = subst (λ (x : Key). In e (part (tree_at p) x)) (ap (λ (x : Area). x.prefix) m.2) j in
        in_flat counted e (own_context (tree_at p) h.0 m.0.context) (holdings_at p o).own h.2
        (in_filter (λ (x : Named). belongs (map key_of (known_pins r (holdings_at p o))) (pin_of m.0) (key_at x)) e (part (tree_at p) (pin_of m.0)) k (part_belongs m.0 e m.1 mm k)));
    pins_are = known_there;
    own_pins = λ c i mine. (let m = of_area p s c i in
        let h = held_of m.0 m.1 (ap (λ (x : Area). x.master) (sym m.2) ∙ mine) in
        subst (λ (x : Key). In x (map key_of (known_pins r (holdings_at p o)))) (ap (λ (x : Area). x.prefix) (sym m.2)) (known_own p s r o (own_context (tree_at p) h.0 m.0.context) h.2));
    referred = λ c q i mine ref up. (let m = of_area p s c i in
        let mm : m.0.master ≡ o = ap (λ (x : Area). x.master) (sym m.2) ∙ mine in
        let h = held_of m.0 m.1 mm in
        let ps : In ref.0 (pointers_of (λ (a : Agent). a.subordinate) (knowledge_at p)) = subst (λ (x : List Pointer). In ref.0 x) (ap (λ k. k.subordinate) (now p s)) ref.1 in
        let f = of_flat (λ (a : ℕ × Agent). map (pointer_of a.0) a.1.subordinate) ref.0 (numbered (knowledge_at p)) ps in
        let g = of_map (pointer_of f.0.0) ref.0 f.0.1.subordinate f.2 in
        let place : f.0.0 ≡ m.0.master = ap (λ (x : Pointer). x.owner) (sym g.2) ∙ ref.2 ∙ sym mm in
        let same : f.0.1 ≡ h.0 = one_at_place (knowledge_at p) m.0.master f.0.1 h.0 (subst (λ (n : ℕ). In (n, f.0.1) (numbered (knowledge_at p))) place f.1) h.1 in
        let pin : key_of g.0.pin ≡ q = ap (λ (x : Pointer). x.pin) (sym g.2) ∙ ref.3 in
        let at : In (parent q) (keys_of (part (tree_at p) (pin_of m.0))) = subst (λ (x : Area). In (parent q) x.entries) m.2 up in
        let t : is_there (part (tree_at p) (pin_of m.0)) (parent (key_of g.0.pin)) ≡ true = (there_decides (part (tree_at p) (pin_of m.0)) (parent (key_of g.0.pin))).1 (subst (λ (x : Key). In (parent x) (keys_of (part (tree_at p) (pin_of m.0)))) (sym pin) at) in
        subst (λ (x : Key). In x (map key_of (known_pins r (holdings_at p o)))) pin
        (known_subordinate p s r o (own_context (tree_at p) h.0 m.0.context) g.0 h.2
        (in_filter (λ (k : Specific). is_there (part (tree_at p) (pin_of m.0)) (parent (key_of k.pin))) g.0 h.0.subordinate (subst (λ (x : Agent). In g.0 x.subordinate) same g.1) t)));
    of_nssrs = λ n i. (let w = of_flat ats n (holdings_at p o).own i in
        let h = of_held p s o w.0 w.1 in
        let x = of_map (λ (y : Nssr). record { context = key_of w.0.prefix; entry = key_of y.at }) n w.0.nssrs w.2 in
        let l : In x.0 h.1.context.nssrs = subst (λ (y : Held). In x.0 y.nssrs) h.6 x.1 in (
          holding (keys_in (tree_at p)) (area_of h.1),
          spot_of x.0,
          in_area p s h.1 h.3,
          h.4,
          in_map spot_of x.0 h.1.context.nssrs l,
          ap (λ (y : At). y.context) x.2 ∙ ap (λ (y : Held). key_of y.prefix) h.6,
          ap (λ (y : At). y.entry) x.2,
        ));
    in_nssrs = λ c n i mine j. (let m = of_area p s c i in
        let h = held_of m.0 m.1 (ap (λ (x : Area). x.master) (sym m.2) ∙ mine) in
        let x = of_map spot_of n m.0.context.nssrs (subst (λ (y : Area). In n y.nssrs) m.2 j) in (
          record { context = pin_of m.0; entry = key_of x.0.at },
          in_flat ats (record { context = pin_of m.0; entry = key_of x.0.at }) (own_context (tree_at p) h.0 m.0.context) (holdings_at p o).own h.2 (in_map (λ (y : Nssr). record { context = pin_of m.0; entry = key_of y.at }) x.0 m.0.context.nssrs x.1),
          ap (λ (y : Area). y.prefix) (sym m.2),
          ap (λ (y : Spot). y.at) (sym x.2),
        ));
    none_taken = λ x i. (let w = of_flat uncounted x (holdings_at p o).own i in
        let e = of_map key_at x (filter (λ (e : Named). not (belongs (map key_of (known_pins r (holdings_at p o))) (key_of w.0.prefix) (key_at e))) w.0.entries) w.2 in
        let f = of_filter (λ (y : Named). not (belongs (map key_of (known_pins r (holdings_at p o))) (key_of w.0.prefix) (key_at y))) e.0 w.0.entries e.1 in
        let h = of_held p s o w.0 w.1 in
        let a = part_belongs h.1 e.0 h.3 h.4 (subst (λ (y : Held). In e.0 y.entries) h.6 f.0) in
        let b : belongs (map key_of (known_pins r (holdings_at p o))) (key_of w.0.prefix) (key_at e.0) ≡ false = not_true (belongs (map key_of (known_pins r (holdings_at p o))) (key_of w.0.prefix) (key_at e.0)) f.1 in
        let b2 : belongs (map key_of (known_pins r (holdings_at p o))) (pin_of h.1) (key_at e.0) ≡ false = subst (λ (y : Held). belongs (map key_of (known_pins r (holdings_at p o))) (key_of y.prefix) (key_at e.0) ≡ false) h.6 b in
        cc);
  }

  pub own_knows : Knows (knowledge_of (world_at p)) (tree_at p) o (ground_at r (holdings_at p o))
  own_knows =
      subst (Knows (knowledge_of (world_at p)) (tree_at p) o) (sym (ground_is r (holdings_at p o))) held_knows
