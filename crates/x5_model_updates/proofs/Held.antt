-- What an agent holds at a line is what its ground is made of: the parts of its contexts, and the pins and NSSRs that it knows.
use Rattle.std.proofs.Common.{◌≡◌, ℕ, Bool, true, false, ◌⊎◌, inl, inr, List, [], ◌∷◌, ◌++◌, map, refl, sym, ap, subst, ◌∙◌, Option, if◌then◌else◌}
use Rattle.std.specs.List.{flat_map}
use Rattle.x5_model.specs.Words.{has, in_option}
use Rattle.x5_model.specs.Members.{In, here, there}
use Rattle.x5_model.specs.Keys.{Key, same_key}
use Rattle.x5_model.specs.Values.{Name, key_of}
use Rattle.x5_model.specs.Requests.{Request}
use Rattle.x5_model.proofs.KeyLaws.{key_decides}
use Rattle.x5_model.proofs.Lists.{true_or_false, in_first, in_left, in_right, in_either, in_map, of_map, in_flat, of_has}
use Rattle.x5_model_tree.specs.World.{Specific, Context, Agent}
use Rattle.x5_model_tree.specs.Masters.{Mastered, numbered, mastered, held_contexts}
use Rattle.x5_model_tree.specs.Good.{Good}
use Rattle.x5_model_tree.proofs.Gives.{consistent_is_good}
use Rattle.x5_model_run.specs.Holdings.{Held, Copy, Holdings, usable_copies, subordinates, prefixes, known_pins}
use Rattle.x5_model_run.specs.History.{Point, knowledge_at, tree_at, world_at, own_context, agent_holdings, no_holdings, holdings_at}
use Rattle.x5_model_theory.specs.Knowledge.{Knowledge, Area, IsMastered}
use Rattle.x5_model_theory.specs.Coherent.{Coherent, IsFed, fed}
use Rattle.x5_model_theory.specs.Described.{area_of, knowledge_of}
use Rattle.x5_model_theory.specs.Changing.{holding, with_entries}
use Rattle.x5_model_theory.specs.Leading.{IsSound}
use Rattle.x5_model_theory.proofs.Places.{at_agent}
use Rattle.x5_model_theory.proofs.Views.{at_place}
use Rattle.x5_model_theory.proofs.Holding.{good_at, by_agent, own_is, own_mastered, copy_consumed, subordinates_right, crosses_right}
use Rattle.x5_model_updates.specs.Standing.{StandsWhole}
use Rattle.x5_model_updates.specs.Keeping.{keys_in}
use Rattle.x5_model_updates.proofs.Moments.{knowledge_now}

-- a context whose prefix no earlier one has is held
pub in_held : (cs : List Context) (before : List Key) (c : Context) → In c cs → (In (key_of c.prefix) before → ⊥) → ((d : Context) → In d cs → key_of d.prefix ≡ key_of c.prefix → d ≡ c) → In c (held_contexts before cs)
in_held [] before c i fresh one = elim i [ ]
in_held (x ∷ cs) before c i fresh one =
    by (has same_key before (key_of x.prefix)) refl (in_first c x cs i) (λ b j f. in_held cs b c j f (λ d k. one d (there k)))
  where
    by : (b : Bool) → has same_key before (key_of x.prefix) ≡ b → (c ≡ x) ⊎ In c cs → ((b : List Key) → In c cs → (In (key_of c.prefix) b → ⊥) → In c (held_contexts b cs))
        → In c (if b then held_contexts before cs else (x ∷ held_contexts (key_of x.prefix ∷ before) cs))
    by true e (inl s) rest = absurd (fresh (subst (λ (y : Context). In (key_of y.prefix) before) (sym s) (of_has same_key key_decides (key_of x.prefix) before e)))
    by true e (inr j) rest = rest before j fresh
    by false e (inl s) rest = subst (λ (y : Context). In c (y ∷ held_contexts (key_of x.prefix ∷ before) cs)) s here
    by false e (inr j) rest = elim (true_or_false (same_key (key_of x.prefix) (key_of c.prefix))) [
      | inl q ↦ subst (λ (y : Context). In c (y ∷ held_contexts (key_of x.prefix ∷ before) cs)) (sym (one x here ((key_decides (key_of x.prefix) (key_of c.prefix)).0 q))) here
      | inr q ↦ there (rest (key_of x.prefix ∷ before) j (λ k. elim (in_first (key_of c.prefix) (key_of x.prefix) before k) [ inl s ↦ (let t : same_key (key_of x.prefix) (key_of c.prefix) ≡ true = (key_decides (key_of x.prefix) (key_of c.prefix)).1 (sym s) in cc) | inr l ↦ fresh l ]))
    ]

-- who has a copy has it of a context that is mastered
pub fed_mastered : (k : Knowledge) (q : Key) (n a : ℕ) → IsFed k q n a → (b : ℕ) × IsMastered k b q
fed_mastered k q n a (IsFed.ends m) = (a, m)
fed_mastered k q n a (fed {hops = h} s i c e f) = fed_mastered k q h s.supplier f

module _ (p : Point) (s : StandsWhole p) where
  abbrev pub K : Knowledge
  K = knowledge_of (world_at p)

  abbrev K0 : Knowledge
  K0 = knowledge_of (knowledge_at p)

  sound : IsSound p
  sound = record { described = s.described; consistent = s.consistent }

  good : Good (knowledge_at p)
  good = consistent_is_good (knowledge_at p) s.described s.consistent

  old : Coherent (knowledge_of (knowledge_at p))
  old = good_at p sound

  pub now : knowledge_of (world_at p) ≡ with_entries (keys_in (tree_at p)) (knowledge_of (knowledge_at p))
  now = knowledge_now (tree_at p) (knowledge_at p)

  areas_now : (knowledge_of (world_at p)).areas ≡ map (holding (keys_in (tree_at p))) (map area_of (mastered (knowledge_at p)))
  areas_now = ap (λ (k : Knowledge). k.areas) now

  -- a context of the line and its context in the description
  pub of_area : (c : Area) → In c (knowledge_of (world_at p)).areas → (m : Mastered) × In m (mastered (knowledge_at p)) × (c ≡ holding (keys_in (tree_at p)) (area_of m))
  of_area c i =
      let w = of_map (holding (keys_in (tree_at p))) c (map area_of (mastered (knowledge_at p))) (subst (λ (cs : List Area). In c cs) areas_now i) in
      let v = of_map area_of w.0 (mastered (knowledge_at p)) w.1 in
      (v.0, v.1, w.2 ∙ ap (holding (keys_in (tree_at p))) v.2)

  pub in_area : (m : Mastered) → In m (mastered (knowledge_at p)) → In (holding (keys_in (tree_at p)) (area_of m)) (knowledge_of (world_at p)).areas
  in_area m i = subst (λ (cs : List Area). In (holding (keys_in (tree_at p)) (area_of m)) cs) (sym areas_now) (in_map (holding (keys_in (tree_at p))) (area_of m) (map area_of (mastered (knowledge_at p))) (in_map area_of m (mastered (knowledge_at p)) i))

  pub mastered_still : (a : ℕ) (q : Key) → IsMastered (knowledge_of (knowledge_at p)) a q → IsMastered (knowledge_of (world_at p)) a q
  mastered_still a q m =
      let v = of_map area_of m.0 (mastered (knowledge_at p)) m.1 in
      (holding (keys_in (tree_at p)) (area_of v.0), in_area v.0 v.1, ap (λ (x : Area). x.master) (sym v.2) ∙ m.2, ap (λ (x : Area). x.prefix) (sym v.2) ∙ m.3)

  pub mastered_before : (a : ℕ) (q : Key) → IsMastered (knowledge_of (world_at p)) a q → IsMastered (knowledge_of (knowledge_at p)) a q
  mastered_before a q m =
      let v = of_area m.0 m.1 in
      (area_of v.0, in_map area_of v.0 (mastered (knowledge_at p)) v.1, ap (λ (x : Area). x.master) (sym v.2) ∙ m.2, ap (λ (x : Area). x.prefix) (sym v.2) ∙ m.3)

  -- an agent that masters a context
  pub holder_of : (m : Mastered) → In m (mastered (knowledge_at p)) → (a : Agent) × In (m.master, a) (numbered (knowledge_at p)) × In m.context a.contexts × (holdings_at p m.master ≡ agent_holdings p m.master a)
  holder_of m i =
      let o = good.owner m i in
      (o.0, o.1, o.2, ap (λ (x : Option Agent). in_option (no_holdings m.master) (agent_holdings p m.master) x) (at_place (knowledge_at p) m.master o.0 o.1))

  -- it holds the context's part of the tree
  pub own_held : (m : Mastered) (a : Agent) → In m (mastered (knowledge_at p)) → In (m.master, a) (numbered (knowledge_at p)) → In m.context a.contexts → In (own_context (tree_at p) a m.context) (agent_holdings p m.master a).own
  own_held m a i j l =
      in_map (own_context (tree_at p) a) m.context (held_contexts [] a.contexts)
      (in_held a.contexts [] m.context l (λ x. elim x [ ])
      (λ d x e. ap (λ (y : Mastered). y.context) (good.one_context (at_agent m.master d) m (placed_in d x) i e)))
    where
      placed_in : (d : Context) → In d a.contexts → In (at_agent m.master d) (mastered (knowledge_at p))
      placed_in d x = in_flat (λ (b : ℕ × Agent). map (at_agent b.0) b.1.contexts) (at_agent m.master d) (m.master, a) (numbered (knowledge_at p)) j (in_map (at_agent m.master) d a.contexts x)

  -- and what it holds is so
  pub of_held : (o : ℕ) (c : Held) → In c (holdings_at p o).own → (a : Agent) × (m : Mastered) × In (o, a) (numbered (knowledge_at p)) × In m (mastered (knowledge_at p)) × (m.master ≡ o) × In m.context a.contexts × (c ≡ own_context (tree_at p) a m.context)
  of_held o c =
      by_agent p o (λ h. In c h.own → (a : Agent) × (m : Mastered) × In (o, a) (numbered (knowledge_at p)) × In m (mastered (knowledge_at p)) × (m.master ≡ o) × In m.context a.contexts × (c ≡ own_context (tree_at p) a m.context))
      (λ i. elim i [ ])
      (λ a ia i. (let d = own_is p o a c ia i in
      (a, at_agent o d.0, ia, in_flat (λ (b : ℕ × Agent). map (at_agent b.0) b.1.contexts) (at_agent o d.0) (o, a) (numbered (knowledge_at p)) ia (in_map (at_agent o) d.0 a.contexts d.1), refl, d.1, d.2)))

  -- ---- known pins

  pub known_mastered : (r : Request) (o : ℕ) (q : Key) → In q (map key_of (known_pins r (holdings_at p o))) → (a : ℕ) × IsMastered (knowledge_of (knowledge_at p)) a q
  known_mastered r o q i =
      let x = of_map key_of q (known_pins r (holdings_at p o)) i in
      elim (in_either x.0 (prefixes (holdings_at p o) ++ map (λ (k : Specific). k.pin) (subordinates r (holdings_at p o))) (map (λ (k : Specific). k.pin) (holdings_at p o).cross) x.1) [
        | inr j ↦ (let k = of_map (λ (k : Specific). k.pin) x.0 (holdings_at p o).cross j in
            (k.0.access.master, subst (λ (y : Key). IsMastered (knowledge_of (knowledge_at p)) k.0.access.master y) (sym (x.2 ∙ ap key_of k.2)) (crosses_right p o k.0 sound k.1).0))
        | inl j ↦ elim (in_either x.0 (prefixes (holdings_at p o)) (map (λ (k : Specific). k.pin) (subordinates r (holdings_at p o))) j) [
          | inr l ↦ (let k = of_map (λ (k : Specific). k.pin) x.0 (subordinates r (holdings_at p o)) l in
              (k.0.access.master, subst (λ (y : Key). IsMastered (knowledge_of (knowledge_at p)) k.0.access.master y) (sym (x.2 ∙ ap key_of k.2)) (subordinates_right p o r k.0 sound k.1).0))
          | inl l ↦ (let w = prefix_mastered o x.0 l in (w.0, subst (λ (y : Key). IsMastered (knowledge_of (knowledge_at p)) w.0 y) (sym x.2) w.1))
        ]
      ]
    where
      prefix_mastered : (o : ℕ) (x : Name) → In x (prefixes (holdings_at p o)) → (a : ℕ) × IsMastered (knowledge_of (knowledge_at p)) a (key_of x)
      prefix_mastered o x =
          by_agent p o (λ h. In x (prefixes h) → (a : ℕ) × IsMastered (knowledge_of (knowledge_at p)) a (key_of x))
          (λ i. elim i [ ])
          (λ a ia i.
          let h : Holdings = agent_holdings p o a in
          elim (in_either x (map (λ (c : Held). c.prefix) (agent_holdings p o a).own) (map (λ (c : Copy). c.held.prefix) (agent_holdings p o a).copies) i) [
            | inl j ↦ (let c = of_map (λ (c : Held). c.prefix) x (agent_holdings p o a).own j in
                (o, subst (λ (y : Name). IsMastered (knowledge_of (knowledge_at p)) o (key_of y)) (sym c.2) (own_mastered p o a c.0 ia c.1)))
            | inr j ↦ (let c = of_map (λ (c : Copy). c.held.prefix) x (agent_holdings p o a).copies j in
                let u = copy_consumed p o a c.0 c.1 in
                let f = fed_mastered (knowledge_of (knowledge_at p)) u.0.prefix 4 u.0.consumer (old.supplied u.0 u.1) in
                (f.0, subst (λ (y : Key). IsMastered (knowledge_of (knowledge_at p)) f.0 y) (u.3 ∙ ap key_of (sym c.2)) f.1))
          ])

  pub known_own : (r : Request) (o : ℕ) (c : Held) → In c (holdings_at p o).own → In (key_of c.prefix) (map key_of (known_pins r (holdings_at p o)))
  known_own r o c i =
      in_map key_of c.prefix (known_pins r (holdings_at p o))
      (in_left c.prefix (prefixes (holdings_at p o) ++ map (λ (k : Specific). k.pin) (subordinates r (holdings_at p o))) (map (λ (k : Specific). k.pin) (holdings_at p o).cross)
      (in_left c.prefix (prefixes (holdings_at p o)) (map (λ (k : Specific). k.pin) (subordinates r (holdings_at p o)))
      (in_left c.prefix (map (λ (x : Held). x.prefix) (holdings_at p o).own) (map (λ (x : Copy). x.held.prefix) (holdings_at p o).copies) (in_map (λ (x : Held). x.prefix) c (holdings_at p o).own i))))

  pub known_subordinate : (r : Request) (o : ℕ) (c : Held) (k : Specific) → In c (holdings_at p o).own → In k c.subordinate → In (key_of k.pin) (map key_of (known_pins r (holdings_at p o)))
  known_subordinate r o c k i j =
      let h : Holdings = holdings_at p o in
      let l : In k (subordinates r (holdings_at p o)) =
      in_left k (flat_map (λ (x : Held). x.subordinate) (holdings_at p o).own ++ flat_map (λ (x : Held). x.subordinate) (usable_copies r (holdings_at p o))) (holdings_at p o).root
      (in_left k (flat_map (λ (x : Held). x.subordinate) (holdings_at p o).own) (flat_map (λ (x : Held). x.subordinate) (usable_copies r (holdings_at p o))) (in_flat (λ (x : Held). x.subordinate) k c (holdings_at p o).own i j)) in
      in_map key_of k.pin (known_pins r (holdings_at p o))
      (in_left k.pin (prefixes (holdings_at p o) ++ map (λ (x : Specific). x.pin) (subordinates r (holdings_at p o))) (map (λ (x : Specific). x.pin) (holdings_at p o).cross)
      (in_right k.pin (prefixes (holdings_at p o)) (map (λ (x : Specific). x.pin) (subordinates r (holdings_at p o))) (in_map (λ (x : Specific). x.pin) k (subordinates r (holdings_at p o)) l)))
