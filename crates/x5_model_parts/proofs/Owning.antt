-- What an agent masters, as a line of a run finds it, is the knowledge of that line.
use Rattle.std.proofs.Common.{◌≡◌, ℕ, ◌≤◌, ◌==◌, Bool, true, false, not, ◌⊎◌, inl, inr, List, [], ◌∷◌, ◌++◌, length, map, refl, sym, ap, subst, ◌∙◌, if◌then◌else◌}
use Rattle.std.specs.List.{filter, list_all}
use Rattle.std.specs.Option.{is_some, is_none}
use Rattle.x5_model.specs.Words.{has, distinct}
use Rattle.x5_model.specs.Members.{In, Once, here, there}
use Rattle.x5_model.specs.Keys.{Key, IsPrefix, same_key, parent}
use Rattle.x5_model.specs.Values.{key_of}
use Rattle.x5_model.specs.Entries.{Named}
use Rattle.x5_model.specs.Requests.{Request}
use Rattle.x5_model.proofs.KeyLaws.{key_decides}
use Rattle.x5_model.proofs.Lists.{both_true, in_first, in_left, in_map, of_map, of_flat, of_all, of_filter, in_filter, has_in, of_has}
use Rattle.x5_model.proofs.Decide.{once_decides}
use Rattle.x5_model_tree.specs.World.{Specific, Nssr, Context, Agent, World}
use Rattle.x5_model_tree.specs.Tree.{Tree, key_at, keys_of, is_there, part, belongs}
use Rattle.x5_model_tree.specs.Masters.{Mastered, pin_of, numbered, mastered, held_contexts}
use Rattle.x5_model_tree.specs.Described.{is_agent_name, is_rooted, is_kept, is_nssr, is_context, is_agent, are_references}
use Rattle.x5_model_tree.proofs.Stored.{pins_short}
use Rattle.x5_model_run.specs.Holdings.{Held, Holdings, may_copy, masters_pin, usable_copies, served}
use Rattle.x5_model_run.specs.History.{Point, knowledge_at, tree_at, own_context, agent_holdings}
use Rattle.x5_model_theory.specs.Knowledge.{Knowledge, Area, Pointer, IsReferred}
use Rattle.x5_model_theory.specs.Described.{spot_of, area_of, pointer_of}
use Rattle.x5_model_theory.specs.Changing.{holding}
use Rattle.x5_model_theory.proofs.Views.{there_decides, one_at_place}
use Rattle.x5_model_theory.proofs.Places.{at_agent, own_area, pointer_in}
use Rattle.x5_model_theory.proofs.Holding.{own_is}
use Rattle.x5_model_theory.proofs.Cohering.{numbered_in}
use Rattle.x5_model_tree.proofs.Longest.{belongs_decides}
use Rattle.x5_model_parts.specs.Standing.{knowledge_now, Stands}
use Rattle.x5_model_parts.proofs.Asking.{false_true}
use Rattle.x5_model_parts.proofs.Seeing.{is_held, Like}
use Rattle.x5_model_parts.proofs.Spots.{held_in}
use Rattle.x5_model_parts.proofs.Lone.{once_filter}

pub map_map : {A B C : Type 0} (f : A → B) (g : B → C) (xs : List A) → map g (map f xs) ≡ map (λ x. g (f x)) xs
map_map f g [] = refl
map_map {A} {B} {C} f g (x ∷ xs) = ap (λ (ys : List C). g (f x) ∷ ys) (map_map f g xs)

nothing_more : {A : Type 0} (xs : List A) → xs ++ [] ≡ xs
nothing_more [] = refl
nothing_more {A} (x ∷ xs) = ap (λ (ys : List A). x ∷ ys) (nothing_more xs)

-- ---- contexts of which the first of a prefix counts

context_key : Context → Key
context_key c = key_of c.prefix

kept_context : (before : List Key) (cs : List Context) (c : Context) → In c cs → (has same_key before (key_of c.prefix) ≡ true) ⊎ ((d : Context) × In d (held_contexts before cs) × (key_of d.prefix ≡ key_of c.prefix))
kept_context before [] c i = elim i [ ]
kept_context before (x ∷ cs) c i = go (has same_key before (key_of x.prefix)) refl (kept_context before cs c) (kept_context (key_of x.prefix ∷ before) cs c)
  where
    Kept : List Key → List Context → Type 0
    Kept seen xs = (has same_key seen (key_of c.prefix) ≡ true) ⊎ ((d : Context) × In d xs × (key_of d.prefix ≡ key_of c.prefix))

    go : (b : Bool) → has same_key before (key_of x.prefix) ≡ b
        → (In c cs → (has same_key before (key_of c.prefix) ≡ true) ⊎ ((d : Context) × In d (held_contexts before cs) × (key_of d.prefix ≡ key_of c.prefix)))
        → (In c cs → (has same_key (key_of x.prefix ∷ before) (key_of c.prefix) ≡ true) ⊎ ((d : Context) × In d (held_contexts (key_of x.prefix ∷ before) cs) × (key_of d.prefix ≡ key_of c.prefix)))
        → (has same_key before (key_of c.prefix) ≡ true) ⊎ ((d : Context) × In d (if b then held_contexts before cs else (x ∷ held_contexts (key_of x.prefix ∷ before) cs)) × (key_of d.prefix ≡ key_of c.prefix))
    go true e f g = elim (in_first c x cs i) [ inl same ↦ inl (ap (λ (y : Context). has same_key before (key_of y.prefix)) same ∙ e) | inr j ↦ f j ]
    go false e f g =
        elim (in_first c x cs i) [
          | inl same ↦ inr (x, here, ap (λ (y : Context). key_of y.prefix) (sym same))
          | inr j ↦ elim (g j) [
            | inl seen ↦ elim (in_first (key_of c.prefix) (key_of x.prefix) before (of_has same_key key_decides (key_of c.prefix) (key_of x.prefix ∷ before) seen)) [
              | inl same ↦ inr (x, here, sym same)
              | inr l ↦ inl (has_in same_key key_decides (key_of c.prefix) before l)
            ]
            | inr w ↦ inr (w.0, there w.1, w.2)
          ]
        ]

new_contexts : (before : List Key) (cs : List Context) (c : Context) → In c (held_contexts before cs) → In (key_of c.prefix) before → ⊥
new_contexts before [] c i j = elim i [ ]
new_contexts before (x ∷ cs) c i j = go (has same_key before (key_of x.prefix)) refl i (λ l. new_contexts before cs c l j) (λ l. new_contexts (key_of x.prefix ∷ before) cs c l (there j))
  where
    go : (b : Bool) → has same_key before (key_of x.prefix) ≡ b → In c (if b then held_contexts before cs else (x ∷ held_contexts (key_of x.prefix ∷ before) cs))
        → (In c (held_contexts before cs) → ⊥) → (In c (held_contexts (key_of x.prefix ∷ before) cs) → ⊥) → ⊥
    go true e l f g = f l
    go false e l f g =
        elim (in_first c x (held_contexts (key_of x.prefix ∷ before) cs) l) [
          | inl same ↦ false_true (sym e ∙ has_in same_key key_decides (key_of x.prefix) before (subst (λ (y : Context). In (key_of y.prefix) before) same j))
          | inr k ↦ g k
        ]

once_contexts : (before : List Key) (cs : List Context) → Once (map (λ (c : Context). key_of c.prefix) (held_contexts before cs))
once_contexts before [] = tt
once_contexts before (x ∷ cs) = go (has same_key before (key_of x.prefix)) (once_contexts before cs) (once_contexts (key_of x.prefix ∷ before) cs)
  where
    go : (b : Bool) → Once (map (λ (c : Context). key_of c.prefix) (held_contexts before cs)) → Once (map (λ (c : Context). key_of c.prefix) (held_contexts (key_of x.prefix ∷ before) cs))
        → Once (map (λ (c : Context). key_of c.prefix) (if b then held_contexts before cs else (x ∷ held_contexts (key_of x.prefix ∷ before) cs)))
    go true f g = f
    go false f g = (
      λ i.
          let c = of_map (λ (c : Context). key_of c.prefix) (key_of x.prefix) (held_contexts (key_of x.prefix ∷ before) cs) i in
          new_contexts (key_of x.prefix ∷ before) cs c.0 c.1 (subst (λ (k : Key). In k (key_of x.prefix ∷ before)) c.2 here),
      g,
    )

-- ---- at a line

module _ (p : Point) (st : Stands p) where
  abbrev w : World
  w = knowledge_at p

  abbrev t : Tree
  t = tree_at p

  abbrev k : Knowledge
  k = knowledge_now p

  abbrev filling : Area → List Key
  filling c = keys_of (part (tree_at p) c.prefix)

  pub filled_in : (x : Mastered) → In x (mastered w) → In (holding filling (area_of x)) k.areas
  filled_in x i = in_map (holding filling) (area_of x) (map area_of (mastered w)) (in_map area_of x (mastered w) i)

  pub area_of_mastered : (x : Mastered) → In x (mastered w) → (d : Area) × In d k.areas × (d.prefix ≡ pin_of x) × (d.master ≡ x.master)
  area_of_mastered x i = (holding filling (area_of x), filled_in x i, refl, refl)

  pub mastered_of_area : (d : Area) → In d k.areas → (x : Mastered) × In x (mastered w) × (pin_of x ≡ d.prefix) × (x.master ≡ d.master)
  mastered_of_area d i =
      let a = of_map (holding filling) d (map area_of (mastered w)) i in
      let x = of_map area_of a.0 (mastered w) a.1 in
      let same : d ≡ holding filling (area_of x.0) = a.2 ∙ ap (holding filling) x.2 in
      (x.0, x.1, sym (ap (λ (y : Area). y.prefix) same), sym (ap (λ (y : Area). y.master) same))

  pub pin_of_area : (d : Area) → In d k.areas → In d.prefix t.pins
  pin_of_area d i =
      let x = mastered_of_area d i in
      subst (λ (q : Key). In q t.pins) x.2 ((st.pins_are (pin_of x.0)).1 (in_map pin_of x.0 (mastered w) x.1))

  pub pin_short : (q : Area) → In q k.areas → length q.prefix ≤ 16
  pin_short q i = pins_short w st.described q.prefix ((st.pins_are q.prefix).0 (pin_of_area q i))

  pub area_of_pin : (q : Key) → In q t.pins → (d : Area) × In d k.areas × (d.prefix ≡ q)
  area_of_pin q i =
      let x = of_map pin_of q (mastered w) ((st.pins_are q).0 i) in
      let d = area_of_mastered x.0 x.1 in
      (d.0, d.1, d.2 ∙ sym x.2)

  module _ (o : ℕ) (a : Agent) (ia : In (o, a) (numbered (knowledge_at p))) where
    abbrev h : Holdings
    h = agent_holdings p o a

    described_agent : is_agent w a ≡ true
    described_agent = of_all (is_agent w) a w.agents st.described.agents (numbered_in 0 (o, a) w.agents ia)

    described_context : (c : Context) → In c a.contexts → is_context w c ≡ true
    described_context c i =
        let x = both_true (is_agent_name a.name) _ described_agent in
        of_all (is_context w) c a.contexts (both_true (list_all (is_context w) a.contexts) _ x.1).0 i

    pub references_once : Once (map (λ (r : Specific). key_of r.pin) a.subordinate)
    references_once =
        let x = both_true (is_agent_name a.name) _ described_agent in
        let y = both_true (list_all (is_context w) a.contexts) _ x.1 in
        let z = both_true (are_references w a.subordinate) _ y.1 in
        (once_decides same_key key_decides (map (λ (r : Specific). key_of r.pin) a.subordinate)).0 (both_true _ (distinct same_key (map (λ (r : Specific). key_of r.pin) a.subordinate)) z.0).1

    pub nssrs_once : (c : Context) → In c a.contexts → Once (map (λ (n : Nssr). key_of n.at) c.nssrs)
    nssrs_once c i =
        let x = both_true (is_rooted c c.entries) _ (described_context c i) in
        let y = both_true (list_all is_kept c.entries) _ x.1 in
        let z = both_true (list_all (is_nssr w c) c.nssrs) (distinct same_key (map (λ (n : Nssr). key_of n.at) c.nssrs)) y.1 in
        (once_decides same_key key_decides (map (λ (n : Nssr). key_of n.at) c.nssrs)).0 z.1

    -- its references, by keys
    pub pointer_right : (r : Specific) → In r a.subordinate → (q : Area) × In q k.areas × (q.master ≡ r.access.master) × (q.prefix ≡ key_of r.pin)
    pointer_right r i = st.coherent.subordinate_right (pointer_of o r) (pointer_in w (λ (x : Agent). x.subordinate) o a r ia i)

    pub referred : (r : Specific) (q : Key) → In r a.subordinate → q ≡ key_of r.pin → IsReferred k o q
    referred r q i e = (pointer_of o r, pointer_in w (λ (x : Agent). x.subordinate) o a r ia i, refl, sym e)

    pub of_referred : (q : Key) → IsReferred k o q → (r : Specific) × In r a.subordinate × (key_of r.pin ≡ q)
    of_referred q x =
        let y = of_flat (λ (b : ℕ × Agent). map (pointer_of b.0) b.1.subordinate) x.0 (numbered w) x.1 in
        let r = of_map (pointer_of y.0.0) x.0 y.0.1.subordinate y.2 in
        let place : y.0.0 ≡ o = ap (λ (z : Pointer). z.owner) (sym r.2) ∙ x.2 in
        let one : y.0.1 ≡ a = one_at_place w o y.0.1 a (subst (λ (n : ℕ). In (n, y.0.1) (numbered w)) place y.1) ia in
        (r.0, subst (λ (b : Agent). In r.0 b.subordinate) one r.1, ap (λ (z : Pointer). z.pin) (sym r.2) ∙ x.3)

    abbrev pub own_of : Context → Held
    own_of c = own_context (tree_at p) a c

    pub own_kept : (q : Area) → In q k.areas → q.master ≡ o → (c : Held) × In c h.own × (key_of c.prefix ≡ q.prefix)
    own_kept q i e =
        let x = mastered_of_area q i in
        let y = of_flat (λ (b : ℕ × Agent). map (at_agent b.0) b.1.contexts) x.0 (numbered w) x.1 in
        let c = of_map (at_agent y.0.0) x.0 y.0.1.contexts y.2 in
        let place : y.0.0 ≡ o = ap (λ (z : Mastered). z.master) (sym c.2) ∙ x.3 ∙ e in
        let one : y.0.1 ≡ a = one_at_place w o y.0.1 a (subst (λ (n : ℕ). In (n, y.0.1) (numbered w)) place y.1) ia in
        let is : key_of c.0.prefix ≡ q.prefix = ap pin_of (sym c.2) ∙ x.2 in
        elim (kept_context [] a.contexts c.0 (subst (λ (b : Agent). In c.0 b.contexts) one c.1)) [
          | inl none ↦ absurd (false_true none)
          | inr d ↦ (own_of d.0, in_map own_of d.0 (held_contexts [] a.contexts) d.1, d.2 ∙ is)
        ]

    pub own_once : Once (map (λ (c : Held). key_of c.prefix) h.own)
    own_once = subst (λ (xs : List Key). Once xs) (sym (map_map own_of (λ (c : Held). key_of c.prefix) (held_contexts [] a.contexts))) (once_contexts [] a.contexts)

    pub own_area_is : (c : Held) → In c h.own → (d : Context) × In d a.contexts × (c ≡ own_context (tree_at p) a d)
    own_area_is c i = own_is p o a c ia i

    abbrev pub area_at : Context → Area
    area_at c = holding filling (area_of (at_agent o c))

    pub area_in : (c : Context) → In c a.contexts → In (area_at c) k.areas
    area_in c i = in_map (holding filling) (area_of (at_agent o c)) (map area_of (mastered w)) (own_area w o a c ia i)

    pub own_like_of : (all : List Held) → ((c : Held) → In c h.own → In c all) → (c : Context) → In c a.contexts → Like k all (area_at c) (own_of c)
    own_like_of all inside c i = record {
      area = area_in c i;
      prefix = refl;
      entries = λ q j. (λ x. x, λ x. x);
      nssrs = refl;
      nssr_there = λ n j. st.coherent.nssr_at (area_at c) (spot_of n) (area_in c i) (in_map spot_of n c.nssrs j);
      told = λ r j.
          let f = of_filter (λ (x : Specific). is_there (part (tree_at p) (key_of c.prefix)) (parent (key_of x.pin))) r a.subordinate j in
          let q = pointer_right r f.0 in
          let up : In (parent (key_of r.pin)) (keys_of (part (tree_at p) (key_of c.prefix))) = (there_decides (part (tree_at p) (key_of c.prefix)) (parent (key_of r.pin))).0 f.1 in
          (q.0, q.1, q.3, subst (λ (x : Key). In (parent x) (keys_of (part (tree_at p) (key_of c.prefix)))) (sym q.3) up, inl (referred r q.0.prefix f.0 q.3), q.2);
      tells = λ q iq up tell free. elim tell [
        | inr m ↦
            let x = own_kept m.0 m.1 m.2 in
            absurd (false_true (sym free ∙ ap (is_held all) (sym (x.2 ∙ m.3)) ∙ held_in all x.0 (inside x.0 x.1)))
        | inl y ↦
            let r = of_referred q.prefix y in
            let at : is_there (part (tree_at p) (key_of c.prefix)) (parent (key_of r.0.pin)) ≡ true =
            (there_decides (part (tree_at p) (key_of c.prefix)) (parent (key_of r.0.pin))).1 (subst (λ (x : Key). In (parent x) (keys_of (part (tree_at p) (key_of c.prefix)))) (sym r.2) up) in
            (r.0, in_filter (λ (x : Specific). is_there (part (tree_at p) (key_of c.prefix)) (parent (key_of x.pin))) r.0 a.subordinate r.1 at, r.2)
      ];
      referred_once = once_filter (λ (r : Specific). key_of r.pin) (λ (x : Specific). is_there (part (tree_at p) (key_of c.prefix)) (parent (key_of x.pin))) a.subordinate references_once;
      nssrs_once = nssrs_once c i;
      agents_once = λ n j. st.coherent.nssr_once (area_at c) (spot_of n) (area_in c i) (in_map spot_of n c.nssrs j);
    }

    pub own_like : (all : List Held) → ((c : Held) → In c h.own → In c all) → (c : Held) → In c h.own → (d : Area) × (d.master ≡ o) × Like k all d c
    own_like all inside c i =
        let x = own_area_is c i in
        (area_at x.0, refl, subst (λ (y : Held). Like k all (area_at x.0) y) (sym x.2) (own_like_of all inside x.0 x.1))

    -- the pin of an entry's context is the longest on the way
    pub own_low : (c : Held) (e : Key) → In c h.own → In e (keys_of c.entries) → IsPrefix (key_of c.prefix) e × ((d : Area) → In d k.areas → IsPrefix d.prefix e → length d.prefix ≤ length (key_of c.prefix))
    own_low c e i j =
        let x = own_area_is c i in
        let y = of_map key_at e (own_of x.0).entries (subst (λ (z : Held). In e (keys_of z.entries)) x.2 j) in
        let f = of_filter (λ (z : Named). belongs (tree_at p).pins (key_of x.0.prefix) (key_at z)) y.0 (tree_at p).entries y.1 in
        let b = (belongs_decides (tree_at p).pins (key_of x.0.prefix) (key_at y.0)).0 f.1 in
        let low : IsPrefix (key_of x.0.prefix) e × ((d : Area) → In d k.areas → IsPrefix d.prefix e → length d.prefix ≤ length (key_of x.0.prefix)) =
        (subst (λ (z : Key). IsPrefix (key_of x.0.prefix) z) (sym y.2) b.1.0, λ d id on. b.1.1 d.prefix (pin_of_area d id) (subst (λ (z : Key). IsPrefix d.prefix z) y.2 on)) in
        subst (λ (z : Held). IsPrefix (key_of z.prefix) e × ((d : Area) → In d k.areas → IsPrefix d.prefix e → length d.prefix ≤ length (key_of z.prefix))) (sym x.2) low

    -- what may be answered from, where no copies may be used
    pub own_in : (r : Request) (c : Held) → In c h.own → In c (served r h)
    own_in r c i = in_left c h.own (filter (λ (d : Held). not (masters_pin h (key_of d.prefix))) (usable_copies r h)) i

    pub served_own : (r : Request) → may_copy r ≡ false → served r h ≡ h.own
    served_own r e =
        ap (λ (b : Bool). h.own ++ filter (λ (d : Held). not (masters_pin h (key_of d.prefix))) (if b then map (λ c. c.held) (filter (λ c. is_some c.stamp) h.copies) else [])) e
        ∙ nothing_more h.own

    pub root_once : Once (map (λ (r : Specific). key_of r.pin) h.root)
    root_once = go (is_none a.superior)
      where
        go : (b : Bool) → Once (map (λ (r : Specific). key_of r.pin) (if b then filter (λ (k : Specific). length k.pin == 1) a.subordinate else []))
        go true = once_filter (λ (r : Specific). key_of r.pin) (λ (k : Specific). length k.pin == 1) a.subordinate references_once
        go false = tt

    pub of_root : (r : Specific) → In r h.root → In r a.subordinate × ((length r.pin == 1) ≡ true)
    of_root r i = go (is_none a.superior) i
      where
        go : (b : Bool) → In r (if b then filter (λ (k : Specific). length k.pin == 1) a.subordinate else []) → In r a.subordinate × ((length r.pin == 1) ≡ true)
        go true j = of_filter (λ (k : Specific). length k.pin == 1) r a.subordinate j
        go false j = elim j [ ]

    pub in_root : (r : Specific) → is_none a.superior ≡ true → In r a.subordinate → (length r.pin == 1) ≡ true → In r h.root
    in_root r e i one = subst (λ (b : Bool). In r (if b then filter (λ (k : Specific). length k.pin == 1) a.subordinate else [])) (sym e) (in_filter (λ (k : Specific). length k.pin == 1) r a.subordinate i one)
