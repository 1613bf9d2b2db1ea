-- What an agent may answer from, copies too, is the knowledge of the line: pins keep their parents, and NSSRs their
-- entries, so a copy of an earlier moment tells of the same pins.
use Rattle.std.proofs.Common.{◌≡◌, ℕ, ◌+◌, ◌<◌, ◌≤◌, ◌==◌, Bool, true, false, not, ◌&&◌, inl, inr, ◌↔◌, List, [], ◌∷◌, ◌++◌, length, map, refl, sym, ap, subst, ◌∙◌, arith, Option, Some, None, if◌then◌else◌}
use Rattle.std.specs.List.{filter}
use Rattle.std.specs.Option.{is_some}
use Rattle.std.proofs.lemmas.Bool.Decides.{Decides-eqb}
use Rattle.x5_model.specs.Words.{has, in_option}
use Rattle.x5_model.specs.Members.{In, Once, here, there}
use Rattle.x5_model.specs.Keys.{Key, IsPrefix, same_key, parent}
use Rattle.x5_model.specs.Values.{key_of}
use Rattle.x5_model.specs.Entries.{Named}
use Rattle.x5_model.specs.Requests.{Request}
use Rattle.x5_model.specs.References.{Chained}
use Rattle.x5_model.proofs.KeyLaws.{key_decides}
use Rattle.x5_model.proofs.Lists.{both_true, and_true, not_true, in_first, in_either, in_left, in_right, in_map, of_map, of_flat, of_find, not_found, of_filter, in_filter, has_in, true_or_false}
use Rattle.x5_model.proofs.Prefixes.{prefix_length, same_by_length, parent_length}
use Rattle.x5_model_tree.specs.World.{Specific, Context, Agent, Agreement, World}
use Rattle.x5_model_tree.specs.Tree.{key_at, keys_of, is_there, part, belongs}
use Rattle.x5_model_tree.specs.Masters.{Mastered, pin_of, numbered, mastered, pins, masters}
use Rattle.x5_model_tree.proofs.Exact.{conditions_hold}
use Rattle.x5_model_tree.proofs.Longest.{belongs_decides}
use Rattle.x5_model_run.specs.Holdings.{Held, Copy, Holdings, may_copy, masters_pin, usable_copies, served}
use Rattle.x5_model_run.specs.History.{Point, knowledge_at, tree_at, tree_of_moment, as_of, references_below, sent_references, mastered_at, copy_as_of, copy_by, first_agreements, agreements_of, agent_holdings}
use Rattle.x5_model_theory.specs.Knowledge.{Knowledge, Area, IsMastered}
use Rattle.x5_model_theory.specs.Coherent.{Coherent, IsFed, fed}
use Rattle.x5_model_theory.specs.Described.{spot_of, area_of, supply_of, knowledge_of}
use Rattle.x5_model_theory.specs.Changing.{holding, with_entries}
use Rattle.x5_model_theory.proofs.Places.{at_agent}
use Rattle.x5_model_theory.proofs.Views.{there_decides, masters_decides, at_place}
use Rattle.x5_model_theory.proofs.Cohering.{one_master}
use Rattle.x5_model_theory.proofs.Holding.{copy_is, copy_prefix}
use Rattle.x5_model_parts.specs.Standing.{knowledge_now, Stands, StoodAt, CopiesStand}
use Rattle.x5_model_parts.proofs.Asking.{false_true}
use Rattle.x5_model_parts.proofs.Seeing.{IsTellable, Like}
use Rattle.x5_model_parts.proofs.Spots.{held_in}
use Rattle.x5_model_parts.proofs.Lone.{once_filter, once_append}
use Rattle.x5_model_parts.proofs.Owning.{map_map, filled_in, mastered_of_area, pointer_right, referred, of_referred, references_once, nssrs_once, own_once, own_area_is, area_at, area_in, own_like, own_low, own_in, served_own}

-- what is needed of what may be answered from
pub record Serving (p : Point) (o : ℕ) (a : Agent) (m : Chained) : Type 0 where
  pub like : (c : Held) → In c (served m.request (agent_holdings p o a)) → (d : Area) × Like (knowledge_now p) (served m.request (agent_holdings p o a)) d c
  pub once : Once (map (λ c. key_of c.prefix) (served m.request (agent_holdings p o a)))
  pub low : (c : Held) (e : Key) → In c (served m.request (agent_holdings p o a)) → In e (keys_of c.entries)
      → IsPrefix (key_of c.prefix) e × ((d : Area) → In d (knowledge_now p).areas → IsPrefix d.prefix e → length d.prefix ≤ length (key_of c.prefix))
  pub headed : (c : Held) → In c (served m.request (agent_holdings p o a)) → In (key_of c.prefix) (keys_of c.entries)

module _ (p : Point) (st : Stands p) (o : ℕ) (a : Agent) (ia : In (o, a) (numbered (knowledge_at p))) (m : Chained) where
  abbrev w : World
  w = knowledge_at p

  abbrev k : Knowledge
  k = knowledge_now p

  abbrev h : Holdings
  h = agent_holdings p o a

  headed_own : (c : Held) → In c h.own → In (key_of c.prefix) (keys_of c.entries)
  headed_own c j =
      let x = own_area_is p st o a ia c j in
      subst (λ (y : Held). In (key_of y.prefix) (keys_of y.entries)) (sym x.2) (st.coherent.headed (area_at p st o a ia x.0) (area_in p st o a ia x.0 x.1))

  -- where no copies may be used
  pub own_serving : may_copy m.request ≡ false → Serving p o a m
  own_serving none = record {
    like = λ c i. (let x = own_like p st o a ia (served m.request (agent_holdings p o a)) (λ d j. own_in p st o a ia m.request d j) c (of_all c i) in (x.0, x.2));
    once = subst (λ (xs : List Held). Once (map (λ (c : Held). key_of c.prefix) xs)) (sym (served_own p st o a ia m.request none)) (own_once p st o a ia);
    low = λ c e i j. own_low p st o a ia c e (of_all c i) j;
    headed = λ c i. headed_own c (of_all c i);
  }
    where
      of_all : (c : Held) → In c (served m.request (agent_holdings p o a)) → In c (agent_holdings p o a).own
      of_all c i = subst (λ (xs : List Held). In c xs) (served_own p st o a ia m.request none) i

  module _ (stood : CopiesStand p) where
    fed_area : (q : Key) (n b : ℕ) → IsFed k q n b → (d : Area) × In d k.areas × (d.prefix ≡ q)
    fed_area q n b (IsFed.ends x) = (x.0, x.1, x.3)
    fed_area q n b (fed {hops = j} s i c e f) = fed_area q j s.supplier f

    -- the context that a copy is of
    copied_of : (g : Agreement) → In g w.agreements → (x : Mastered) × In x (mastered w) × (pin_of x ≡ key_of g.context) × (mastered_at w (key_of g.context) ≡ Some x)
    copied_of g i =
        let d = fed_area (key_of g.context) 4 g.consumer (st.coherent.supplied (supply_of g) (in_map supply_of g w.agreements i)) in
        let y = mastered_of_area p st d.0 d.1 in
        go y.0 y.1 (y.2 ∙ d.2) (mastered_at w (key_of g.context)) refl
      where
        go : (y : Mastered) → In y (mastered w) → pin_of y ≡ key_of g.context → (x : Option Mastered) → mastered_at w (key_of g.context) ≡ x
            → (x : Mastered) × In x (mastered w) × (pin_of x ≡ key_of g.context) × (mastered_at w (key_of g.context) ≡ Some x)
        go y iy e None f =
            let none : same_key (pin_of y) (key_of g.context) ≡ false = not_found (λ (x : Mastered). same_key (pin_of x) (key_of g.context)) y (mastered w) f iy in
            absurd (false_true (sym none ∙ (key_decides (pin_of y) (key_of g.context)).1 e))
        go y iy e (Some x) f =
            let z = of_find (λ (x : Mastered). same_key (pin_of x) (key_of g.context)) x (mastered w) f in
            (x, z.0, (key_decides (pin_of x) (key_of g.context)).0 z.1, f)

    abbrev then_of : ℕ → Area → List Key
    then_of moment c = keys_of (part (tree_of_moment p moment) c.prefix)

    abbrev now_of : Area → List Key
    now_of c = keys_of (part (tree_at p) c.prefix)

    abbrev base_area : Mastered → Area
    base_area x = area_of x

    -- a pin's parent is in one context, then as now
    same_parents : (f g : Area → List Key) → Coherent (with_entries f (knowledge_of w)) → Coherent (with_entries g (knowledge_of w)) → (x y : Mastered) → In x (mastered w) → In y (mastered w)
        → In (parent (pin_of y)) (f (area_of x)) → In (parent (pin_of y)) (g (area_of x))
    same_parents f g good other x y ix iy up =
        let ax : In (area_of x) (knowledge_of w).areas = in_map area_of x (mastered w) ix in
        let ay : In (area_of y) (knowledge_of w).areas = in_map area_of y (mastered w) iy in
        let fx : In (holding f (area_of x)) (map (holding f) (knowledge_of w).areas) = in_map (holding f) (area_of x) (knowledge_of w).areas ax in
        let gx : In (holding g (area_of x)) (map (holding g) (knowledge_of w).areas) = in_map (holding g) (area_of x) (knowledge_of w).areas ax in
        let gy : In (holding g (area_of y)) (map (holding g) (knowledge_of w).areas) = in_map (holding g) (area_of y) (knowledge_of w).areas ay in
        let on : IsPrefix (pin_of x) (parent (pin_of y)) = good.below (holding f (area_of x)) (parent (pin_of y)) fx up in
        let le : length (pin_of x) ≤ length (parent (pin_of y)) = prefix_length (pin_of x) (parent (pin_of y)) on in
        let some : 0 < length (pin_of x) = good.filled (holding f (area_of x)) fx in
        let long : 0 < length (pin_of y) = other.filled (holding g (area_of y)) gy in
        let step : length (parent (pin_of y)) + 1 ≡ length (pin_of y) = parent_length (pin_of y) long in
        elim (other.parents (holding g (area_of y)) gy) [
          | inl one ↦ (let z : length (pin_of y) ≡ 1 = one in absurd (omega arith))
          | inr d ↦
              let e = of_map (holding g) d.0 (knowledge_of w).areas d.1 in
              let fe : In (holding f e.0) (map (holding f) (knowledge_of w).areas) = in_map (holding f) e.0 (knowledge_of w).areas e.1 in
              let there_d : In (parent (pin_of y)) (g e.0) = subst (λ (z : Area). In (parent (pin_of y)) z.entries) e.2 d.2 in
              let ge : In (holding g e.0) (map (holding g) (knowledge_of w).areas) = in_map (holding g) e.0 (knowledge_of w).areas e.1 in
              let on_e : IsPrefix e.0.prefix (parent (pin_of y)) = other.below (holding g e.0) (parent (pin_of y)) ge there_d in
              let less : length e.0.prefix ≤ length (pin_of x) = good.no_longer (holding f (area_of x)) (holding f e.0) (parent (pin_of y)) fx fe up on_e in
              let more : length (pin_of x) ≤ length e.0.prefix = other.no_longer (holding g e.0) (holding g (area_of x)) (parent (pin_of y)) ge gx there_d on in
              let same : holding g e.0 ≡ holding g (area_of x) = one_master (with_entries g (knowledge_of w)) (holding g e.0) (holding g (area_of x)) other ge gx (same_by_length e.0.prefix (pin_of x) (parent (pin_of y)) on_e on (omega arith)) in
              subst (λ (z : Area). In (parent (pin_of y)) z.entries) same there_d
        ]

    -- a copy, as it was sent
    abbrev pub sent_of : Agreement → ℕ → Mastered → Held
    sent_of g moment x = record {
      prefix = g.context;
      entries = part (tree_of_moment p moment) (key_of g.context);
      subordinate = sent_references (knowledge_at p) x (part (tree_of_moment p moment) (key_of g.context));
      nssrs = x.context.nssrs;
    }

    pub sent_is : (g : Agreement) (moment : ℕ) (x : Mastered) → mastered_at w (key_of g.context) ≡ Some x → copy_as_of p g (Some moment) ≡ sent_of g moment x
    sent_is g moment x e =
        ap (λ (y : Option Mastered). in_option (record { prefix = g.context; entries = part (tree_of_moment p moment) (key_of g.context); subordinate = []; nssrs = [] }) (λ (c : Mastered). sent_of g moment c) y) e

    abbrev now_area : Mastered → Area
    now_area x = holding (λ (c : Area). keys_of (part (tree_at p) c.prefix)) (area_of x)

    agent_of : (x : Mastered) → In x (mastered w) → (b : Agent) × In (x.master, b) (numbered w) × In x.context b.contexts
    agent_of x i =
        let y = of_flat (λ (b : ℕ × Agent). map (at_agent b.0) b.1.contexts) x (numbered w) i in
        let c = of_map (at_agent y.0.0) x y.0.1.contexts y.2 in
        let place : y.0.0 ≡ x.master = ap (λ (z : Mastered). z.master) (sym c.2) in
        (y.0.1, subst (λ (n : ℕ). In (n, y.0.1) (numbered w)) place y.1, subst (λ (z : Context). In z y.0.1.contexts) (ap (λ (z : Mastered). z.context) (sym c.2)) c.1)

    module _ (g : Agreement) (moment : ℕ) (ig : In g (knowledge_at p).agreements) (when : as_of p g.number ≡ Some moment) (x : Mastered) (ix : In x (mastered (knowledge_at p))) (ex : pin_of x ≡ key_of g.context) where
      at : StoodAt p moment
      at = stood g moment ig when

      entries : List Named
      entries = part (tree_of_moment p moment) (key_of g.context)

      -- what is sent has the entries of that moment
      sent_entries : (q : Key) → In q (keys_of (part (tree_of_moment p moment) (pin_of x))) ↔ In q (keys_of (part (tree_of_moment p moment) (key_of g.context)))
      sent_entries q = (subst (λ (y : Key). In q (keys_of (part (tree_of_moment p moment) y))) ex, subst (λ (y : Key). In q (keys_of (part (tree_of_moment p moment) y))) (sym ex))

      to_then : (y : Mastered) → In y (mastered w) → In (parent (pin_of y)) (keys_of (part (tree_at p) (pin_of x))) → In (parent (pin_of y)) (keys_of (part (tree_of_moment p moment) (key_of g.context)))
      to_then y iy i = (sent_entries (parent (pin_of y))).0 (same_parents now_of (then_of moment) st.coherent (stood g moment ig when).coherent x y ix iy i)

      to_now : (y : Mastered) → In y (mastered w) → In (parent (pin_of y)) (keys_of (part (tree_of_moment p moment) (key_of g.context))) → In (parent (pin_of y)) (keys_of (part (tree_at p) (pin_of x)))
      to_now y iy i = same_parents (then_of moment) now_of (stood g moment ig when).coherent st.coherent x y ix iy ((sent_entries (parent (pin_of y))).1 i)

      own_agent : (b : Agent) × In (x.master, b) (numbered w) × In x.context b.contexts
      own_agent = agent_of x ix

      abbrev mine : Mastered → Specific
      mine d = record { pin = d.context.prefix; access = record { master = x.master; shadows = [] } }

      abbrev is_mine : Mastered → Bool
      is_mine d = (d.master == x.master) && is_there (part (tree_of_moment p moment) (key_of g.context)) (parent (pin_of d))

      abbrev others_of : Agent → List Specific
      others_of b = filter (λ (r : Specific). not (masters (knowledge_at p) x.master (key_of r.pin))) (references_below (part (tree_of_moment p moment) (key_of g.context)) b.subordinate)

      references : sent_references w x (part (tree_of_moment p moment) (key_of g.context)) ≡ map mine (filter is_mine (mastered (knowledge_at p))) ++ others_of (agent_of x ix).0
      references = ap (λ (y : Option Agent). map mine (filter is_mine (mastered (knowledge_at p))) ++ in_option [] others_of y) (at_place w x.master (agent_of x ix).0 (agent_of x ix).1)

      area_now : In (now_area x) k.areas
      area_now = filled_in p st x ix

      IsToldBy : Specific → Type 0
      IsToldBy r = (q : Area) × In q (knowledge_now p).areas × (q.prefix ≡ key_of r.pin) × In (parent q.prefix) (now_area x).entries × IsTellable (knowledge_now p) x.master q.prefix × (q.master ≡ r.access.master)

      told_sent : (r : Specific) → In r (sent_references w x (part (tree_of_moment p moment) (key_of g.context))) → (q : Area) × In q k.areas × (q.prefix ≡ key_of r.pin) × In (parent q.prefix) (now_area x).entries × IsTellable k x.master q.prefix × (q.master ≡ r.access.master)
      told_sent r i =
          elim (in_either r (map mine (filter is_mine (mastered (knowledge_at p)))) (others_of (agent_of x ix).0) (subst (λ (xs : List Specific). In r xs) references i)) [
            | inl j ↦
                let d = of_map mine r (filter is_mine (mastered (knowledge_at p))) j in
                let f = of_filter is_mine d.0 (mastered (knowledge_at p)) d.1 in
                let b = both_true (d.0.master == x.master) _ f.1 in
                let master : d.0.master ≡ x.master = (Decides-eqb d.0.master x.master).0 b.0 in
                let up : In (parent (pin_of d.0)) (keys_of (part (tree_of_moment p moment) (key_of g.context))) = (there_decides (part (tree_of_moment p moment) (key_of g.context)) (parent (pin_of d.0))).0 b.1 in
                (now_area d.0, filled_in p st d.0 f.0, ap (λ (y : Specific). key_of y.pin) (sym d.2), to_now d.0 f.0 up, inr (now_area d.0, filled_in p st d.0 f.0, master, refl), master ∙ ap (λ (y : Specific). y.access.master) (sym d.2))
            | inr j ↦
                let b = agent_of x ix in
                let f = of_filter (λ (y : Specific). not (masters (knowledge_at p) x.master (key_of y.pin))) r (references_below (part (tree_of_moment p moment) (key_of g.context)) b.0.subordinate) j in
                let e = of_filter (λ (y : Specific). is_there (part (tree_of_moment p moment) (key_of g.context)) (parent (key_of y.pin))) r b.0.subordinate f.0 in
                let q = pointer_right p st x.master b.0 b.1 r e.0 in
                let y = mastered_of_area p st q.0 q.1 in
                let is : pin_of y.0 ≡ key_of r.pin = y.2 ∙ q.3 in
                let up : In (parent (key_of r.pin)) (keys_of (part (tree_of_moment p moment) (key_of g.context))) = (there_decides (part (tree_of_moment p moment) (key_of g.context)) (parent (key_of r.pin))).0 e.1 in
                let now : In (parent (pin_of y.0)) (keys_of (part (tree_at p) (pin_of x))) = to_now y.0 y.1 (subst (λ (z : Key). In (parent z) (keys_of (part (tree_of_moment p moment) (key_of g.context)))) (sym is) up) in
                (q.0, q.1, q.3, subst (λ (z : Key). In (parent z) (keys_of (part (tree_at p) (pin_of x)))) y.2 now, inl (referred p st x.master b.0 b.1 r q.0.prefix e.0 q.3), q.2)
          ]

      of_mine : (y : Mastered) → In y (mastered w) → y.master ≡ x.master → In (parent (pin_of y)) (keys_of (part (tree_of_moment p moment) (key_of g.context)))
          → In (mine y) (sent_references w x (part (tree_of_moment p moment) (key_of g.context)))
      of_mine y iy e up =
          subst (λ (xs : List Specific). In (mine y) xs) (sym references)
          (in_left (mine y) (map mine (filter is_mine (mastered (knowledge_at p)))) (others_of (agent_of x ix).0)
          (in_map mine y (filter is_mine (mastered (knowledge_at p))) (in_filter is_mine y (mastered (knowledge_at p)) iy
          (and_true _ _ ((Decides-eqb y.master x.master).1 e) ((there_decides (part (tree_of_moment p moment) (key_of g.context)) (parent (pin_of y))).1 up)))))

      tells_sent : (q : Area) → In q k.areas → In (parent q.prefix) (now_area x).entries → IsTellable k x.master q.prefix → (r : Specific) × In r (sent_references w x (part (tree_of_moment p moment) (key_of g.context))) × (key_of r.pin ≡ q.prefix)
      tells_sent q iq up tell =
          let y = mastered_of_area p st q iq in
          let before : In (parent (pin_of y.0)) (keys_of (part (tree_of_moment p moment) (key_of g.context))) = to_then y.0 y.1 (subst (λ (z : Key). In (parent z) (keys_of (part (tree_at p) (pin_of x)))) (sym y.2) up) in
          let by_mine : IsMastered k x.master q.prefix → (r : Specific) × In r (sent_references w x (part (tree_of_moment p moment) (key_of g.context))) × (key_of r.pin ≡ q.prefix) = λ c.
          (let one : c.0 ≡ q = one_master k c.0 q st.coherent c.1 iq c.3 in
          (mine y.0, of_mine y.0 y.1 (y.3 ∙ ap (λ (z : Area). z.master) (sym one) ∙ c.2) before, y.2)) in
          elim tell [
            | inr c ↦ by_mine c
            | inl z ↦
                let b = agent_of x ix in
                let r = of_referred p st x.master b.0 b.1 q.prefix z in
                elim (true_or_false (masters (knowledge_at p) x.master (key_of r.0.pin))) [
                  | inl sure ↦
                      let c = (masters_decides (knowledge_at p) x.master (key_of r.0.pin)).0 sure in
                      by_mine (holding (λ (c : Area). keys_of (part (tree_at p) c.prefix)) c.0, in_map (holding (λ (c : Area). keys_of (part (tree_at p) c.prefix))) c.0 (knowledge_of w).areas c.1, c.2, c.3 ∙ r.2)
                  | inr free ↦
                      let at_pin : is_there (part (tree_of_moment p moment) (key_of g.context)) (parent (key_of r.0.pin)) ≡ true =
                      (there_decides (part (tree_of_moment p moment) (key_of g.context)) (parent (key_of r.0.pin))).1 (subst (λ (z : Key). In (parent z) (keys_of (part (tree_of_moment p moment) (key_of g.context)))) (y.2 ∙ sym r.2) before) in
                      let below : In r.0 (references_below (part (tree_of_moment p moment) (key_of g.context)) b.0.subordinate) =
                      in_filter (λ (y : Specific). is_there (part (tree_of_moment p moment) (key_of g.context)) (parent (key_of y.pin))) r.0 b.0.subordinate r.1 at_pin in (
                        r.0,
                        subst (λ (xs : List Specific). In r.0 xs) (sym references)
                            (in_right r.0 (map mine (filter is_mine (mastered (knowledge_at p)))) (others_of b.0)
                            (in_filter (λ (y : Specific). not (masters (knowledge_at p) x.master (key_of y.pin))) r.0 (references_below (part (tree_of_moment p moment) (key_of g.context)) b.0.subordinate) below (ap not free))),
                        r.2,
                      )
                ]
          ]

      sent_once : Once (map (λ (r : Specific). key_of r.pin) (sent_references w x (part (tree_of_moment p moment) (key_of g.context))))
      sent_once =
          subst (λ (xs : List Specific). Once (map (λ (r : Specific). key_of r.pin) xs)) (sym references)
          (once_append (λ (r : Specific). key_of r.pin) (map mine (filter is_mine (mastered (knowledge_at p)))) (others_of (agent_of x ix).0)
          (subst (λ (ks : List Key). Once ks) (sym (map_map mine (λ (r : Specific). key_of r.pin) (filter is_mine (mastered (knowledge_at p))))) (once_filter pin_of is_mine (mastered (knowledge_at p)) (conditions_hold w st.consistent).one_master))
          (once_filter (λ (r : Specific). key_of r.pin) (λ (r : Specific). not (masters (knowledge_at p) x.master (key_of r.pin))) (references_below (part (tree_of_moment p moment) (key_of g.context)) (agent_of x ix).0.subordinate)
          (once_filter (λ (r : Specific). key_of r.pin) (λ (y : Specific). is_there (part (tree_of_moment p moment) (key_of g.context)) (parent (key_of y.pin))) (agent_of x ix).0.subordinate (references_once p st x.master (agent_of x ix).0 (agent_of x ix).1)))
          (λ r q i j e.
          (let d = of_map mine r (filter is_mine (mastered (knowledge_at p))) i in
          let f = of_filter is_mine d.0 (mastered (knowledge_at p)) d.1 in
          let master : d.0.master ≡ x.master = (Decides-eqb d.0.master x.master).0 (both_true (d.0.master == x.master) _ f.1).0 in
          let u = of_filter (λ (y : Specific). not (masters (knowledge_at p) x.master (key_of y.pin))) q (references_below (part (tree_of_moment p moment) (key_of g.context)) (agent_of x ix).0.subordinate) j in
          let is : pin_of d.0 ≡ key_of q.pin = ap (λ (y : Specific). key_of y.pin) (sym d.2) ∙ e in
          let sure : masters (knowledge_at p) x.master (key_of q.pin) ≡ true = (masters_decides (knowledge_at p) x.master (key_of q.pin)).1 (area_of d.0, in_map area_of d.0 (mastered w) f.0, master, is) in
          false_true (sym (not_true (masters (knowledge_at p) x.master (key_of q.pin)) u.1) ∙ sure))))

      then_area : In (holding (then_of moment) (area_of x)) (map (holding (then_of moment)) (knowledge_of w).areas)
      then_area = in_map (holding (then_of moment)) (area_of x) (knowledge_of w).areas (in_map area_of x (mastered w) ix)

      pub sent_like : (all : List Held) → Like (knowledge_now p) all (now_area x) (sent_of g moment x)
      sent_like all = record {
        area = area_now;
        prefix = ex;
        entries = λ q iq. (
          λ i. (let y = mastered_of_area p st q iq in subst (λ (z : Key). In (parent z) (keys_of (part (tree_of_moment p moment) (key_of g.context)))) y.2 (to_then y.0 y.1 (subst (λ (z : Key). In (parent z) (keys_of (part (tree_at p) (pin_of x)))) (sym y.2) i))),
          λ i. (let y = mastered_of_area p st q iq in subst (λ (z : Key). In (parent z) (keys_of (part (tree_at p) (pin_of x)))) y.2 (to_now y.0 y.1 (subst (λ (z : Key). In (parent z) (keys_of (part (tree_of_moment p moment) (key_of g.context)))) (sym y.2) i))),
        );
        nssrs = refl;
        nssr_there = λ n j. (sent_entries (key_of n.at)).0 ((stood g moment ig when).coherent.nssr_at (holding (then_of moment) (area_of x)) (spot_of n) then_area (in_map spot_of n x.context.nssrs j));
        told = told_sent;
        tells = λ q iq up tell free. tells_sent q iq up tell;
        referred_once = sent_once;
        nssrs_once = nssrs_once p st x.master (agent_of x ix).0 (agent_of x ix).1 x.context (agent_of x ix).2;
        agents_once = λ n j. st.coherent.nssr_once (now_area x) (spot_of n) area_now (in_map spot_of n x.context.nssrs j);
      }

      pub sent_low : (e : Key) → In e (keys_of (part (tree_of_moment p moment) (key_of g.context))) → IsPrefix (key_of g.context) e × ((d : Area) → In d (knowledge_now p).areas → IsPrefix d.prefix e → length d.prefix ≤ length (key_of g.context))
      sent_low e i =
          let y = of_map key_at e (part (tree_of_moment p moment) (key_of g.context)) i in
          let f = of_filter (λ (z : Named). belongs (tree_of_moment p moment).pins (key_of g.context) (key_at z)) y.0 (tree_of_moment p moment).entries y.1 in
          let b = (belongs_decides (tree_of_moment p moment).pins (key_of g.context) (key_at y.0)).0 f.1 in (
            subst (λ (z : Key). IsPrefix (key_of g.context) z) (sym y.2) b.1.0,
            λ d id on. (let c = mastered_of_area p st d id in
                let pin : In d.prefix (tree_of_moment p moment).pins = ((stood g moment ig when).pins_are d.prefix).1 (subst (λ (z : Key). In z (pins w)) c.2 (in_map pin_of c.0 (mastered w) c.1)) in
                b.1.1 d.prefix pin (subst (λ (z : Key). IsPrefix d.prefix z) y.2 on)),
          )

      pub sent_headed : In (key_of g.context) (keys_of (part (tree_of_moment p moment) (key_of g.context)))
      sent_headed = subst (λ (z : Key). In z (keys_of (part (tree_of_moment p moment) (key_of g.context)))) ex ((sent_entries (pin_of x)).0 ((stood g moment ig when).coherent.headed (holding (then_of moment) (area_of x)) then_area))

    -- what may be answered from by a copy, was sent
    abbrev pub IsSent : Held → Type 0
    IsSent c =
        (g : Agreement) × (moment : ℕ) × (x : Mastered) × In g (knowledge_at p).agreements × (g.consumer ≡ o) × (as_of p g.number ≡ Some moment) × In x (mastered (knowledge_at p)) × (pin_of x ≡ key_of g.context) × (c ≡ sent_of g moment x)

    pub usable_sent : (r : Request) (c : Held) → In c (usable_copies r (agent_holdings p o a)) → IsSent c
    usable_sent r c i = go (may_copy r) i
      where
        stamped : (x : Copy) → In x (agent_holdings p o a).copies → is_some x.stamp ≡ true → c ≡ x.held → IsSent c
        stamped x j s e =
            let g = copy_is p o a x j in
            at g.0 g.1 g.2 (as_of p g.0.number) refl (subst (λ (y : Copy). is_some y.stamp ≡ true) g.3 s) (e ∙ ap (λ (y : Copy). y.held) g.3)
          where
            at : (g : Agreement) → In g (knowledge_at p).agreements → g.consumer ≡ o → (y : Option ℕ) → as_of p g.number ≡ y → is_some (as_of p g.number) ≡ true → c ≡ copy_as_of p g (as_of p g.number) → IsSent c
            at g ig consumer None f s e = absurd (false_true (ap is_some (sym f) ∙ s))
            at g ig consumer (Some moment) f s e =
                let z = copied_of g ig in
                (g, moment, z.0, ig, consumer, f, z.1, z.2, e ∙ ap (copy_as_of p g) f ∙ sent_is g moment z.0 z.3)

        go : (b : Bool) → In c (if b then map (λ (x : Copy). x.held) (filter (λ (x : Copy). is_some x.stamp) (agent_holdings p o a).copies) else []) → IsSent c
        go false j = elim j [ ]
        go true j =
            let x = of_map (λ (x : Copy). x.held) c (filter (λ (x : Copy). is_some x.stamp) (agent_holdings p o a).copies) j in
            let f = of_filter (λ (x : Copy). is_some x.stamp) x.0 (agent_holdings p o a).copies x.1 in
            stamped x.0 f.0 f.1 x.2

    -- an agent has one copy of a context
    new_agreements : (before : List Key) (gs : List Agreement) (g : Agreement) → In g (first_agreements before gs) → In (key_of g.context) before → ⊥
    new_agreements before [] g i j = elim i [ ]
    new_agreements before (x ∷ gs) g i j = go (has same_key before (key_of x.context)) refl i (λ l. new_agreements before gs g l j) (λ l. new_agreements (key_of x.context ∷ before) gs g l (there j))
      where
        go : (b : Bool) → has same_key before (key_of x.context) ≡ b → In g (if b then first_agreements before gs else (x ∷ first_agreements (key_of x.context ∷ before) gs))
            → (In g (first_agreements before gs) → ⊥) → (In g (first_agreements (key_of x.context ∷ before) gs) → ⊥) → ⊥
        go true e l f h = f l
        go false e l f h =
            elim (in_first g x (first_agreements (key_of x.context ∷ before) gs) l) [
              | inl same ↦ false_true (sym e ∙ has_in same_key key_decides (key_of x.context) before (subst (λ (y : Agreement). In (key_of y.context) before) same j))
              | inr k ↦ h k
            ]

    once_agreements : (before : List Key) (gs : List Agreement) → Once (map (λ (g : Agreement). key_of g.context) (first_agreements before gs))
    once_agreements before [] = tt
    once_agreements before (x ∷ gs) = go (has same_key before (key_of x.context)) (once_agreements before gs) (once_agreements (key_of x.context ∷ before) gs)
      where
        go : (b : Bool) → Once (map (λ (g : Agreement). key_of g.context) (first_agreements before gs)) → Once (map (λ (g : Agreement). key_of g.context) (first_agreements (key_of x.context ∷ before) gs))
            → Once (map (λ (g : Agreement). key_of g.context) (if b then first_agreements before gs else (x ∷ first_agreements (key_of x.context ∷ before) gs)))
        go true f h = f
        go false f h = (
          λ i.
              let c = of_map (λ (g : Agreement). key_of g.context) (key_of x.context) (first_agreements (key_of x.context ∷ before) gs) i in
              new_agreements (key_of x.context ∷ before) gs c.0 c.1 (subst (λ (k : Key). In k (key_of x.context ∷ before)) c.2 here),
          h,
        )

    same_maps : {A B : Type 0} (f g : A → B) → ((x : A) → f x ≡ g x) → (xs : List A) → map f xs ≡ map g xs
    same_maps f g e [] = refl
    same_maps {A} {B} f g e (x ∷ xs) = ap (λ (y : B). y ∷ map f xs) (e x) ∙ ap (λ (ys : List B). g x ∷ ys) (same_maps f g e xs)

    copies_once : (r : Request) → Once (map (λ (c : Held). key_of c.prefix) (usable_copies r (agent_holdings p o a)))
    copies_once r = go (may_copy r)
      where
        all_copies : Once (map (λ (x : Copy). key_of x.held.prefix) (map (copy_by p) (agreements_of (knowledge_at p) o)))
        all_copies =
            subst (λ (ks : List Key). Once ks) (sym (map_map (copy_by p) (λ (x : Copy). key_of x.held.prefix) (agreements_of (knowledge_at p) o)
            ∙ same_maps (λ (g : Agreement). key_of (copy_by p g).held.prefix) (λ (g : Agreement). key_of g.context) (λ g. ap key_of (copy_prefix p g (as_of p g.number))) (agreements_of (knowledge_at p) o)))
            (once_agreements [] (filter (λ (g : Agreement). g.consumer == o) (knowledge_at p).agreements))

        go : (b : Bool) → Once (map (λ (c : Held). key_of c.prefix) (if b then map (λ (x : Copy). x.held) (filter (λ (x : Copy). is_some x.stamp) (agent_holdings p o a).copies) else []))
        go false = tt
        go true =
            subst (λ (ks : List Key). Once ks) (sym (map_map (λ (x : Copy). x.held) (λ (c : Held). key_of c.prefix) (filter (λ (x : Copy). is_some x.stamp) (agent_holdings p o a).copies)))
            (once_filter (λ (x : Copy). key_of x.held.prefix) (λ (x : Copy). is_some x.stamp) (agent_holdings p o a).copies all_copies)

    abbrev free_of : Held → Bool
    free_of d = not (masters_pin (agent_holdings p o a) (key_of d.prefix))

    own_or_sent : (P : Held → Type 0) → ((c : Held) → In c h.own → P c) → ((c : Held) → IsSent c → P c) → (c : Held) → In c (served m.request (agent_holdings p o a)) → P c
    own_or_sent P f e c i =
        elim (in_either c (agent_holdings p o a).own (filter free_of (usable_copies m.request (agent_holdings p o a))) i) [
          | inl j ↦ f c j
          | inr j ↦ e c (usable_sent m.request c (of_filter free_of c (usable_copies m.request (agent_holdings p o a)) j).0)
        ]

    -- and where copies may be used
    pub all_serving : Serving p o a m
    all_serving = record {
      like = own_or_sent (λ c. (d : Area) × Like (knowledge_now p) (served m.request (agent_holdings p o a)) d c)
          (λ c i. (let x = own_like p st o a ia (served m.request (agent_holdings p o a)) (λ d j. own_in p st o a ia m.request d j) c i in (x.0, x.2)))
          (λ c s. (now_area s.2, subst (λ (y : Held). Like (knowledge_now p) (served m.request (agent_holdings p o a)) (now_area s.2) y) (sym s.8) (sent_like s.0 s.1 s.3 s.5 s.2 s.6 s.7 (served m.request (agent_holdings p o a)))));
      once = once_append (λ (c : Held). key_of c.prefix) (agent_holdings p o a).own (filter free_of (usable_copies m.request (agent_holdings p o a))) (own_once p st o a ia)
          (once_filter (λ (c : Held). key_of c.prefix) free_of (usable_copies m.request (agent_holdings p o a)) (copies_once m.request))
          (λ c d i j e.
          (let f = of_filter free_of d (usable_copies m.request (agent_holdings p o a)) j in
          false_true (sym (not_true (masters_pin (agent_holdings p o a) (key_of d.prefix)) f.1) ∙ ap (λ (q : Key). masters_pin (agent_holdings p o a) q) (sym e) ∙ held_in (agent_holdings p o a).own c i)));
      low = λ c e i. own_or_sent
          (λ c. In e (keys_of c.entries) → IsPrefix (key_of c.prefix) e × ((d : Area) → In d (knowledge_now p).areas → IsPrefix d.prefix e → length d.prefix ≤ length (key_of c.prefix)))
          (λ c i j. own_low p st o a ia c e i j)
          (λ c s. subst (λ (y : Held). In e (keys_of y.entries) → IsPrefix (key_of y.prefix) e × ((d : Area) → In d (knowledge_now p).areas → IsPrefix d.prefix e → length d.prefix ≤ length (key_of y.prefix))) (sym s.8) (sent_low s.0 s.1 s.3 s.5 s.2 s.6 s.7 e)) c i;
      headed = own_or_sent (λ c. In (key_of c.prefix) (keys_of c.entries)) headed_own
          (λ c s. subst (λ (y : Held). In (key_of y.prefix) (keys_of y.entries)) (sym s.8) (sent_headed s.0 s.1 s.3 s.5 s.2 s.6 s.7));
    }
