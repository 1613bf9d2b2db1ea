-- The parts of a list or search join to the whole, in the words of the definitions.
use Rattle.std.proofs.Common.{◌≡◌, ℕ, ◌<◌, Bool, true, false, ◌&&◌, ◌||◌, ◌⊎◌, inl, inr, ◌↔◌, List, [], ◌∷◌, length, map, refl, sym, ap, subst, ◌∙◌, Option, Some, None, if◌then◌else◌, not}
use Rattle.std.specs.Option.{is_some}
use Rattle.x5_model.specs.Words.{in_option}
use Rattle.x5_model.specs.Members.{In, here, there}
use Rattle.x5_model.specs.Keys.{Key, IsPrefix, parent, same_key, is_child}
use Rattle.x5_model.specs.Values.{key_of}
use Rattle.x5_model.specs.Requests.{Subset, Base, OneLevel, WholeSubtree}
use Rattle.x5_model.specs.References.{Progress, RefType, Subordinate, Reference, Chained}
use Rattle.x5_model.proofs.KeyLaws.{key_decides}
use Rattle.x5_model.proofs.Lists.{both_true, in_first, in_map, of_map, in_flat, in_either, of_filter}
use Rattle.x5_model.proofs.Prefixes.{prefix_itself, prefix_length, child_decides}
use Rattle.x5_model_tree.specs.World.{Agent, World}
use Rattle.x5_model_tree.specs.Tree.{part, keys_of}
use Rattle.x5_model_tree.specs.Masters.{Mastered, pin_of, numbered, agent_at, mastered, master_among}
use Rattle.x5_model_run.specs.Journal.{Line, is_done, is_wide, same_name, same_kind}
use Rattle.x5_model_run.specs.Holdings.{Held, Holdings, served, Copy, may_copy, masters_pin, usable_copies}
use Rattle.x5_model_run.specs.Needs.{target_of, subset_of, evaluated, is_excluded}
use Rattle.x5_model_run.specs.History.{Point, knowledge_at, tree_at, agent_holdings, no_holdings, holdings_at, tree_of_moment}
use Rattle.x5_model_run.specs.Chain.{IsCarried, asks_part}
use Rattle.x5_model_run.specs.Covers.{covers}
use Rattle.x5_model_theory.specs.Knowledge.{Knowledge, Area, Spot}
use Rattle.x5_model_theory.specs.Described.{area_of}
use Rattle.x5_model_theory.specs.Changing.{holding}
use Rattle.x5_model_theory.specs.Scopes.{InSubset, IsInScope, Look, IsTreated, InSpecific, InNonSpecific, IsTouched}
use Rattle.x5_model_theory.specs.Looking.{narrowed, from_base, from_pins, IsAskedFor}
use Rattle.x5_model_theory.proofs.Cohering.{one_master}
use Rattle.x5_model_theory.proofs.Places.{at_agent}
use Rattle.x5_model_theory.proofs.Holding.{of_place}
use Rattle.x5_model_theory.proofs.Scoping.{in_subset_below}
use Rattle.x5_model_theory.proofs.LooksFrom.{specific_leads, nonspecific_leads}
use Rattle.x5_model_parts.specs.Standing.{knowledge_now, CopiesStand}
use Rattle.x5_model_parts.specs.Parts.{begins_here, BeginsHere, spots, rest_needs, looks_into, IsOwn, IsCopied, SpotsAreRight, SpotsAreOnce, SpotsAreTouched, SpotsAreApart, AllAreParts, PartsAreApart, ScopeIsCovered}
use Rattle.x5_model_parts.proofs.Asking.{false_true, rdn_keys}
use Rattle.x5_model_parts.proofs.Seeing.{Sees}
use Rattle.x5_model_parts.proofs.Spots.{spot_is}
use Rattle.x5_model_parts.proofs.Needing.{IsTo, IsAmong, view_of}
use Rattle.x5_model_parts.proofs.Covering.{not_it, InScope, scope_covered, covered_scope, scope_touched, spot_touched, spot_apart, all_parts}
use Rattle.x5_model_parts.proofs.Apart.{spots_once, needs_lone, needs_apart}
use Rattle.x5_model_parts.proofs.Lone.{Lone}
use Rattle.x5_model_parts.proofs.Owning.{filled_in, area_of_mastered, mastered_of_area, own_area_is}
use Rattle.x5_model_parts.proofs.Copying.{Serving, own_serving, all_serving, usable_sent}
use Rattle.x5_model_parts.proofs.Touching.{IsLow, looks_from_base, start_areas, of_start, in_starts, looks_from_pins}
use Rattle.x5_model_parts.proofs.Beginning.{sees}
use Rattle.x5_model_parts.proofs.Parting.{excluded_by, target_fits, target_is, exclusions_are, narrow_asked, wide_asked}
use Rattle.std.specs.List.{filter}

-- ---- the agent, and what it sees

pub record Sight (p : Point) (l : Line) : Type 0 where
  pub agent : Agent
  pub place : In (l.receiver, agent) (numbered (knowledge_at p))
  pub is : holdings_at p l.receiver ≡ agent_holdings p l.receiver agent
  pub look : Look
  pub sees_it : Sees (knowledge_at p) (tree_at p) (knowledge_now p) l.receiver (holdings_at p l.receiver) l.message look

holdings_of : (p : Point) (o : ℕ) (a : Agent) → agent_at (knowledge_at p) o ≡ Some a → holdings_at p o ≡ agent_holdings p o a
holdings_of p o a e = ap (λ (x : Option Agent). in_option (no_holdings o) (agent_holdings p o) x) e

pub sight : (p : Point) (l : Line) → BeginsHere p l → Sight p l
sight p l b = go (agent_at (knowledge_at p) l.receiver) refl b.agent
  where
    go : (x : Option Agent) → agent_at (knowledge_at p) l.receiver ≡ x → is_some x ≡ true → Sight p l
    go None e t = absurd (false_true t)
    go (Some a) e t =
        let is : holdings_at p l.receiver ≡ agent_holdings p l.receiver a = holdings_of p l.receiver a e in
        let place : In (l.receiver, a) (numbered (knowledge_at p)) = of_place (knowledge_at p) l.receiver a e in
        let fit : same_name (target_of l.message.request.body) l.message.target ≡ true = (both_true (same_name (target_of l.message.request.body) l.message.target) _ b.fit).0 in
        let facts : Serving p l.receiver a l.message = elim b.copies [ inl none ↦ own_serving p b.stands l.receiver a place l.message none | inr stood ↦ all_serving p b.stands l.receiver a place l.message stood ] in
        let v = sees p b.stands l.receiver a place l.message facts fit (subst (λ (h : Holdings). begins_here h l.message ≡ true) is b.begins) in
        record {
          agent = a;
          place = place;
          is = is;
          look = v.0;
          sees_it = subst (λ (h : Holdings). Sees (knowledge_at p) (tree_at p) (knowledge_now p) l.receiver h l.message v.0) (sym is) v.1;
        }

-- ---- what is evaluated on the spot

of_spots : (p : Point) (l : Line) (q : Key) → In q (spots p l) → (c : Held) × In c (evaluated (holdings_at p l.receiver) l.message) × (q ≡ key_of c.prefix)
of_spots p l q i = of_map (λ (c : Held). key_of c.prefix) q (evaluated (holdings_at p l.receiver) l.message) i

only_master : (ms : List Mastered) (m : Mastered) (pin : Key) → In m ms → pin_of m ≡ pin → ((n : Mastered) → In n ms → pin_of n ≡ pin → n.master ≡ m.master) → master_among ms pin ≡ Some m.master
only_master [] m pin i e f = elim i [ ]
only_master (x ∷ ms) m pin i e f =
    go (same_key (pin_of x) pin) refl (λ j. only_master ms m pin j e (λ n k. f n (there k)))
  where
    go : (b : Bool) → same_key (pin_of x) pin ≡ b → (In m ms → master_among ms pin ≡ Some m.master) → (if b then Some x.master else master_among ms pin) ≡ Some m.master
    go true s more = ap Some (f x here ((key_decides (pin_of x) pin).0 s))
    go false s more = elim (in_first m x ms i) [
      | inl same ↦ absurd (false_true (sym s ∙ (key_decides (pin_of x) pin).1 (ap pin_of (sym same) ∙ e)))
      | inr j ↦ more j
    ]

pub spots_are_right : SpotsAreRight
spots_are_right p l c b i =
    let v = sight p l b in
    let s = v.sees_it in
    let x = spot_is (knowledge_at p) (tree_at p) (knowledge_now p) l.receiver (holdings_at p l.receiver) l.message v.look s c i in
    let y : In c (served l.message.request (agent_holdings p l.receiver v.agent)) = subst (λ (h : Holdings). In c (served l.message.request h)) v.is x.0 in
    elim (in_either c (agent_holdings p l.receiver v.agent).own (filter (λ (d : Held). not (masters_pin (agent_holdings p l.receiver v.agent) (key_of d.prefix))) (usable_copies l.message.request (agent_holdings p l.receiver v.agent))) y) [
      | inl mine ↦ inl (own v.agent v.place mine)
      | inr j ↦ inr (copied v.agent v.place b.copies
          (of_filter (λ (d : Held). not (masters_pin (agent_holdings p l.receiver v.agent) (key_of d.prefix))) c (usable_copies l.message.request (agent_holdings p l.receiver v.agent)) j).0)
    ]
  where
    own : (a : Agent) → In (l.receiver, a) (numbered (knowledge_at p)) → In c (agent_holdings p l.receiver a).own → IsOwn p l c
    own a ia mine =
        let d = own_area_is p b.stands l.receiver a ia c mine in
        let n : Mastered = at_agent l.receiver d.0 in
        let inside : In n (mastered (knowledge_at p)) = in_flat (λ (y : ℕ × Agent). map (at_agent y.0) y.1.contexts) n (l.receiver, a) (numbered (knowledge_at p)) ia (in_map (at_agent l.receiver) d.0 a.contexts d.1) in
        let same : pin_of n ≡ key_of c.prefix = ap (λ (y : Held). key_of y.prefix) (sym d.2) in (
          subst (λ (y : Held). y.entries ≡ part (tree_at p) (key_of y.prefix)) (sym d.2) refl,
          only_master (mastered (knowledge_at p)) n (key_of c.prefix) inside same
              (λ y iy e.
              (let one = area_of_mastered p b.stands y iy in
              let two = area_of_mastered p b.stands n inside in
              sym one.3 ∙ ap (λ (z : Area). z.master) (one_master (knowledge_now p) one.0 two.0 b.stands.coherent one.1 two.1 (one.2 ∙ e ∙ sym same ∙ sym two.2)) ∙ two.3)),
        )

    used : (a : Agent) → In c (usable_copies l.message.request (agent_holdings p l.receiver a)) → may_copy l.message.request ≡ true
    used a j = go (may_copy l.message.request) j
      where
        go : (x : Bool) → In c (if x then map (λ (y : Copy). y.held) (filter (λ (y : Copy). is_some y.stamp) (agent_holdings p l.receiver a).copies) else []) → x ≡ true
        go true k = refl
        go false k = elim k [ ]

    copied : (a : Agent) → In (l.receiver, a) (numbered (knowledge_at p)) → (may_copy l.message.request ≡ false) ⊎ CopiesStand p → In c (usable_copies l.message.request (agent_holdings p l.receiver a)) → IsCopied p l c
    copied a ia (inl none) j = absurd (false_true (sym none ∙ used a j))
    copied a ia (inr stood) j =
        let x = usable_sent p b.stands l.receiver a ia l.message stood l.message.request c j in
        record {
          allowed = used a j;
          agreement = x.0;
          moment = x.1;
          stands = x.3;
          consumer = x.4;
          context = ap (λ (y : Held). key_of y.prefix) (sym x.8);
          refreshed = x.5;
          entries = subst (λ (y : Held). y.entries ≡ part (tree_of_moment p x.1) (key_of y.prefix)) (sym x.8) refl;
        }

-- no two needed references ask the same of one agent
pub parts_are_lone : (p : Point) (l : Line) → BeginsHere p l → Lone (knowledge_at p) (rest_needs p l)
parts_are_lone p l b = (let v = sight p l b in needs_lone (knowledge_at p) (tree_at p) (knowledge_now p) l.receiver (holdings_at p l.receiver) l.message v.look v.sees_it)

pub spots_are_once : SpotsAreOnce
spots_are_once p l b = (let v = sight p l b in spots_once (knowledge_at p) (tree_at p) (knowledge_now p) l.receiver (holdings_at p l.receiver) l.message v.look v.sees_it)

pub spots_are_touched : SpotsAreTouched
spots_are_touched p l q b i =
    let v = sight p l b in
    let c = of_spots p l q i in
    subst (λ (x : Key). In x (looks_into p l.receiver l.message)) (sym c.2) (spot_touched (knowledge_at p) (tree_at p) (knowledge_now p) l.receiver (holdings_at p l.receiver) l.message v.look v.sees_it c.0 c.1)

pub spots_are_apart : SpotsAreApart
spots_are_apart p l q r b i j =
    let v = sight p l b in
    let c = of_spots p l q i in
    subst (λ (x : Key). covers (knowledge_at p) r x ≡ false) (sym c.2) (spot_apart (knowledge_at p) (tree_at p) (knowledge_now p) l.receiver (holdings_at p l.receiver) l.message v.look v.sees_it c.0 r c.1 j)

pub all_are_parts : AllAreParts
all_are_parts p l q b i = (let v = sight p l b in all_parts (knowledge_at p) (tree_at p) (knowledge_now p) l.receiver (holdings_at p l.receiver) l.message v.look v.sees_it q i)

pub parts_are_apart : PartsAreApart
parts_are_apart p l b = (let v = sight p l b in needs_apart (knowledge_at p) (tree_at p) (knowledge_now p) l.receiver (holdings_at p l.receiver) l.message v.look v.sees_it)

-- ---- what a reference stands for

module _ (p : Point) (l : Line) (b : BeginsHere p l) where
  abbrev w : World
  w = knowledge_at p

  abbrev k : Knowledge
  k = knowledge_now p

  abbrev o : ℕ
  o = l.receiver

  abbrev h : Holdings
  h = holdings_at p l.receiver

  view : Sight p l
  view = sight p l b

  abbrev look : Look
  look = (sight p l b).look

  abbrev s : Sees (knowledge_at p) (tree_at p) (knowledge_now p) l.receiver (holdings_at p l.receiver) l.message (sight p l b).look
  s = (sight p l b).sees_it

  abbrev To : Reference → Area → Type 0
  To r pin = IsTo (knowledge_at p) (tree_at p) (knowledge_now p) l.receiver (holdings_at p l.receiver) l.message (sight p l b).look (sight p l b).sees_it r pin

  abbrev Among : Reference → Spot → ℕ → Type 0
  Among r n a = IsAmong (knowledge_at p) (tree_at p) (knowledge_now p) l.receiver (holdings_at p l.receiver) l.message (sight p l b).look (sight p l b).sees_it r n a

  abbrev pub View : Reference → Type 0
  View r = ((pin : Area) × To r pin) ⊎ ((n : Spot) × (a : ℕ) × Among r n a)

  pub the_view : (r : Reference) → In r (rest_needs p l) → View r
  the_view r i = view_of (knowledge_at p) (tree_at p) (knowledge_now p) l.receiver (holdings_at p l.receiver) l.message (sight p l b).look (sight p l b).sees_it r i

  asks_specific : (r : Reference) (pin : Area) → To r pin → asks_part r ≡ true
  asks_specific r pin v = ap (λ (x : Progress). is_done x && (same_kind r.kind Subordinate || is_wide r.kind)) v.progress ∙ ap (λ (x : RefType). same_kind x Subordinate || is_wide x) v.kind

  asks_wide : (r : Reference) (n : Spot) (a : ℕ) → Among r n a → asks_part r ≡ true
  asks_wide r n a v = ap (λ (x : Progress). is_done x && (same_kind r.kind Subordinate || is_wide r.kind)) v.progress ∙ ap (λ (x : RefType). same_kind x Subordinate || is_wide x) v.kind

  pub asks : (r : Reference) → View r → asks_part r ≡ true
  asks r (inl v) = asks_specific r v.0 v.1
  asks r (inr v) = asks_wide r v.0 v.1 v.2

  -- a nonSpecific reference isn't needed where the base alone is asked for
  pub not_base : (n : Spot) (sub : Subset) (base : Key) → IsInScope sub base n.at → sub ≡ Base → ⊥
  not_base n sub base i e = subst (λ (x : Subset). IsInScope x base n.at) e i

  Scoped : (r : Reference) → View r → List Key → Type 0
  Scoped r v xs = (q : Key) → In q xs ↔ ((d : Area) × In d (knowledge_now p).areas × (d.prefix ≡ q) × InScope (knowledge_at p) (tree_at p) (knowledge_now p) l.receiver (holdings_at p l.receiver) l.message (sight p l b).look (sight p l b).sees_it r v d)

  pin_low : (d : Area) (base : Key) → In d k.areas → base ≡ d.prefix → IsLow p b.stands d base
  pin_low d base i e = record {
    area = i;
    on = subst (λ (x : Key). IsPrefix d.prefix x) (sym e) (prefix_itself d.prefix);
    low = λ c ic on. prefix_length c.prefix d.prefix (subst (λ (x : Key). IsPrefix c.prefix x) e on);
  }

  specific_scoped : (sender : Option ℕ) (r : Reference) (m : Chained) (a : ℕ) (pin : Area) (v : To r pin) → IsCarried sender l r m
      → (q : Key) → In q (looks_into p a m) ↔ ((d : Area) × In d k.areas × (d.prefix ≡ q) × InSpecific look pin d)
  specific_scoped sender r m a pin v carried q = (
    λ i. (let d = (at q).0 i in (d.0, d.1, d.2, (leads d.0).0 d.3)),
    λ d. (at q).1 (d.0, d.1, d.2, (leads d.0).1 d.3),
  )
    where
      narrow : is_wide r.kind ≡ false
      narrow = ap is_wide v.kind

      target : key_of m.target ≡ pin.prefix
      target = sym (target_is l sender r m carried (asks_specific r pin v) look.subset s.subset) ∙ v.target

      never : (x : Bool) → (x && false) ≡ false
      never true = refl
      never false = refl

      kind : (is_done m.progress && is_wide m.kind) ≡ false
      kind = ap (λ (x : RefType). is_done m.progress && is_wide x) carried.kind_is ∙ ap (λ (x : Bool). is_done m.progress && x) narrow ∙ never (is_done m.progress)

      lm : Look
      lm = from_base (knowledge_now p) a look.holds pin (narrowed look.subset) (key_of m.target)

      at : (q : Key) → In q (looks_into p a m) ↔ ((d : Area) × In d (knowledge_now p).areas × (d.prefix ≡ q) × IsTouched (from_base (knowledge_now p) a look.holds pin (narrowed look.subset) (key_of m.target)) d)
      at = looks_from_base p b.stands a a look.holds m pin (narrowed look.subset) (narrow_asked l sender r m carried (asks_specific r pin v) look.subset s.subset v.progress narrow)
          (target_fits l sender r m carried (asks_specific r pin v) look.subset s.subset) kind (pin_low pin (key_of m.target) v.area target)

      leads : (d : Area) → IsTouched (from_base (knowledge_now p) a look.holds pin (narrowed look.subset) (key_of m.target)) d ↔ InSpecific look pin d
      leads d = specific_leads look (from_base (knowledge_now p) a look.holds pin (narrowed look.subset) (key_of m.target)) pin d v.needs refl refl target

  pub the_agent : (r : Reference) (n : Spot) (x a : ℕ) → Among r n x → In a r.agents → a ≡ x
  the_agent r n x a v i = elim (in_first a x [] (subst (λ (xs : List ℕ). In a xs) v.agents i)) [ inl e ↦ e | inr j ↦ elim j [ ] ]

  wide_scoped : (sender : Option ℕ) (r : Reference) (m : Chained) (a : ℕ) (n : Spot) (v : Among r n a) → IsCarried sender l r m
      → (q : Key) → In q (looks_into p a m) ↔ ((d : Area) × In d k.areas × (d.prefix ≡ q) × InNonSpecific look n a d)
  wide_scoped sender r m a n v carried q = (
    λ i. (let d = (at q).0 i in (d.0, d.1, d.2, (leads d.0).0 d.3)),
    λ d. (at q).1 (d.0, d.1, d.2, (leads d.0).1 d.3),
  )
    where
      wide : is_wide r.kind ≡ true
      wide = ap is_wide v.kind

      part_too : asks_part r ≡ true
      part_too = asks_wide r n a v

      target : key_of m.target ≡ n.at
      target = sym (target_is l sender r m carried part_too look.subset s.subset) ∙ v.target

      kind : (is_done m.progress && is_wide m.kind) ≡ true
      kind = ap (λ (x : Progress). is_done x && is_wide m.kind) (carried.progress_is ∙ v.progress) ∙ ap is_wide carried.kind_is ∙ wide

      asked : subset_of m ≡ Some look.subset
      asked = wide_asked l sender r m carried part_too look.subset s.subset wide (not_base n look.subset look.base v.needs.in_scope)

      excl : rdn_keys r.exclusions ≡ rdn_keys m.exclusions
      excl = exclusions_are l sender r m carried part_too look.subset s.subset

      at : (q : Key) → In q (looks_into p a m) ↔ ((d : Area) × In d (knowledge_now p).areas × (d.prefix ≡ q) × IsTouched (from_pins (knowledge_now p) a look.holds (start_areas p b.stands a m look.subset) look.subset (key_of m.target)) d)
      at = looks_from_pins p b.stands a a look.holds m look.subset asked (target_fits l sender r m carried part_too look.subset s.subset) kind

      started : (r0 : Area) → In r0 (start_areas p b.stands a m look.subset) → IsAskedFor look n a r0
      started r0 i =
          let c = of_start p b.stands a m look.subset r0 i in
          let area : In r0 k.areas = subst (λ (x : Area). In x k.areas) (sym c.2) (filled_in p b.stands c.0 c.1) in
          let prefix : r0.prefix ≡ pin_of c.0 = ap (λ (x : Area). x.prefix) c.2 in
          let child = (child_decides (key_of m.target) (pin_of c.0)).0 c.4 in
          let up : parent r0.prefix ≡ n.at = ap parent prefix ∙ child.1 ∙ target in
          let free : IsTreated look r0.prefix → ⊥ = λ treated.
          false_true (sym c.6 ∙ excluded_by r.exclusions m.exclusions c.0.context.prefix excl ((v.excluded r0 c.0.context.prefix area up (sym prefix)).1 treated)) in
          (s.inside r0 area, b.stands.coherent.filled r0 area, ap (λ (x : Area). x.master) c.2 ∙ c.3, up, free)

      asked_start : (r0 : Area) → IsAskedFor look n a r0 → In r0 (start_areas p b.stands a m look.subset)
      asked_start r0 f =
          let area : In r0 k.areas = s.outside r0 f.0 f.1 in
          let c = mastered_of_area p b.stands r0 area in
          let made : Area = holding (λ (x : Area). keys_of (part (tree_at p) x.prefix)) (area_of c.0) in
          let child : is_child (key_of m.target) (pin_of c.0) ≡ true =
          (child_decides (key_of m.target) (pin_of c.0)).1 (subst (λ (x : Key). 0 < length x) (sym c.2) f.1, ap parent c.2 ∙ f.3 ∙ sym target) in
          let within : InSubset look.subset (key_of m.target) (pin_of c.0) =
          in_subset_below look.subset (key_of m.target) (pin_of c.0) (subst (λ (x : Key). 0 < length x) (sym c.2) f.1)
          (scope_itself look.subset look.base n.at (parent (pin_of c.0)) v.needs.in_scope (ap parent c.2 ∙ f.3) target) in
          let free : is_excluded m.exclusions c.0.context.prefix ≡ false =
          not_it (is_excluded m.exclusions c.0.context.prefix) (λ out. f.4 ((v.excluded r0 c.0.context.prefix area f.3 c.2).0 (excluded_by m.exclusions r.exclusions c.0.context.prefix (sym excl) out))) in
          let one : made ≡ r0 = one_master k made r0 b.stands.coherent (filled_in p b.stands c.0 c.1) area c.2 in
          subst (λ (x : Area). In x (start_areas p b.stands a m look.subset)) one (in_starts p b.stands a m look.subset c.0 c.1 (c.3 ∙ f.2) child within free)
        where
          scope_itself : (sub : Subset) (base x up : Key) → IsInScope sub base x → up ≡ x → key_of m.target ≡ x → IsInScope sub (key_of m.target) up
          scope_itself Base base x up i e f = i
          scope_itself OneLevel base x up i e f = e ∙ sym f
          scope_itself WholeSubtree base x up i e f = subst (λ (y : Key). IsPrefix y up) (e ∙ sym f) (prefix_itself up)

      leads : (d : Area) → IsTouched (from_pins (knowledge_now p) a look.holds (start_areas p b.stands a m look.subset) look.subset (key_of m.target)) d ↔ InNonSpecific look n a d
      leads d = nonspecific_leads look (from_pins (knowledge_now p) a look.holds (start_areas p b.stands a m look.subset) look.subset (key_of m.target)) n a d v.needs (λ r0. (started r0, asked_start r0)) refl target

  scoped : (sender : Option ℕ) (r : Reference) (m : Chained) (a : ℕ) (v : View r) → In a r.agents → IsCarried sender l r m
      → (q : Key) → In q (looks_into p a m) ↔ ((d : Area) × In d k.areas × (d.prefix ≡ q) × InScope (knowledge_at p) (tree_at p) (knowledge_now p) l.receiver (holdings_at p l.receiver) l.message (sight p l b).look (sight p l b).sees_it r v d)
  scoped sender r m a (inl v) i carried = specific_scoped sender r m a v.0 v.1 carried
  scoped sender r m a (inr v) i carried =
      let e : a ≡ v.1 = the_agent r v.0 v.1 a v.2 i in
      subst (λ (x : ℕ). (q : Key) → In q (looks_into p x m) ↔ ((d : Area) × In d k.areas × (d.prefix ≡ q) × InNonSpecific look v.0 v.1 d)) (sym e) (wide_scoped sender r m v.1 v.0 v.2 carried)

  pub covered : (sender : Option ℕ) (r : Reference) (m : Chained) (a : ℕ) (q : Key) → In r (rest_needs p l) → In a r.agents → IsCarried sender l r m
      → In q (looks_into p a m) ↔ (In q (looks_into p l.receiver l.message) × (covers (knowledge_at p) r q ≡ true))
  covered sender r m a q i ia carried =
      let v : View r = the_view r i in
      let at = scoped sender r m a v ia carried q in (
        λ j.
            let d = at.0 j in (
              (s.looks q).1 (d.0, d.1, d.2, scope_touched (knowledge_at p) (tree_at p) (knowledge_now p) l.receiver (holdings_at p l.receiver) l.message look s r v d.0 d.1 d.3),
              subst (λ (x : Key). covers (knowledge_at p) r x ≡ true) d.2 (scope_covered (knowledge_at p) (tree_at p) (knowledge_now p) l.receiver (holdings_at p l.receiver) l.message look s r v d.0 d.3),
            ),
        λ j.
            let d = (s.looks q).0 j.0 in
            at.1 (d.0, d.1, d.2, covered_scope (knowledge_at p) (tree_at p) (knowledge_now p) l.receiver (holdings_at p l.receiver) l.message look s r v d.0 d.1 d.3 (subst (λ (x : Key). covers (knowledge_at p) r x ≡ true) (sym d.2) j.1)),
      )

pub scope_is_covered : ScopeIsCovered
scope_is_covered p l sender r m a q b i ia carried = covered p l b sender r m a q i ia carried
