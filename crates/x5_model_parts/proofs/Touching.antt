-- What a list or search looks into is what the look of its base, of the root, or of the pins below an entry does.
use Rattle.std.proofs.Common.{◌≡◌, ℕ, ◌+◌, ◌<◌, ◌≤◌, ◌==◌, Bool, true, false, not, ◌&&◌, inl, inr, ◌↔◌, List, [], ◌∷◌, ◌++◌, length, map, refl, sym, ap, subst, ◌∙◌, arith, Option, Some, None, if◌then◌else◌}
use Rattle.std.specs.List.{filter, list_any}
use Rattle.std.proofs.lemmas.Bool.Decides.{Decides-eqb}
use Rattle.x5_model.specs.Words.{has, in_option}
use Rattle.x5_model.specs.Members.{In, here}
use Rattle.x5_model.specs.Keys.{Key, IsPrefix, same_key, is_prefix, is_child, parent}
use Rattle.x5_model.specs.Values.{key_of}
use Rattle.x5_model.specs.Requests.{Subset, Base, OneLevel, WholeSubtree, Body, Read, Compare, ListBelow, Search, AddEntry, RemoveEntry, ModifyEntry, ModifyDn}
use Rattle.x5_model.specs.References.{Chained}
use Rattle.x5_model.proofs.KeyLaws.{key_decides}
use Rattle.x5_model.proofs.Lists.{both_true, and_true, not_true, in_first, in_either, in_left, in_right, in_map, of_map, any_in, of_any, of_filter, in_filter, of_has, true_or_false}
use Rattle.x5_model.proofs.Prefixes.{prefix_decides, prefix_itself, prefix_chain, prefix_length, same_by_length, child_decides, parent_length, parent_is_prefix}
use Rattle.x5_model_tree.specs.World.{World}
use Rattle.x5_model_tree.specs.Tree.{Tree, keys_of, part, longest}
use Rattle.x5_model_tree.specs.Masters.{Mastered, pin_of, mastered}
use Rattle.x5_model_tree.specs.Ask.{in_subset}
use Rattle.x5_model_tree.proofs.Longest.{longest_is}
use Rattle.x5_model_run.specs.Journal.{is_done, is_wide, same_name}
use Rattle.x5_model_run.specs.Needs.{target_of, subset_of, by_pin, is_excluded}
use Rattle.x5_model_run.specs.History.{Point, knowledge_at, tree_at}
use Rattle.x5_model_run.specs.Covers.{context_of, pins_below, reached_below, touched_part, touched}
use Rattle.x5_model_theory.specs.Knowledge.{Knowledge, Area}
use Rattle.x5_model_theory.specs.Described.{area_of}
use Rattle.x5_model_theory.specs.Changing.{holding}
use Rattle.x5_model_theory.specs.Scopes.{root_of, InSubset, Look, IsTouched}
use Rattle.x5_model_theory.specs.Looking.{from_base, from_root, from_pins}
use Rattle.x5_model_theory.proofs.Longest.{longest_some}
use Rattle.x5_model_parts.specs.Standing.{knowledge_now, Stands}
use Rattle.x5_model_parts.proofs.Asking.{false_true, subset_decides}
use Rattle.x5_model_parts.proofs.Owning.{pin_of_area, area_of_pin}

pub subset_below : (s : Subset) (base q : Key) → InSubset s base q → IsPrefix base q
subset_below Base base q w = subst (λ (x : Key). IsPrefix base x) (sym w) (prefix_itself base)
subset_below OneLevel base q w = w.1
subset_below WholeSubtree base q w = w

pub only_one : {A : Type 0} (x y : A) → In y (x ∷ []) → y ≡ x
only_one x y i = elim (in_first y x [] i) [ inl e ↦ e | inr j ↦ elim j [ ] ]

-- a pin just below the base on the way to something of the subset is of the subset
child_within : (s : Subset) (base r q : Key) → (0 < length r) × (parent r ≡ base) → IsPrefix r q → InSubset s base q → InSubset s base r
child_within s base r q c on w = go s w
  where
    up : length (parent r) + 1 ≡ length r
    up = parent_length r c.0

    level : length (parent r) ≡ length base
    level = ap length c.1

    pre : IsPrefix base r
    pre = subst (λ (x : Key). IsPrefix x r) c.1 (parent_is_prefix r)

    go : (s : Subset) → InSubset s base q → InSubset s base r
    go Base w =
        let le : length r ≤ length q = prefix_length r q on in
        let e : length q ≡ length base = ap length w in
        let u : length (parent r) + 1 ≡ length r = up in
        let v : length (parent r) ≡ length base = level in
        absurd (omega arith)
    go OneLevel w = (let u : length (parent r) + 1 ≡ length r = up in let v : length (parent r) ≡ length base = level in omega arith, pre)
    go WholeSubtree w = pre

module _ (p : Point) (st : Stands p) where
  abbrev w : World
  w = knowledge_at p

  abbrev t : Tree
  t = tree_at p

  abbrev k : Knowledge
  k = knowledge_now p

  abbrev filling : Area → List Key
  filling c = keys_of (part (tree_at p) c.prefix)

  -- the context of a name
  pub record IsLow (d : Area) (base : Key) : Type 0 where
    pub area : In d k.areas
    pub on : IsPrefix d.prefix base
    pub low : (c : Area) → In c k.areas → IsPrefix c.prefix base → length c.prefix ≤ length d.prefix

  context_low : (d : Area) (base : Key) → IsLow d base → context_of t base ≡ d.prefix ∷ []
  context_low d base l =
      ap (λ (o : Option Key). in_option [] (λ (x : Key). x ∷ []) o)
      (longest_is t.pins base d.prefix (
        pin_of_area p st d l.area,
        (
          l.on,
          λ q i on.
              (let c = area_of_pin p st q i in
              subst (λ (x : Key). length x ≤ length d.prefix) c.2 (l.low c.0 c.1 (subst (λ (x : Key). IsPrefix x base) (sym c.2) on))),
        ),
      ))

  context_root : context_of t [] ≡ []
  context_root = go (longest t.pins []) refl
    where
      go : (o : Option Key) → longest t.pins [] ≡ o → in_option [] (λ (x : Key). x ∷ []) o ≡ []
      go None e = refl
      go (Some q) e =
          let l = longest_some t.pins [] q e in
          let c = area_of_pin p st q l.0 in
          let f : 0 < length c.0.prefix = st.coherent.filled c.0 c.1 in
          let le : length q ≤ 0 = prefix_length q [] l.1 in
          let same : length c.0.prefix ≡ length q = ap length c.2 in
          absurd (omega arith)

  -- what is looked into, by the form of the request
  pub touched_if : (to : ℕ) (m : Chained) (sub : Subset) → subset_of m ≡ Some sub → same_name (target_of m.request.body) m.target ≡ true → (P : List Key → Type 0)
      → (by_pin m ≡ true → sub ≡ Base → P (context_of t (key_of m.target))) → P (touched_part w t to m sub) → P (touched w t to m)
  touched_if to m sub e f P pinned usual = go m.request.body e f
    where
      with_body : Body → Chained
      with_body b = record m { request = record m.request { body = b } }

      go : (b : Body) → subset_of (record m { request = record m.request { body = b } }) ≡ Some sub → same_name (target_of b) m.target ≡ true → P (touched w t to (record m { request = record m.request { body = b } }))
      go (Read name selection) e f = cc
      go (Compare name assertion) e f = cc
      go (ListBelow name) e f = by (by_pin m) refl e
        where
          by : (c : Bool) → by_pin m ≡ c → (if c then Some Base else Some OneLevel) ≡ Some sub → P (if c then context_of t (key_of name) else touched_part w t to m OneLevel)
          by true c s =
              let is : Base ≡ sub = cc in
              subst (λ (x : Key). P (context_of t x)) (sym ((key_decides (key_of name) (key_of m.target)).0 f)) (pinned c (sym is))
          by false c s = (let is : OneLevel ≡ sub = cc in subst (λ (x : Subset). P (touched_part w t to m x)) (sym is) usual)
      go (Search base subset g selection) e f = (let is : subset ≡ sub = cc in subst (λ (x : Subset). P (touched_part w t to m x)) (sym is) usual)
      go (AddEntry name attributes) e f = cc
      go (RemoveEntry name) e f = cc
      go (ModifyEntry name changes) e f = cc
      go (ModifyDn name rdn drops) e f = cc

  abbrev pub LooksAt : Look → List Key → Type 0
  LooksAt l xs = (q : Key) → In q xs ↔ ((d : Area) × In d k.areas × (d.prefix ≡ q) × IsTouched l d)

  below_test : (base : Key) (sub : Subset) → Key → Bool
  below_test base sub q = in_subset sub base q && not (has same_key (context_of (tree_at p) base) q)

  -- from a base
  base_looks : (agent : ℕ) (holds : Key → Bool) (d0 : Area) (sub : Subset) (base : Key) → IsLow d0 base → LooksAt (from_base k agent holds d0 sub base) (context_of t base ++ pins_below t base sub)
  base_looks agent holds d0 sub base low q = (to, from)
    where
      l : Look
      l = from_base k agent holds d0 sub base

      at : context_of t base ≡ d0.prefix ∷ []
      at = context_low d0 base low

      to : In q (context_of t base ++ pins_below t base sub) → (d : Area) × In d k.areas × (d.prefix ≡ q) × IsTouched (from_base k agent holds d0 sub base) d
      to i =
          elim (in_either q (context_of t base) (pins_below t base sub) i) [
            | inl j ↦ (d0, low.area, sym (only_one d0.prefix q (subst (λ (xs : List Key). In q xs) at j)), inl here)
            | inr j ↦
                let f = of_filter (λ (x : Key). in_subset sub base x && not (has same_key (context_of (tree_at p) base) x)) q t.pins j in
                let d = area_of_pin p st q f.0 in
                let within : InSubset sub base d.0.prefix =
                subst (λ (x : Key). InSubset sub base x) (sym d.2) ((subset_decides sub base q).0 (both_true (in_subset sub base q) (not (has same_key (context_of (tree_at p) base) q)) f.1).0) in
                (d.0, d.1, d.2, inr (d0, here, prefix_chain d0.prefix base d.0.prefix low.on (subset_below sub base d.0.prefix within), within))
          ]

      inside : (d : Area) → In d k.areas → d.prefix ≡ q → InSubset sub base d.prefix → In q (context_of t base ++ pins_below t base sub)
      inside d id is within =
          elim (true_or_false (has same_key (context_of t base) q)) [
            | inl h ↦ in_left q (context_of t base) (pins_below t base sub) (of_has same_key key_decides q (context_of t base) h)
            | inr h ↦ in_right q (context_of t base) (pins_below t base sub)
                (in_filter (λ (x : Key). in_subset sub base x && not (has same_key (context_of (tree_at p) base) x)) q t.pins (subst (λ (x : Key). In x t.pins) is (pin_of_area p st d id))
                (and_true _ _ ((subset_decides sub base q).1 (subst (λ (x : Key). InSubset sub base x) is within)) (ap not h)))
          ]

      from : (d : Area) × In d k.areas × (d.prefix ≡ q) × IsTouched (from_base k agent holds d0 sub base) d → In q (context_of t base ++ pins_below t base sub)
      from v =
          elim v.3 [
            | inl i ↦
                let same : v.0 ≡ d0 = only_one d0 v.0 i in
                in_left q (context_of t base) (pins_below t base sub) (subst (λ (xs : List Key). In q xs) (sym at) (subst (λ (x : Key). In q (x ∷ [])) (sym v.2 ∙ ap (λ (y : Area). y.prefix) same) here))
            | inr r ↦ inside v.0 v.1 v.2 r.3
          ]

  -- a pin's own RDN
  pin_looks : (agent : ℕ) (holds : Key → Bool) (d0 : Area) (base : Key) → IsLow d0 base → LooksAt (from_base k agent holds d0 Base base) (context_of t base)
  pin_looks agent holds d0 base low q = (
    λ i. (d0, low.area, sym (only_one d0.prefix q (subst (λ (xs : List Key). In q xs) (context_low d0 base low) i)), inl here),
    λ v.
        let same : v.0.prefix ≡ d0.prefix = elim v.3 [
          | inl i ↦ ap (λ (y : Area). y.prefix) (only_one d0 v.0 i)
          | inr r ↦
              let is : v.0.prefix ≡ base = r.3 in
              let on : IsPrefix v.0.prefix base = subst (λ (x : Key). IsPrefix v.0.prefix x) is (prefix_itself v.0.prefix) in
              let le : length v.0.prefix ≤ length d0.prefix = low.low v.0 v.1 on in
              let ge : length d0.prefix ≤ length base = prefix_length d0.prefix base low.on in
              let e : length v.0.prefix ≡ length base = ap length is in
              same_by_length v.0.prefix d0.prefix base on low.on (omega arith)
        ] in
        subst (λ (xs : List Key). In q xs) (sym (context_low d0 base low)) (subst (λ (x : Key). In q (x ∷ [])) (sym v.2 ∙ same) here),
  )

  pub looks_from_base : (to agent : ℕ) (holds : Key → Bool) (m : Chained) (d0 : Area) (sub : Subset) → subset_of m ≡ Some sub → same_name (target_of m.request.body) m.target ≡ true
      → (is_done m.progress && is_wide m.kind) ≡ false → IsLow d0 (key_of m.target) → LooksAt (from_base k agent holds d0 sub (key_of m.target)) (touched w t to m)
  looks_from_base to agent holds m d0 sub e f narrow low =
      touched_if to m sub e f (LooksAt (from_base k agent holds d0 sub (key_of m.target)))
      (λ c is. subst (λ (x : Subset). LooksAt (from_base k agent holds d0 x (key_of m.target)) (context_of t (key_of m.target))) (sym is) (pin_looks agent holds d0 (key_of m.target) low))
      (subst (λ (b : Bool). LooksAt (from_base k agent holds d0 sub (key_of m.target)) (if b then reached_below w t to m sub else (context_of t (key_of m.target) ++ pins_below t (key_of m.target) sub))) (sym narrow)
      (base_looks agent holds d0 sub (key_of m.target) low))

  -- from the root
  root_looks : (agent : ℕ) (holds : Key → Bool) (sub : Subset) → LooksAt (from_root k agent holds sub) (context_of t [] ++ pins_below t [] sub)
  root_looks agent holds sub q = (to, from)
    where
      to : In q (context_of t [] ++ pins_below t [] sub) → (d : Area) × In d k.areas × (d.prefix ≡ q) × IsTouched (from_root k agent holds sub) d
      to i =
          elim (in_either q (context_of t []) (pins_below t [] sub) i) [
            | inl j ↦ elim (subst (λ (xs : List Key). In q xs) context_root j) [ ]
            | inr j ↦
                let f = of_filter (λ (x : Key). in_subset sub [] x && not (has same_key (context_of (tree_at p) []) x)) q t.pins j in
                let d = area_of_pin p st q f.0 in
                let within : InSubset sub [] d.0.prefix =
                subst (λ (x : Key). InSubset sub [] x) (sym d.2) ((subset_decides sub [] q).0 (both_true (in_subset sub [] q) (not (has same_key (context_of (tree_at p) []) q)) f.1).0) in
                (d.0, d.1, d.2, inr (root_of agent, here, refl, within))
          ]

      from : (d : Area) × In d k.areas × (d.prefix ≡ q) × IsTouched (from_root k agent holds sub) d → In q (context_of t [] ++ pins_below t [] sub)
      from v =
          elim v.3 [
            | inl i ↦
                let z : length v.0.prefix ≡ 0 = ap (λ (y : Area). length y.prefix) (only_one (root_of agent) v.0 i) in
                let f : 0 < length v.0.prefix = st.coherent.filled v.0 v.1 in
                absurd (omega arith)
            | inr r ↦
                let none : has same_key (context_of t []) q ≡ false = ap (λ (xs : List Key). has same_key xs q) context_root in
                in_right q (context_of t []) (pins_below t [] sub)
                (in_filter (λ (x : Key). in_subset sub [] x && not (has same_key (context_of (tree_at p) []) x)) q t.pins (subst (λ (x : Key). In x t.pins) v.2 (pin_of_area p st v.0 v.1))
                (and_true _ _ ((subset_decides sub [] q).1 (subst (λ (x : Key). InSubset sub [] x) v.2 r.3)) (ap not none)))
          ]

  pub looks_from_root : (to agent : ℕ) (holds : Key → Bool) (m : Chained) (sub : Subset) → subset_of m ≡ Some sub → same_name (target_of m.request.body) m.target ≡ true
      → is_done m.progress ≡ false → key_of m.target ≡ [] → LooksAt (from_root k agent holds sub) (touched w t to m)
  looks_from_root to agent holds m sub e f resolving root =
      touched_if to m sub e f (LooksAt (from_root k agent holds sub))
      (λ c is. absurd (false_true (sym resolving ∙ (both_true (is_done m.progress) (not (is_wide m.kind)) c).0)))
      (subst (λ (b : Bool). LooksAt (from_root k agent holds sub) (if b && is_wide m.kind then reached_below w t to m sub else (context_of t (key_of m.target) ++ pins_below t (key_of m.target) sub))) (sym resolving)
      (subst (λ (x : Key). LooksAt (from_root k agent holds sub) (context_of t x ++ pins_below t x sub)) (sym root) (root_looks agent holds sub)))

  -- from the pins below an entry
  abbrev pub starts_here : ℕ → Chained → Subset → Mastered → Bool
  starts_here to m sub c =
      (c.master == to) && (is_child (key_of m.target) (pin_of c) && (in_subset sub (key_of m.target) (pin_of c) && not (is_excluded m.exclusions c.context.prefix)))

  abbrev pub start_areas : ℕ → Chained → Subset → List Area
  start_areas to m sub = map (λ (c : Mastered). holding filling (area_of c)) (filter (starts_here to m sub) (mastered w))

  pub of_start : (to : ℕ) (m : Chained) (sub : Subset) (d : Area) → In d (start_areas to m sub)
      → (c : Mastered) × In c (mastered w) × (d ≡ holding filling (area_of c)) × (c.master ≡ to) × (is_child (key_of m.target) (pin_of c) ≡ true) × InSubset sub (key_of m.target) (pin_of c) × (is_excluded m.exclusions c.context.prefix ≡ false)
  of_start to m sub d i =
      let c = of_map (λ (c : Mastered). holding filling (area_of c)) d (filter (starts_here to m sub) (mastered w)) i in
      let f = of_filter (starts_here to m sub) c.0 (mastered w) c.1 in
      let a = both_true (c.0.master == to) _ f.1 in
      let b = both_true (is_child (key_of m.target) (pin_of c.0)) _ a.1 in
      let e = both_true (in_subset sub (key_of m.target) (pin_of c.0)) _ b.1 in
      (c.0, f.0, c.2, (Decides-eqb c.0.master to).0 a.0, b.0, (subset_decides sub (key_of m.target) (pin_of c.0)).0 e.0, not_true (is_excluded m.exclusions c.0.context.prefix) e.1)

  pub in_starts : (to : ℕ) (m : Chained) (sub : Subset) (c : Mastered) → In c (mastered w) → c.master ≡ to → is_child (key_of m.target) (pin_of c) ≡ true → InSubset sub (key_of m.target) (pin_of c)
      → is_excluded m.exclusions c.context.prefix ≡ false → In (holding filling (area_of c)) (start_areas to m sub)
  in_starts to m sub c i a b e f =
      in_map (λ (c : Mastered). holding filling (area_of c)) c (filter (starts_here to m sub) (mastered w))
      (in_filter (starts_here to m sub) c (mastered w) i
      (and_true _ _ ((Decides-eqb c.master to).1 a) (and_true _ _ b (and_true _ _ ((subset_decides sub (key_of m.target) (pin_of c)).1 e) (ap not f)))))

  abbrev is_root_of : ℕ → Chained → Mastered → Bool
  is_root_of to m c = (c.master == to) && (is_child (key_of m.target) (pin_of c) && not (is_excluded m.exclusions c.context.prefix))

  abbrev reaches : ℕ → Chained → Subset → Key → Bool
  reaches to m sub x = in_subset sub (key_of m.target) x && list_any (λ (root : Key). is_prefix root x) (map pin_of (filter (is_root_of to m) (mastered w)))

  pins_look : (to agent : ℕ) (holds : Key → Bool) (m : Chained) (sub : Subset) → LooksAt (from_pins k agent holds (start_areas to m sub) sub (key_of m.target)) (reached_below w t to m sub)
  pins_look to agent holds m sub q = (into, from)
    where
      into : In q (reached_below w t to m sub) → (d : Area) × In d k.areas × (d.prefix ≡ q) × IsTouched (from_pins k agent holds (start_areas to m sub) sub (key_of m.target)) d
      into i =
          let f = of_filter (reaches to m sub) q t.pins i in
          let b = both_true (in_subset sub (key_of m.target) q) _ f.1 in
          let r = of_any (λ (root : Key). is_prefix root q) (map pin_of (filter (is_root_of to m) (mastered w))) b.1 in
          let c = of_map pin_of r.0 (filter (is_root_of to m) (mastered w)) r.1 in
          let g = of_filter (is_root_of to m) c.0 (mastered w) c.1 in
          let u = both_true (c.0.master == to) _ g.1 in
          let v = both_true (is_child (key_of m.target) (pin_of c.0)) _ u.1 in
          let d = area_of_pin p st q f.0 in
          let within : InSubset sub (key_of m.target) q = (subset_decides sub (key_of m.target) q).0 b.0 in
          let on : IsPrefix (pin_of c.0) q = subst (λ (x : Key). IsPrefix x q) c.2 ((prefix_decides r.0 q).0 r.2) in
          let first : InSubset sub (key_of m.target) (pin_of c.0) = child_within sub (key_of m.target) (pin_of c.0) q ((child_decides (key_of m.target) (pin_of c.0)).0 v.0) on within in
          let start : In (holding filling (area_of c.0)) (start_areas to m sub) = in_starts to m sub c.0 g.0 ((Decides-eqb c.0.master to).0 u.0) v.0 first (not_true (is_excluded m.exclusions c.0.context.prefix) v.1) in
          (d.0, d.1, d.2, inr (holding filling (area_of c.0), start, subst (λ (x : Key). IsPrefix (pin_of c.0) x) (sym d.2) on, subst (λ (x : Key). InSubset sub (key_of m.target) x) (sym d.2) within))

      reached : (d : Area) (r : Area) → In d k.areas → d.prefix ≡ q → In r (start_areas to m sub) → IsPrefix r.prefix d.prefix → InSubset sub (key_of m.target) d.prefix → In q (reached_below w t to m sub)
      reached d r id is ir on within =
          let c = of_start to m sub r ir in
          let root : In (pin_of c.0) (map pin_of (filter (is_root_of to m) (mastered w))) =
          in_map pin_of c.0 (filter (is_root_of to m) (mastered w)) (in_filter (is_root_of to m) c.0 (mastered w) c.1 (and_true _ _ ((Decides-eqb c.0.master to).1 c.3) (and_true _ _ c.4 (ap not c.6)))) in
          let pre : IsPrefix (pin_of c.0) q = subst (λ (x : Key). IsPrefix (pin_of c.0) x) is (subst (λ (x : Area). IsPrefix x.prefix d.prefix) c.2 on) in
          in_filter (reaches to m sub) q t.pins (subst (λ (x : Key). In x t.pins) is (pin_of_area p st d id))
          (and_true _ _ ((subset_decides sub (key_of m.target) q).1 (subst (λ (x : Key). InSubset sub (key_of m.target) x) is within))
          (any_in (λ (root : Key). is_prefix root q) (pin_of c.0) (map pin_of (filter (is_root_of to m) (mastered w))) root ((prefix_decides (pin_of c.0) q).1 pre)))

      from : (d : Area) × In d k.areas × (d.prefix ≡ q) × IsTouched (from_pins k agent holds (start_areas to m sub) sub (key_of m.target)) d → In q (reached_below w t to m sub)
      from v =
          elim v.3 [
            | inl i ↦
                let c = of_start to m sub v.0 i in
                reached v.0 v.0 v.1 v.2 i (prefix_itself v.0.prefix) (subst (λ (x : Area). InSubset sub (key_of m.target) x.prefix) (sym c.2) c.5)
            | inr r ↦ reached v.0 r.0 v.1 v.2 r.1 r.2 r.3
          ]

  pub looks_from_pins : (to agent : ℕ) (holds : Key → Bool) (m : Chained) (sub : Subset) → subset_of m ≡ Some sub → same_name (target_of m.request.body) m.target ≡ true
      → (is_done m.progress && is_wide m.kind) ≡ true → LooksAt (from_pins k agent holds (start_areas to m sub) sub (key_of m.target)) (touched w t to m)
  looks_from_pins to agent holds m sub e f wide =
      touched_if to m sub e f (LooksAt (from_pins k agent holds (start_areas to m sub) sub (key_of m.target)))
      (λ c is.
      (let a : is_wide m.kind ≡ true = (both_true (is_done m.progress) (is_wide m.kind) wide).1 in
      let b : is_wide m.kind ≡ false = not_true (is_wide m.kind) (both_true (is_done m.progress) (not (is_wide m.kind)) c).1 in
      absurd (false_true (sym b ∙ a))))
      (subst (λ (b : Bool). LooksAt (from_pins k agent holds (start_areas to m sub) sub (key_of m.target)) (if b then reached_below w t to m sub else (context_of t (key_of m.target) ++ pins_below t (key_of m.target) sub))) (sym wide)
      (pins_look to agent holds m sub))
