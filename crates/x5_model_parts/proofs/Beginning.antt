-- Where an agent begins a list or search, it sees the knowledge of that line: from the base's context, from the root, or
-- from the pins below an entry.
use Rattle.std.proofs.Common.{◌≡◌, ℕ, ◌+◌, ◌<◌, ◌≤◌, ◌==◌, Bool, true, false, not, ◌&&◌, ◌||◌, inl, inr, List, [], ◌∷◌, length, map, refl, sym, ap, subst, ◌∙◌, arith, Option, Some, None, if◌then◌else◌}
use Rattle.std.specs.List.{filter}
use Rattle.std.specs.Option.{is_some, is_none}
use Rattle.std.proofs.lemmas.Bool.Decides.{Decides-eqb}
use Rattle.x5_model.specs.Words.{is_empty, in_option}
use Rattle.x5_model.specs.Members.{In, Once, here, there}
use Rattle.x5_model.specs.Keys.{Key, KeyRdn, IsPrefix, same_key, parent, is_child, is_root}
use Rattle.x5_model.specs.Values.{Name, key_of, last_rdn}
use Rattle.x5_model.specs.Requests.{Subset}
use Rattle.x5_model.specs.References.{Progress, Start, Next, Done, Chained}
use Rattle.x5_model.proofs.KeyLaws.{key_decides}
use Rattle.x5_model.proofs.Lists.{both_true, and_true, either_true, not_true, in_first, in_map, in_flat, of_filter, in_filter, true_or_false}
use Rattle.x5_model.proofs.Prefixes.{child_decides, parent_length}
use Rattle.x5_model_tree.specs.World.{Specific, Agent, World}
use Rattle.x5_model_tree.specs.Tree.{Tree, keys_of, is_there, part}
use Rattle.x5_model_tree.specs.Masters.{Mastered, pin_of, numbered, mastered}
use Rattle.x5_model_tree.specs.Ask.{in_subset}
use Rattle.x5_model_run.specs.Journal.{is_done, is_wide, same_name}
use Rattle.x5_model_run.specs.Holdings.{Held, Holdings, served, known_pin, is_first_level}
use Rattle.x5_model_run.specs.Needs.{target_of, resolves, subset_of, is_excluded, begins_at, answers_root}
use Rattle.x5_model_run.specs.History.{Point, knowledge_at, tree_at, agent_holdings}
use Rattle.x5_model_theory.specs.Knowledge.{Knowledge, Area, Spot}
use Rattle.x5_model_theory.specs.Described.{area_of}
use Rattle.x5_model_theory.specs.Changing.{holding}
use Rattle.x5_model_theory.specs.Scopes.{root_of, InSubset, Look, IsEvaluated, start, further, IsTold, MayLook}
use Rattle.x5_model_theory.specs.Looking.{from_base, from_root, from_pins, HoldsItsOwn}
use Rattle.x5_model_theory.proofs.Places.{at_agent}
use Rattle.x5_model_theory.proofs.Cohering.{one_master}
use Rattle.x5_model_theory.proofs.Scoping.{is_context}
use Rattle.x5_model_theory.proofs.Stages.{key_length, same_progress_is}
use Rattle.x5_model_theory.proofs.Views.{there_decides, superior_at}
use Rattle.x5_model_theory.proofs.LooksFrom.{laid, root_parent, root_may_look, pins_may_look}
use Rattle.x5_model_theory.proofs.Rows.{resolved}
use Rattle.x5_model_parts.specs.Standing.{knowledge_now, Stands}
use Rattle.x5_model_parts.specs.Parts.{begins_here}
use Rattle.x5_model_parts.proofs.Asking.{false_true, subset_decides, last_by_key, rdn_keys, listed_decides}
use Rattle.x5_model_parts.proofs.Seeing.{is_held, Like, Sees}
use Rattle.x5_model_parts.proofs.Spots.{of_held, held_in}
use Rattle.x5_model_parts.proofs.Covering.{not_it}
use Rattle.x5_model_parts.proofs.Lone.{once_filter}
use Rattle.x5_model_parts.proofs.Owning.{area_of_mastered, mastered_of_area, pin_short, pointer_right, referred, of_referred, own_kept, own_once, own_area_is, own_like_of, own_in, root_once, of_root, in_root}
use Rattle.x5_model_parts.proofs.Copying.{Serving}
use Rattle.x5_model_parts.proofs.Touching.{only_one, IsLow, looks_from_base, looks_from_root, start_areas, of_start, in_starts, looks_from_pins}

module _ (p : Point) (st : Stands p) (o : ℕ) (a : Agent) (ia : In (o, a) (numbered (knowledge_at p))) (m : Chained) (facts : Serving p o a m) where
  abbrev w : World
  w = knowledge_at p

  abbrev t : Tree
  t = tree_at p

  abbrev k : Knowledge
  k = knowledge_now p

  abbrev h : Holdings
  h = agent_holdings p o a

  abbrev all : List Held
  all = served m.request (agent_holdings p o a)

  abbrev held : Key → Bool
  held q = is_held (served m.request (agent_holdings p o a)) q

  abbrev filling : Area → List Key
  filling c = keys_of (part (tree_at p) c.prefix)

  in_all : (c : Held) → In c h.own → In c all
  in_all c i = own_in p st o a ia m.request c i

  like : (c : Held) → In c all → (d : Area) × Like k all d c
  like c i = facts.like c i

  all_once : Once (map (λ (c : Held). key_of c.prefix) all)
  all_once = facts.once

  holds_own : HoldsItsOwn k o held
  holds_own q i e = (let x = own_kept p st o a ia q i e in ap (is_held all) (sym x.2) ∙ held_in all x.0 (in_all x.0 x.1))

  not_filled : (d : Area) → In d k.areas → length d.prefix ≡ 0 → ⊥
  not_filled d i z = (let f : 0 < length d.prefix = st.coherent.filled d i in omega arith)

  same_area : (c : Held) (d : Area) → In d k.areas → (v : (e : Area) × Like k all e c) → d.prefix ≡ key_of c.prefix → v.0 ≡ d
  same_area c d i v e = one_master k v.0 d st.coherent v.1.area i (v.1.prefix ∙ sym e)

  low_of : (c : Held) (base : Key) → (i : In c all) → In base (keys_of c.entries) → IsLow p st (like c i).0 base
  low_of c base i j =
      let v = like c i in
      let g = facts.low c base i j in
      record {
        area = v.1.area;
        on = subst (λ (x : Key). IsPrefix x base) (sym v.1.prefix) g.0;
        low = λ d id on. subst (λ (x : Key). length d.prefix ≤ length x) (sym v.1.prefix) (g.1 d id on);
      }

  -- ---- from a base

  base_sees : (sub : Subset) → subset_of m ≡ Some sub → same_name (target_of m.request.body) m.target ≡ true → (is_done m.progress && is_wide m.kind) ≡ false → answers_root h m ≡ false
      → (c0 : Held) (i0 : In c0 all) → In c0 (begins_at h m sub) → In (key_of m.target) (keys_of c0.entries) → ((c : Held) → In c (begins_at h m sub) → In c all × (key_of c.prefix ≡ key_of c0.prefix))
      → Once (map (λ (c : Held). key_of c.prefix) (begins_at h m sub)) → (is_done m.progress ≡ true → key_of c0.prefix ≡ key_of m.target)
      → Sees w t k o h m (from_base k o held (like c0 i0).0 sub (key_of m.target))
  base_sees sub asked fit narrow no_root c0 i0 first there_base level once at_pin = record {
    good = st.coherent;
    area_of_mastered = area_of_mastered p st;
    mastered_of_area = mastered_of_area p st;
    may = may;
    inside = λ q i. i;
    outside = λ q i f. i;
    references = refl;
    agent = refl;
    holds = λ q. refl;
    subset = asked;
    base = refl;
    short = pin_short p st;
    like = like;
    all_once = all_once;
    begins_once = once;
    first = λ c i. (let x = level c i in (x.0, (d0, start here, at_start c x.0 x.1)));
    begins_low = λ c i. inl (d0, here, (like c0 i0).1.prefix ∙ sym (level c i).1);
    starts = λ d i f. (c0, first, ap (λ (x : Area). x.prefix) (only_one d0 d i) ∙ (like c0 i0).1.prefix);
    from_root = λ d q i z. absurd (not_filled d (subst (λ (x : Area). In x k.areas) (sym (only_one d0 d i)) low.area) z);
    root_told = λ e. absurd (false_true (sym no_root ∙ e));
    root_tells = λ d e z. absurd (not_filled d (is_context (from_base k o held d0 sub (key_of m.target)) may d e) z);
    root_once = root_once p st o a ia;
    looks = looks_from_base p st o o held m d0 sub asked fit narrow low;
    pin_start = λ done n d i. ap (λ (x : Area). x.prefix) (only_one d0 d i) ∙ (like c0 i0).1.prefix ∙ at_pin done;
    wide_start = λ done wide. absurd (false_true (sym narrow ∙ and_true (is_done m.progress) (is_wide m.kind) done wide));
  }
    where
      d0 : Area
      d0 = (like c0 i0).0

      low : IsLow p st (like c0 i0).0 (key_of m.target)
      low = low_of c0 (key_of m.target) i0 there_base

      may : MayLook (from_base k o held (like c0 i0).0 sub (key_of m.target))
      may = record {
        laid = laid k st.coherent;
        contexts = λ r i. subst (λ (x : Area). In x k.areas) (sym (only_one (like c0 i0).0 r i)) low.area;
        apart = λ r s i j on. only_one (like c0 i0).0 r i ∙ sym (only_one (like c0 i0).0 s j);
        base_low = λ r d i id on. subst (λ (x : Area). length d.prefix ≤ length x.prefix) (sym (only_one (like c0 i0).0 r i)) (low.low d id on);
        own = λ q i f e. holds_own q i e;
      }

      at_start : (c : Held) → In c all → key_of c.prefix ≡ key_of c0.prefix → Like k all (like c0 i0).0 c
      at_start c i e =
          let v = like c i in
          subst (λ (x : Area). Like k all x c) (same_area c (like c0 i0).0 low.area v ((like c0 i0).1.prefix ∙ sym e)) v.1

  -- ---- from the root

  is_one : (r : Specific) → (length r.pin == 1) ≡ true → length (key_of r.pin) ≡ 1
  is_one r e = key_length r.pin ∙ (Decides-eqb (length r.pin) 1).0 e

  root_list : Subset → List Held
  root_list sub = filter (λ (c : Held). (length c.prefix == 1) && in_subset sub (key_of m.target) (key_of c.prefix)) (served m.request (agent_holdings p o a))

  resolving : resolves h m ≡ true → is_done m.progress ≡ false
  resolving e = resolved h m (λ x. is_done x ≡ false) e refl (λ j d. refl)

  no_root_when_done : is_done m.progress ≡ true → answers_root h m ≡ false
  no_root_when_done done = go (answers_root h m) refl
    where
      go : (b : Bool) → answers_root h m ≡ b → b ≡ false
      go false e = refl
      go true e =
          let x = both_true (is_some (subset_of m)) _ e in
          let y = both_true (is_first_level h) _ x.1 in
          let z = both_true (is_root (key_of m.target)) _ y.1 in
          let r = both_true (resolves h m) _ z.1 in
          absurd (false_true (sym (resolving r.0) ∙ done))

  abbrev found : Subset → Option Key → List Held
  found sub None =
      if is_first_level h && is_root (key_of m.target)
      then filter (λ (c : Held). (length c.prefix == 1) && in_subset sub (key_of m.target) (key_of c.prefix)) (served m.request (agent_holdings p o a))
      else []
  found sub (Some q) = filter (λ (c : Held). same_key (key_of c.prefix) q && is_there c.entries (key_of m.target)) (served m.request (agent_holdings p o a))

  begins_resolved : (sub : Subset) (x : Option Key) → resolves h m ≡ true → known_pin m.request h (key_of m.target) ≡ x → begins_at h m sub ≡ found sub x
  begins_resolved sub x e known =
      resolved h m (λ (y : Progress). begins_at h (record m { progress = y }) sub ≡ found sub x) e
      (ap (found sub) known)
      (λ j d. ap (λ (b : Bool). if b then found sub (known_pin m.request h (key_of m.target)) else []) d ∙ ap (found sub) known)

  root_sees : (sub : Subset) → subset_of m ≡ Some sub → same_name (target_of m.request.body) m.target ≡ true → answers_root h m ≡ true → Sees w t k o h m (from_root k o held sub)
  root_sees sub asked fit answers = record {
    good = st.coherent;
    area_of_mastered = area_of_mastered p st;
    mastered_of_area = mastered_of_area p st;
    may = may;
    inside = λ q i. there i;
    outside = λ q i f. outside q i f;
    references = refl;
    agent = refl;
    holds = λ q. refl;
    subset = asked;
    base = sym root;
    short = pin_short p st;
    like = like;
    all_once = all_once;
    begins_once = subst (λ (xs : List Held). Once (map (λ (c : Held). key_of c.prefix) xs)) (sym begins)
        (once_filter (λ (c : Held). key_of c.prefix) (λ (c : Held). (length c.prefix == 1) && in_subset sub (key_of m.target) (key_of c.prefix)) all all_once);
    first = λ c i. first c (listed c i);
    begins_low = λ c i. inr (key_length c.prefix ∙ (Decides-eqb (length c.prefix) 1).0 (both_true (length c.prefix == 1) _ (listed c i).1).0);
    starts = λ d i f. absurd (no_length d i f);
    from_root = λ d q i z iq up within held. from_top q iq (subst (λ (x : Area). In (parent q.prefix) x.entries) (only_one (root_of o) d i) up) within held;
    root_told = λ e r i.
        (let x = of_root p st o a ia r i in
        let q = pointer_right p st o a ia r x.0 in
        let one : length q.0.prefix ≡ 1 = ap length q.3 ∙ is_one r x.1 in
        (q.0, q.1, q.3, q.2, (root_of o, start here, refl, top_entry q.0.prefix one, inl (referred p st o a ia r q.0.prefix x.0 q.3))));
    root_tells = λ d e z. (answers, λ n i. no_spot d (top d e z) n i, λ q iq up told free. tells d (top d e z) q iq up told free);
    root_once = root_once p st o a ia;
    looks = looks_from_root p st o o held m sub asked fit (resolving res) root;
    pin_start = λ done. absurd (false_true (sym (resolving res) ∙ done));
    wide_start = λ done. absurd (false_true (sym (resolving res) ∙ done));
  }
    where
      split1 : (is_some (subset_of m) ≡ true) × ((is_first_level (agent_holdings p o a) && (is_root (key_of m.target) && (resolves (agent_holdings p o a) m && is_none (known_pin m.request (agent_holdings p o a) (key_of m.target))))) ≡ true)
      split1 = both_true (is_some (subset_of m)) _ answers

      split2 : (is_first_level (agent_holdings p o a) ≡ true) × ((is_root (key_of m.target) && (resolves (agent_holdings p o a) m && is_none (known_pin m.request (agent_holdings p o a) (key_of m.target)))) ≡ true)
      split2 = both_true (is_first_level (agent_holdings p o a)) _ split1.1

      split3 : (is_root (key_of m.target) ≡ true) × ((resolves (agent_holdings p o a) m && is_none (known_pin m.request (agent_holdings p o a) (key_of m.target))) ≡ true)
      split3 = both_true (is_root (key_of m.target)) _ split2.1

      split4 : (resolves (agent_holdings p o a) m ≡ true) × (is_none (known_pin m.request (agent_holdings p o a) (key_of m.target)) ≡ true)
      split4 = both_true (resolves (agent_holdings p o a) m) _ split3.1

      res : resolves (agent_holdings p o a) m ≡ true
      res = split4.0

      none_of : {A : Type 0} (x : Option A) → is_none x ≡ true → x ≡ None
      none_of None e = refl
      none_of (Some y) e = absurd (false_true e)

      empty : (x : Key) → is_root x ≡ true → x ≡ []
      empty [] e = refl
      empty (y ∷ x) e = (let z : length (y ∷ x) ≡ 0 = (Decides-eqb (length (y ∷ x)) 0).0 e in absurd (omega arith))

      root : key_of m.target ≡ []
      root = empty (key_of m.target) split3.0

      begins : begins_at (agent_holdings p o a) m sub ≡ filter (λ (c : Held). (length c.prefix == 1) && in_subset sub (key_of m.target) (key_of c.prefix)) (served m.request (agent_holdings p o a))
      begins =
          begins_resolved sub None res (none_of (known_pin m.request (agent_holdings p o a) (key_of m.target)) split4.1)
          ∙ ap (λ (b : Bool). if b then filter (λ (c : Held). (length c.prefix == 1) && in_subset sub (key_of m.target) (key_of c.prefix)) (served m.request (agent_holdings p o a)) else []) (and_true (is_first_level (agent_holdings p o a)) (is_root (key_of m.target)) split2.0 split3.0)

      listed : (c : Held) → In c (begins_at (agent_holdings p o a) m sub) → In c (served m.request (agent_holdings p o a)) × (((length c.prefix == 1) && in_subset sub (key_of m.target) (key_of c.prefix)) ≡ true)
      listed c i = of_filter (λ (c : Held). (length c.prefix == 1) && in_subset sub (key_of m.target) (key_of c.prefix)) c (served m.request (agent_holdings p o a)) (subst (λ (xs : List Held). In c xs) begins i)

      no_superior : a.superior ≡ None
      no_superior = none_of a.superior split2.0

      may : MayLook (from_root k o held sub)
      may = root_may_look k o held sub st.coherent holds_own (in_map (λ (x : ℕ × Agent). x.0) (o, a) (numbered w) ia) (superior_at w o a ia ∙ no_superior)

      outside : (q : Area) → In q (root_of o ∷ k.areas) → 0 < length q.prefix → In q k.areas
      outside q i f = elim (in_first q (root_of o) k.areas i) [ inl e ↦ (let z : length q.prefix ≡ 0 = ap (λ (x : Area). length x.prefix) e in absurd (omega arith)) | inr j ↦ j ]

      no_length : (d : Area) → In d (root_of o ∷ []) → 0 < length d.prefix → ⊥
      no_length d i f = (let z : length d.prefix ≡ 0 = ap (λ (x : Area). length x.prefix) (only_one (root_of o) d i) in omega arith)

      top_entry : (q : Key) → length q ≡ 1 → In (parent q) ([] ∷ [])
      top_entry q one = subst (λ (x : Key). In x ([] ∷ [])) (sym (root_parent q one)) here

      one_long : (q : Area) → In q k.areas → In (parent q.prefix) ([] ∷ []) → length q.prefix ≡ 1
      one_long q iq i =
          let z : length (parent q.prefix) ≡ 0 = ap length (only_one [] (parent q.prefix) i) in
          let up : length (parent q.prefix) + 1 ≡ length q.prefix = parent_length q.prefix (st.coherent.filled q iq) in
          omega arith

      first : (c : Held) → In c (served m.request (agent_holdings p o a)) × (((length c.prefix == 1) && in_subset sub (key_of m.target) (key_of c.prefix)) ≡ true)
          → In c (served m.request (agent_holdings p o a)) × ((d : Area) × IsEvaluated (from_root k o held sub) d × Like k (served m.request (agent_holdings p o a)) d c)
      first c f =
          let v = like c f.0 in
          let b = both_true (length c.prefix == 1) (in_subset sub (key_of m.target) (key_of c.prefix)) f.1 in
          let one : length v.0.prefix ≡ 1 = ap length v.1.prefix ∙ key_length c.prefix ∙ (Decides-eqb (length c.prefix) 1).0 b.0 in
          let within : InSubset sub [] v.0.prefix = subst (λ (x : Key). InSubset sub [] x) (sym v.1.prefix) (subst (λ (x : Key). InSubset sub x (key_of c.prefix)) root ((subset_decides sub (key_of m.target) (key_of c.prefix)).0 b.1)) in
          (f.0, (v.0, further (root_of o) (start here) (there v.1.area) (st.coherent.filled v.0 v.1.area) (top_entry v.0.prefix one) within (ap (is_held (served m.request (agent_holdings p o a))) v.1.prefix ∙ held_in (served m.request (agent_holdings p o a)) c f.0), v.1))

      from_top : (q : Area) → In q k.areas → In (parent q.prefix) ([] ∷ []) → InSubset sub [] q.prefix → is_held (served m.request (agent_holdings p o a)) q.prefix ≡ true
          → (c : Held) × In c (begins_at (agent_holdings p o a) m sub) × (q.prefix ≡ key_of c.prefix)
      from_top q iq up within yes_held =
          let c = of_held (served m.request (agent_holdings p o a)) q.prefix yes_held in
          let one : length c.0.prefix ≡ 1 = sym (key_length c.0.prefix) ∙ ap length c.2 ∙ one_long q iq up in
          let sub_ok : in_subset sub (key_of m.target) (key_of c.0.prefix) ≡ true =
          (subset_decides sub (key_of m.target) (key_of c.0.prefix)).1 (subst (λ (x : Key). InSubset sub x (key_of c.0.prefix)) (sym root) (subst (λ (x : Key). InSubset sub [] x) (sym c.2) within)) in
          (c.0, subst (λ (xs : List Held). In c.0 xs) (sym begins) (in_filter (λ (c : Held). (length c.prefix == 1) && in_subset sub (key_of m.target) (key_of c.prefix)) c.0 (served m.request (agent_holdings p o a)) c.1 (and_true _ _ ((Decides-eqb (length c.0.prefix) 1).1 one) sub_ok)), sym c.2)

      top : (d : Area) → IsEvaluated (from_root k o held sub) d → length d.prefix ≡ 0 → d ≡ root_of o
      top d e z = elim (in_first d (root_of o) k.areas (is_context (from_root k o held sub) may d e)) [ inl same ↦ same | inr j ↦ absurd (not_filled d j z) ]

      no_spot : (d : Area) → d ≡ root_of o → (n : Spot) → In n d.nssrs → ⊥
      no_spot d e n i = elim (subst (λ (x : Area). In n x.nssrs) e i) [ ]

      tells : (d : Area) → d ≡ root_of o → (q : Area) → In q k.areas → In (parent q.prefix) d.entries → IsTold (from_root k o held sub) d q.prefix → is_held (served m.request (agent_holdings p o a)) q.prefix ≡ false
          → (r : Specific) × In r (agent_holdings p o a).root × (key_of r.pin ≡ q.prefix)
      tells d e q iq up told free =
          elim (subst (λ (x : Area). IsTold (from_root k o held sub) x q.prefix) e told) [
            | inl y ↦
                let r = of_referred p st o a ia q.prefix y in
                let one : length r.0.pin ≡ 1 = sym (key_length r.0.pin) ∙ ap length r.2 ∙ one_long q iq (subst (λ (x : Area). In (parent q.prefix) x.entries) e up) in
                (r.0, in_root p st o a ia r.0 split2.0 r.1 ((Decides-eqb (length r.0.pin) 1).1 one), r.2)
            | inr y ↦
                let c : Area = y.0 in
                let f : 0 < length c.prefix = subst (λ (x : Key). 0 < length x) (sym y.3) (st.coherent.filled q iq) in
                absurd (false_true (sym free ∙ ap (is_held (served m.request (agent_holdings p o a))) (sym y.3) ∙ holds_own c (outside c y.1 f) y.2))
          ]

  -- ---- from the pins below an entry

  excluded_same : (x y : Name) → 0 < length (key_of x) → key_of x ≡ key_of y → is_excluded m.exclusions x ≡ false → is_excluded m.exclusions y ≡ false
  excluded_same x y f e free =
      not_it (is_excluded m.exclusions y) (λ yes_out.
      (let i = (listed_decides m.exclusions (last_rdn y)).0 yes_out in
      let j = subst (λ (r : KeyRdn). In r (rdn_keys m.exclusions)) (sym (last_by_key x y f e)) i in
      false_true (sym free ∙ (listed_decides m.exclusions (last_rdn x)).1 j)))

  done_is : is_done m.progress ≡ true → m.progress ≡ Done
  done_is e = same_progress_is m.progress Done e

  wide_test : Subset → Held → Bool
  wide_test sub c = is_child (key_of m.target) (key_of c.prefix) && (in_subset sub (key_of m.target) (key_of c.prefix) && not (is_excluded m.exclusions c.prefix))

  pin_test : Held → Bool
  pin_test c = same_key (key_of c.prefix) (key_of m.target)

  begins_done : (sub : Subset) → m.progress ≡ Done
      → begins_at h m sub
      ≡ (if is_wide m.kind
      then filter (λ (c : Held). is_child (key_of m.target) (key_of c.prefix) && (in_subset sub (key_of m.target) (key_of c.prefix) && not (is_excluded m.exclusions c.prefix))) (agent_holdings p o a).own
      else filter (λ (c : Held). same_key (key_of c.prefix) (key_of m.target)) (served m.request (agent_holdings p o a)))
  begins_done sub e = ap (λ (x : Progress). begins_at h (record m { progress = x }) sub) e

  wide_sees : (sub : Subset) → subset_of m ≡ Some sub → same_name (target_of m.request.body) m.target ≡ true → (is_done m.progress && is_wide m.kind) ≡ true
      → Sees w t k o h m (from_pins k o held (start_areas p st o m sub) sub (key_of m.target))
  wide_sees sub asked fit both = record {
    good = st.coherent;
    area_of_mastered = area_of_mastered p st;
    mastered_of_area = mastered_of_area p st;
    may = may;
    inside = λ q i. i;
    outside = λ q i f. i;
    references = refl;
    agent = refl;
    holds = λ q. refl;
    subset = asked;
    base = refl;
    short = pin_short p st;
    like = like;
    all_once = all_once;
    begins_once = subst (λ (xs : List Held). Once (map (λ (c : Held). key_of c.prefix) xs)) (sym begins)
        (once_filter (λ (c : Held). key_of c.prefix) (λ (c : Held). is_child (key_of m.target) (key_of c.prefix) && (in_subset sub (key_of m.target) (key_of c.prefix) && not (is_excluded m.exclusions c.prefix))) (agent_holdings p o a).own (own_once p st o a ia));
    first = λ c i. (let s = started c i in (in_all c s.0, (s.1.0, start s.1.1, s.1.2)));
    begins_low = λ c i. (let s = started c i in inl (s.1.0, s.1.1, s.1.2.prefix));
    starts = starting;
    from_root = λ d q i z. absurd (not_filled d (start_in d i) z);
    root_told = λ e. absurd (false_true (sym (no_root_when_done done) ∙ e));
    root_tells = λ d e z. absurd (not_filled d (is_context (from_pins k o held (start_areas p st o m sub) sub (key_of m.target)) may d e) z);
    root_once = root_once p st o a ia;
    looks = looks_from_pins p st o o held m sub asked fit both;
    pin_start = λ d n. absurd (false_true (sym n ∙ wide));
    wide_start = λ d v x i. (let c = of_start p st o m sub x i in (c.0, c.1, ap (λ (y : Area). y.prefix) (sym c.2), c.3, c.4, c.6));
  }
    where
      done : is_done m.progress ≡ true
      done = (both_true (is_done m.progress) (is_wide m.kind) both).0

      wide : is_wide m.kind ≡ true
      wide = (both_true (is_done m.progress) (is_wide m.kind) both).1

      begins : begins_at (agent_holdings p o a) m sub ≡ filter (λ (c : Held). is_child (key_of m.target) (key_of c.prefix) && (in_subset sub (key_of m.target) (key_of c.prefix) && not (is_excluded m.exclusions c.prefix))) (agent_holdings p o a).own
      begins =
          begins_done sub (done_is done)
          ∙ ap (λ (b : Bool). if b
          then filter (λ (c : Held). is_child (key_of m.target) (key_of c.prefix) && (in_subset sub (key_of m.target) (key_of c.prefix) && not (is_excluded m.exclusions c.prefix))) (agent_holdings p o a).own
          else filter (λ (c : Held). same_key (key_of c.prefix) (key_of m.target)) (served m.request (agent_holdings p o a))) wide

      start_in : (d : Area) → In d (start_areas p st o m sub) → In d k.areas
      start_in d i =
          let c = of_start p st o m sub d i in
          subst (λ (x : Area). In x k.areas) (sym c.2) (in_map (holding filling) (area_of c.0) (map area_of (mastered w)) (in_map area_of c.0 (mastered w) c.1))

      may : MayLook (from_pins k o held (start_areas p st o m sub) sub (key_of m.target))
      may = pins_may_look k o held (start_areas p st o m sub) sub (key_of m.target) st.coherent holds_own (λ r i.
          (let c = of_start p st o m sub r i in
          (start_in r i, ap (λ (y : Area). parent y.prefix) c.2 ∙ ((child_decides (key_of m.target) (pin_of c.0)).0 c.4).1)))

      started : (c : Held) → In c (begins_at (agent_holdings p o a) m sub)
          → In c (agent_holdings p o a).own × ((d : Area) × In d (start_areas p st o m sub) × Like k (served m.request (agent_holdings p o a)) d c)
      started c i =
          let f = of_filter (λ (c : Held). is_child (key_of m.target) (key_of c.prefix) && (in_subset sub (key_of m.target) (key_of c.prefix) && not (is_excluded m.exclusions c.prefix))) c (agent_holdings p o a).own (subst (λ (xs : List Held). In c xs) begins i) in
          let x = own_area_is p st o a ia c f.0 in
          let b = both_true (is_child (key_of m.target) (key_of c.prefix)) _ f.1 in
          let e = both_true (in_subset sub (key_of m.target) (key_of c.prefix)) _ b.1 in
          let n : Mastered = at_agent o x.0 in
          let mine : In n (mastered w) = in_flat (λ (y : ℕ × Agent). map (at_agent y.0) y.1.contexts) n (o, a) (numbered w) ia (in_map (at_agent o) x.0 a.contexts x.1) in
          let same : key_of c.prefix ≡ pin_of n = ap (λ (y : Held). key_of y.prefix) x.2 in
          let child : is_child (key_of m.target) (pin_of n) ≡ true = subst (λ (y : Key). is_child (key_of m.target) y ≡ true) same b.0 in
          let within : InSubset sub (key_of m.target) (pin_of n) = subst (λ (y : Key). InSubset sub (key_of m.target) y) same ((subset_decides sub (key_of m.target) (key_of c.prefix)).0 e.0) in
          let free : is_excluded m.exclusions n.context.prefix ≡ false = subst (λ (y : Held). is_excluded m.exclusions y.prefix ≡ false) x.2 (not_true (is_excluded m.exclusions c.prefix) e.1) in
          (f.0, (holding filling (area_of n), in_starts p st o m sub n mine refl child within free, subst (λ (y : Held). Like k (served m.request (agent_holdings p o a)) (holding filling (area_of n)) y) (sym x.2) (own_like_of p st o a ia (served m.request (agent_holdings p o a)) in_all x.0 x.1)))

      starting : (d : Area) → In d (start_areas p st o m sub) → 0 < length d.prefix → (c : Held) × In c (begins_at (agent_holdings p o a) m sub) × (d.prefix ≡ key_of c.prefix)
      starting d i f =
          let c = of_start p st o m sub d i in
          let master : d.master ≡ o = ap (λ (y : Area). y.master) c.2 ∙ c.3 in
          let x = own_kept p st o a ia d (start_in d i) master in
          let same : pin_of c.0 ≡ key_of x.0.prefix = ap (λ (y : Area). y.prefix) (sym c.2) ∙ sym x.2 in
          let filled : 0 < length (pin_of c.0) = ((child_decides (key_of m.target) (pin_of c.0)).0 c.4).0 in
          let free : is_excluded m.exclusions x.0.prefix ≡ false = excluded_same c.0.context.prefix x.0.prefix filled same c.6 in
          let child : is_child (key_of m.target) (key_of x.0.prefix) ≡ true = subst (λ (y : Key). is_child (key_of m.target) y ≡ true) same c.4 in
          let within : in_subset sub (key_of m.target) (key_of x.0.prefix) ≡ true = (subset_decides sub (key_of m.target) (key_of x.0.prefix)).1 (subst (λ (y : Key). InSubset sub (key_of m.target) y) same c.5) in
          (x.0, subst (λ (xs : List Held). In x.0 xs) (sym begins) (in_filter (λ (c : Held). is_child (key_of m.target) (key_of c.prefix) && (in_subset sub (key_of m.target) (key_of c.prefix) && not (is_excluded m.exclusions c.prefix))) x.0 (agent_holdings p o a).own x.1 (and_true _ _ child (and_true _ _ within (ap not free)))), sym x.2)

  -- ---- wherever it begins

  abbrev begins_by : Subset → Bool
  begins_by sub = (is_done m.progress && is_wide m.kind) || (answers_root (agent_holdings p o a) m || not (is_empty (begins_at (agent_holdings p o a) m sub)))

  some_member : (xs : List Held) → not (is_empty xs) ≡ true → (c : Held) × In c xs
  some_member [] e = absurd (false_true e)
  some_member (x ∷ xs) e = (x, here)

  Seen : Type 0
  Seen = (l : Look) × Sees w t k o h m l

  -- the base is in a context
  pin_sees : (sub : Subset) → subset_of m ≡ Some sub → same_name (target_of m.request.body) m.target ≡ true → m.progress ≡ Done → is_wide m.kind ≡ false → (c0 : Held) → In c0 (begins_at h m sub) → Seen
  unfolding Seen
  pin_sees sub asked fit e narrow c0 i =
      let done : is_done m.progress ≡ true = ap is_done e in
      let begins : begins_at h m sub ≡ filter (λ (c : Held). same_key (key_of c.prefix) (key_of m.target)) (served m.request (agent_holdings p o a)) =
      begins_done sub e
      ∙ ap (λ (b : Bool). if b
      then filter (λ (c : Held). is_child (key_of m.target) (key_of c.prefix) && (in_subset sub (key_of m.target) (key_of c.prefix) && not (is_excluded m.exclusions c.prefix))) (agent_holdings p o a).own
      else filter (λ (c : Held). same_key (key_of c.prefix) (key_of m.target)) (served m.request (agent_holdings p o a))) narrow in
      let of_list : (c : Held) → In c (begins_at h m sub) → In c all × (key_of c.prefix ≡ key_of m.target) = λ c j.
      (let f = of_filter (λ (c : Held). same_key (key_of c.prefix) (key_of m.target)) c (served m.request (agent_holdings p o a)) (subst (λ (xs : List Held). In c xs) begins j) in
      (f.0, (key_decides (key_of c.prefix) (key_of m.target)).0 f.1)) in
      let first = of_list c0 i in
      let v = like c0 first.0 in
      let there_base : In (key_of m.target) (keys_of c0.entries) = subst (λ (y : Key). In y (keys_of c0.entries)) first.1 (facts.headed c0 first.0) in (
        from_base k o held (like c0 first.0).0 sub (key_of m.target),
        base_sees sub asked fit (ap (λ (b : Bool). is_done m.progress && b) narrow ∙ never (is_done m.progress)) (no_root_when_done done) c0 first.0 i there_base
            (λ c j. (let x = of_list c j in (x.0, x.1 ∙ sym first.1)))
            (subst (λ (xs : List Held). Once (map (λ (c : Held). key_of c.prefix) xs)) (sym begins) (once_filter (λ (c : Held). key_of c.prefix) (λ (c : Held). same_key (key_of c.prefix) (key_of m.target)) all all_once))
            (λ d. first.1),
      )
    where
      never : (b : Bool) → (b && false) ≡ false
      never true = refl
      never false = refl

  found_sees : (sub : Subset) → subset_of m ≡ Some sub → same_name (target_of m.request.body) m.target ≡ true → resolves h m ≡ true → (x : Option Key) → known_pin m.request h (key_of m.target) ≡ x
      → (c0 : Held) → In c0 (begins_at h m sub) → Seen
  unfolding Seen
  found_sees sub asked fit res None known c0 i = go (is_first_level h && is_root (key_of m.target)) refl (subst (λ (xs : List Held). In c0 xs) (begins_resolved sub None res known) i)
    where
      go : (b : Bool) → (is_first_level (agent_holdings p o a) && is_root (key_of m.target)) ≡ b
          → In c0 (if b then filter (λ (c : Held). (length c.prefix == 1) && in_subset sub (key_of m.target) (key_of c.prefix)) (served m.request (agent_holdings p o a)) else [])
          → (l : Look) × Sees w t k o (agent_holdings p o a) m l
      go false e j = elim j [ ]
      go true e j =
          let b = both_true (is_first_level (agent_holdings p o a)) (is_root (key_of m.target)) e in
          (from_root k o held sub, root_sees sub asked fit (and_true _ _ (ap is_some asked) (and_true _ _ b.0 (and_true _ _ b.1 (and_true _ _ res (ap is_none known))))))
  found_sees sub asked fit res (Some q) known c0 i =
      let begins : begins_at h m sub ≡ filter (λ (c : Held). same_key (key_of c.prefix) q && is_there c.entries (key_of m.target)) (served m.request (agent_holdings p o a)) = begins_resolved sub (Some q) res known in
      let of_list : (c : Held) → In c (begins_at h m sub) → In c all × (key_of c.prefix ≡ q) × In (key_of m.target) (keys_of c.entries) = λ c j.
      (let f = of_filter (λ (c : Held). same_key (key_of c.prefix) q && is_there c.entries (key_of m.target)) c (served m.request (agent_holdings p o a)) (subst (λ (xs : List Held). In c xs) begins j) in
      let b = both_true (same_key (key_of c.prefix) q) _ f.1 in
      (f.0, (key_decides (key_of c.prefix) q).0 b.0, (there_decides c.entries (key_of m.target)).0 b.1)) in
      let first = of_list c0 i in
      let no_root : answers_root h m ≡ false = not_it (answers_root h m) (λ e.
      (let x = both_true (is_some (subset_of m)) _ e in
      let y = both_true (is_first_level h) _ x.1 in
      let z = both_true (is_root (key_of m.target)) _ y.1 in
      let r = both_true (resolves h m) _ z.1 in
      false_true (ap is_none (sym known) ∙ r.1))) in (
        from_base k o held (like c0 first.0).0 sub (key_of m.target),
        base_sees sub asked fit (ap (λ (b : Bool). b && is_wide m.kind) (resolving res)) no_root c0 first.0 i first.2
            (λ c j. (let x = of_list c j in (x.0, x.1 ∙ sym first.1)))
            (subst (λ (xs : List Held). Once (map (λ (c : Held). key_of c.prefix) xs)) (sym begins) (once_filter (λ (c : Held). key_of c.prefix) (λ (c : Held). same_key (key_of c.prefix) q && is_there c.entries (key_of m.target)) all all_once))
            (λ d. absurd (false_true (sym (resolving res) ∙ d))),
      )

  some_sees : (sub : Subset) → subset_of m ≡ Some sub → same_name (target_of m.request.body) m.target ≡ true → (is_done m.progress && is_wide m.kind) ≡ false → (c0 : Held) → In c0 (begins_at h m sub) → Seen
  some_sees sub asked fit narrow c0 i = go m.progress refl
    where
      unresolved : (k : ℕ) → m.progress ≡ Next k → resolves (agent_holdings p o a) m ≡ false → ⊥
      unresolved j e r =
          let at : begins_at (agent_holdings p o a) m sub ≡ [] =
          ap (λ (x : Progress). begins_at (agent_holdings p o a) (record m { progress = x }) sub) e
          ∙ ap (λ (b : Bool). if b then found sub (known_pin m.request (agent_holdings p o a) (key_of m.target)) else []) (ap (λ (x : Progress). resolves (agent_holdings p o a) (record m { progress = x })) (sym e) ∙ r) in
          elim (subst (λ (xs : List Held). In c0 xs) at i) [ ]

      go : (x : Progress) → m.progress ≡ x → Seen
      go Start e = found_sees sub asked fit (ap (λ (x : Progress). resolves (agent_holdings p o a) (record m { progress = x })) e) (known_pin m.request (agent_holdings p o a) (key_of m.target)) refl c0 i
      go (Next j) e = elim (true_or_false (resolves (agent_holdings p o a) m)) [
        | inl r ↦ found_sees sub asked fit r (known_pin m.request (agent_holdings p o a) (key_of m.target)) refl c0 i
        | inr r ↦ absurd (unresolved j e r)
      ]
      go Done e = pin_sees sub asked fit e (narrow_kind (is_done m.progress) (is_wide m.kind) (ap is_done e) narrow) c0 i
        where
          narrow_kind : (b c : Bool) → b ≡ true → (b && c) ≡ false → c ≡ false
          narrow_kind true c e f = f
          narrow_kind false c e f = absurd (false_true e)

  begun : (sub : Subset) → subset_of m ≡ Some sub → same_name (target_of m.request.body) m.target ≡ true → begins_by sub ≡ true → Seen
  unfolding Seen
  begun sub asked fit e =
      elim (true_or_false (is_done m.progress && is_wide m.kind)) [
        | inl wide ↦ (from_pins k o held (start_areas p st o m sub) sub (key_of m.target), wide_sees sub asked fit wide)
        | inr narrow ↦ elim (either_true (is_done m.progress && is_wide m.kind) _ e) [
          | inl wide ↦ absurd (false_true (sym narrow ∙ wide))
          | inr more ↦ elim (either_true (answers_root (agent_holdings p o a) m) _ more) [
            | inl root ↦ (from_root k o held sub, root_sees sub asked fit root)
            | inr some ↦ (let c = some_member (begins_at (agent_holdings p o a) m sub) some in some_sees sub asked fit narrow c.0 c.1)
          ]
        ]
      ]

  pub sees : same_name (target_of m.request.body) m.target ≡ true → begins_here h m ≡ true → (l : Look) × Sees w t k o h m l
  unfolding Seen
  sees fit e = go (subset_of m) refl e
    where
      go : (x : Option Subset) → subset_of m ≡ x → in_option false begins_by x ≡ true → (l : Look) × Sees w t k o (agent_holdings p o a) m l
      go None f e = absurd (false_true e)
      go (Some sub) f e = begun sub f fit e
