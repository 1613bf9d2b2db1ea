-- Each reference of a list or search pays for what is asked by it, and all together cost no more than what is looked
-- into, since their scopes are apart.
use Rattle.std.proofs.Common.{◌≡◌, ℕ, ◌+◌, ◌-◌, ◌*◌, ◌<◌, ◌≤◌, min, Bool, true, false, not, ◌&&◌, ◌||◌, ◌⊎◌, inl, inr, List, [], ◌∷◌, ◌++◌, length, map, refl, sym, ap, subst, ◌∙◌, arith, length-append, Option, Some, None, if◌then◌else◌}
use Rattle.std.specs.List.{filter, flat_map, list_any}
use Rattle.std.specs.Option.{is_some}
use Rattle.x5_model.specs.Words.{has, is_empty, in_option}
use Rattle.x5_model.specs.Members.{In, here}
use Rattle.x5_model.specs.Keys.{Key, same_key, is_prefix}
use Rattle.x5_model.specs.Values.{Name, key_of}
use Rattle.x5_model.specs.Requests.{Subset, Body, Read, Compare, ListBelow, Search, AddEntry, RemoveEntry, ModifyEntry, ModifyDn}
use Rattle.x5_model.specs.References.{Progress, Done, Reference, Chained}
use Rattle.x5_model.specs.Statics.{fault_of}
use Rattle.x5_model.proofs.KeyLaws.{key_decides}
use Rattle.x5_model.proofs.Decide.{and_decides}
use Rattle.x5_model.proofs.Lists.{or_left, or_right, either_true, both_true, and_true, not_true, in_left, in_right, in_map, of_map, of_filter, any_in, of_any, has_in, of_has}
use Rattle.x5_model.proofs.Prefixes.{prefix_itself, prefix_by_length, prefix_decides}
use Rattle.x5_model_tree.specs.World.{Specific, Nssr, World}
use Rattle.x5_model_tree.specs.Masters.{Mastered, pin_of, mastered}
use Rattle.x5_model_tree.specs.Tree.{keys_of, part}
use Rattle.x5_model_tree.specs.Ask.{is_update}
use Rattle.x5_model_run.specs.Holdings.{Held, Holdings, usable_agents, usable_copies, served, subordinates}
use Rattle.x5_model_run.specs.History.{Point, knowledge_at, tree_at, holdings_at}
use Rattle.x5_model_run.specs.Journal.{is_done, is_wide, same_name}
use Rattle.x5_model_run.specs.Chain.{Scene, IsCarried}
use Rattle.x5_model_run.specs.Covers.{covered_roots, covers, are_apart, meet, touched}
use Rattle.x5_model_run.specs.Needs.{target_of, by_pin, subset_of, new_name, begins_at, evaluated, answers_root, part_needs, resolution_needs, copied_needs, passing_needs, resolves}
use Rattle.x5_model_run.specs.Placed.{Placed, is_query_below}
use Rattle.x5_model_run.specs.Stage.{steps_to_master}
use Rattle.x5_model_theory.specs.Knowledge.{Area, Spot}
use Rattle.x5_model_theory.specs.Described.{area_of, spot_of, knowledge_of}
use Rattle.x5_model_theory.specs.Leading.{IsSound, level_of, Leads}
use Rattle.x5_model_theory.specs.Scopes.{InSpecific}
use Rattle.x5_model_theory.proofs.Stages.{same_progress_is}
use Rattle.x5_model_theory.proofs.Holding.{subordinates_right}
use Rattle.x5_model_theory.proofs.Following.{followed_is_placed}
use Rattle.x5_model_theory.proofs.Parts.{parts_lead_on}
use Rattle.x5_model_theory.proofs.Rows.{resolved}
use Rattle.x5_model_parts.specs.Standing.{knowledge_now}
use Rattle.x5_model_parts.specs.Parts.{BeginsHere, begins_here, spots}
use Rattle.x5_model_parts.proofs.Seeing.{Sees}
use Rattle.x5_model_parts.proofs.Spots.{spot_is, evaluated_is, level_in}
use Rattle.x5_model_parts.proofs.Needing.{IsTo, view_of}
use Rattle.x5_model_parts.proofs.Covering.{covers_decides, scope_covered, scope_touched}
use Rattle.x5_model_parts.proofs.Parting.{same_bool}
use Rattle.x5_model_parts.proofs.Joining.{Sight, sight, spots_are_once, spots_are_touched, spots_are_apart, parts_are_apart, scope_is_covered}
use Rattle.x5_model_serve.proofs.Walks.{needs_shuffled}
use Rattle.x5_model_serve.specs.Answering.{rest_of_parts, taken_before, walked_needs}
use Rattle.x5_model_serve.specs.Serving.{Hand, hand, line_for}
use Rattle.x5_model_serve.specs.Claims.{Setting}
use Rattle.x5_model_bounds.specs.Costs.{total, width, hops, left_of, pairs_in, is_paid, part_cost, parts_cost, probes_cost, serving_cost}
use Rattle.x5_model_bounds.specs.Bounds.{Ready}
use Rattle.x5_model_bounds.proofs.Unables.{false_true}
use Rattle.x5_model_bounds.proofs.Whole.{to_master_small}
use Rattle.x5_model_bounds.proofs.Agents.{subordinates_once, usable_few}
use Rattle.x5_model_bounds.proofs.Going.{left_for, left_carried, some_subset, same_total, sound_by}
use Rattle.std.proofs.lemmas.Bool.Decides.{leb_tells}
use Rattle.x5_model_theory.specs.Changing.{holding}
use Rattle.x5_model_bounds.proofs.Sums.{Apart, total_sorted, total_shuffled, total_both, total_split, total_bump, total_few, scopes_add, found_all}
use Rattle.x5_model_bounds.proofs.Scopes.{full, is_inside, scope_cost, has_begun, rest_cost, each_cost, ref_cost, every_part, served_subordinate, wide_count, pairs_at, parts_counted}

less_pick : (b a : Bool) (w n : ℕ) → (if a then ((if b then 0 else w) + n) else 0) ≤ (if a then (w + n) else 0)
less_pick true true w n = omega arith
less_pick false true w n = omega arith
less_pick b false w n = omega arith

rest_small : (p : Point) (o : ℕ) (m : Chained) (r : Reference) → rest_cost p o m r ≤ scope_cost p o m r
rest_small p o m r =
    total_few (λ c. if is_inside p o m r c then (if has_begun r c then 0 else width (knowledge_at p)) + pairs_in c else 0) (λ c. if is_inside p o m r c then full (knowledge_at p) c else 0) (mastered (knowledge_at p))
    (λ c i. less_pick (has_begun r c) (is_inside p o m r c) (width (knowledge_at p)) (pairs_in c))

-- at a completed name nothing is left but four suppliers
done_left : (w : World) (a : ℕ) (r : Reference) → r.progress ≡ Done → left_for w a r ≤ (if is_wide r.kind then 0 else 4)
done_left w a r e =
    subst (λ (x : Progress). (min (length r.target) 16 - level_of (record { agent = a; target = r.target; progress = x; wide = is_wide r.kind })) * width w + hops w (record { agent = a; target = r.target; progress = x; wide = is_wide r.kind }) ≤ (if is_wide r.kind then 0 else 4))
    (sym e) (go (is_wide r.kind))
  where
    zero_times : (n a b : ℕ) → a ≤ b → (a - b) * n ≡ 0
    zero_times n a b h = (let z : a - b ≡ 0 = omega arith in ap (λ (x : ℕ). x * n) z ∙ omega arith)

    go : (b : Bool) → (min (length r.target) 16 - level_of (record { agent = a; target = r.target; progress = Done; wide = b })) * width w + hops w (record { agent = a; target = r.target; progress = Done; wide = b }) ≤ (if b then 0 else 4)
    go true = (let z : (min (length r.target) 16 - (length r.target + 1)) * width w ≡ 0 = zero_times (width w) (min (length r.target) 16) (length r.target + 1) (omega arith) in omega arith)
    go false =
        let z : (min (length r.target) 16 - length r.target) * width w ≡ 0 = zero_times (width w) (min (length r.target) 16) (length r.target) (omega arith) in
        let d : steps_to_master 4 w (key_of r.target) a ≤ 4 = to_master_small 4 w (key_of r.target) a in
        omega arith

pub query_updates : (b : Body) → is_query_below b ≡ true → (is_update b ≡ false) × (new_name b ≡ None)
query_updates (Read name selection) e = absurd (false_true e)
query_updates (Compare name assertion) e = absurd (false_true e)
query_updates (ListBelow name) e = (refl, refl)
query_updates (Search base subset f selection) e = (refl, refl)
query_updates (AddEntry name attributes) e = absurd (false_true e)
query_updates (RemoveEntry name) e = absurd (false_true e)
query_updates (ModifyEntry name changes) e = absurd (false_true e)
query_updates (ModifyDn name rdn drops) e = absurd (false_true e)

pub done_query : (d q : Bool) → d ≡ true → (not d || q) ≡ true → q ≡ true
done_query true q e f = f
done_query false q e f = absurd (false_true e)

-- what came by a reference to a pin begins at its context
pin_begins : (h : Holdings) (m : Chained) (sub : Subset) → m.progress ≡ Done → is_wide m.kind ≡ false → subset_of m ≡ Some sub → begins_here h m ≡ true → (c : Held) × In c (begins_at h m sub) × (key_of c.prefix ≡ key_of m.target)
pin_begins h m sub done narrow asked e =
    elim (either_true (is_done m.progress && is_wide m.kind) (answers_root h m || not (is_empty (begins_at h m sub))) (ap (λ (x : Option Subset). in_option false by x) (sym asked) ∙ e)) [
      | inl x ↦ absurd (false_true (sym narrow ∙ (both_true (is_done m.progress) (is_wide m.kind) x).1))
      | inr x ↦ elim (either_true (answers_root h m) (not (is_empty (begins_at h m sub))) x) [
        | inl y ↦
            let res : resolves h m ≡ true = (both_true (resolves h m) _ (both_true _ _ (both_true _ _ (both_true (is_some (subset_of m)) _ y).1).1).1).0 in
            let early : is_done m.progress ≡ false = resolved h m (λ z. is_done z ≡ false) res refl (λ j d. refl) in
            absurd (false_true (sym early ∙ ap is_done done))
        | inr y ↦ first (begins_at h m sub) refl y
      ]
    ]
  where
    by : Subset → Bool
    by subset = (is_done m.progress && is_wide m.kind) || (answers_root h m || not (is_empty (begins_at h m subset)))

    at_pin : begins_at h m sub ≡ filter (λ (c : Held). same_key (key_of c.prefix) (key_of m.target)) (served m.request h)
    at_pin = rw (done, narrow) refl

    first : (xs : List Held) → begins_at h m sub ≡ xs → not (is_empty xs) ≡ true → (c : Held) × In c (begins_at h m sub) × (key_of c.prefix ≡ key_of m.target)
    first [] q f = absurd (false_true f)
    first (c ∷ cs) q f =
        let i : In c (begins_at h m sub) = subst (λ (ys : List Held). In c ys) (sym q) here in
        let g = of_filter (λ (c : Held). same_key (key_of c.prefix) (key_of m.target)) c (served m.request h) (subst (λ (ys : List Held). In c ys) at_pin i) in
        (c, i, (key_decides (key_of c.prefix) (key_of m.target)).0 g.1)

module _ (p : Point) (s : Scene) (from : Option ℕ) (k : Hand) (set : Setting p s) (ready : Ready p s k) (b : BeginsHere p (line_for k)) where
  v : Sight p (line_for k)
  v = sight p (line_for k) b

  sees_it : Sees (knowledge_at p) (tree_at p) (knowledge_now p) k.receiver (holdings_at p k.receiver) k.message v.look
  sees_it = v.sees_it

  sound : IsSound p
  sound = sound_by p s set

  -- ---- few agents

  known : (x : Specific) → In x (holdings_at p k.receiver).root ⊎ ((c : Held) × In c (evaluated (holdings_at p k.receiver) k.message) × In x c.subordinate) → In x (subordinates k.message.request (holdings_at p k.receiver))
  known x (inl i) = in_right x (flat_map (λ (d : Held). d.subordinate) (holdings_at p k.receiver).own ++ flat_map (λ (d : Held). d.subordinate) (usable_copies k.message.request (holdings_at p k.receiver))) (holdings_at p k.receiver).root i
  known x (inr c) =
      let y = spot_is (knowledge_at p) (tree_at p) (knowledge_now p) k.receiver (holdings_at p k.receiver) k.message v.look sees_it c.0 c.1 in
      served_subordinate (holdings_at p k.receiver) k.message.request c.0 x y.0 c.2

  few_agents : (r : Reference) → In r (part_needs (holdings_at p k.receiver) k.message) → length r.agents + 8 ≤ width (knowledge_at p)
  few_agents r i =
      every_part (holdings_at p k.receiver) k.message (λ x. length x.agents + 8 ≤ width (knowledge_at p))
      (λ x j.
      let e = known x j in
      let f : length (usable_agents k.message.request x.access) ≤ length (knowledge_at p).agents + 1 =
      (usable_few (knowledge_at p) k.message.request x sound.described (subordinates_right p k.receiver k.message.request x sound e) (subordinates_once p k.receiver k.message.request x sound e)).0 in
      omega arith)
      (λ x a c ic e. (let n : length x.agents ≡ 1 = ap length e in omega arith)) r i

  is_part : (r : Reference) → In r (part_needs (holdings_at p k.receiver) k.message) → r.progress ≡ Done
  is_part r i =
      elim (view_of (knowledge_at p) (tree_at p) (knowledge_now p) k.receiver (holdings_at p k.receiver) k.message v.look sees_it r i) [
        | inl x ↦ x.1.progress
        | inr x ↦ x.2.progress
      ]

  -- ---- what is asked by it costs each of its agents less than it by all its agents
  pays_narrow : (r : Reference) (pin : Area) → IsTo (knowledge_at p) (tree_at p) (knowledge_now p) k.receiver (holdings_at p k.receiver) k.message v.look sees_it r pin → length r.agents + 8 ≤ width (knowledge_at p)
      → length r.agents + each_cost p k.receiver k.message r ≤ ref_cost p k.receiver k.message r
  pays_narrow r pin to few =
      let w : World = knowledge_at p in
      let narrow : is_wide r.kind ≡ false = ap is_wide to.kind in
      let x = sees_it.mastered_of_area pin to.area in
      let itself : InSpecific v.look pin pin = record { below = prefix_itself pin.prefix; within = to.needs.within } in
      let touch = scope_touched (knowledge_at p) (tree_at p) (knowledge_now p) k.receiver (holdings_at p k.receiver) k.message v.look sees_it r (inl (pin, to)) pin to.area itself in
      let at : In pin.prefix (touched (knowledge_at p) (tree_at p) k.receiver k.message) = (sees_it.looks pin.prefix).1 (pin, to.area, refl, touch) in
      let cov : covers (knowledge_at p) r pin.prefix ≡ true = scope_covered (knowledge_at p) (tree_at p) (knowledge_now p) k.receiver (holdings_at p k.receiver) k.message v.look sees_it r (inl (pin, to)) pin itself in
      let inside : is_inside p k.receiver k.message r x.0 ≡ true =
      and_true (has same_key (touched (knowledge_at p) (tree_at p) k.receiver k.message) (pin_of x.0)) (covers (knowledge_at p) r (pin_of x.0))
      (has_in same_key key_decides (pin_of x.0) (touched (knowledge_at p) (tree_at p) k.receiver k.message) (subst (λ (q : Key). In q (touched (knowledge_at p) (tree_at p) k.receiver k.message)) (sym x.2) at))
      (ap (λ (q : Key). covers (knowledge_at p) r q) x.2 ∙ cov) in
      let begun : has_begun r x.0 ≡ true =
      and_true (not (is_wide r.kind)) (same_key (pin_of x.0) (key_of r.target)) (ap not narrow) ((key_decides (pin_of x.0) (key_of r.target)).1 (x.2 ∙ sym to.target)) in
      let bump : rest_cost p k.receiver k.message r + width (knowledge_at p) ≤ scope_cost p k.receiver k.message r =
      total_bump (λ c. if is_inside p k.receiver k.message r c then (if has_begun r c then 0 else width (knowledge_at p)) + pairs_in c else 0) (λ c. if is_inside p k.receiver k.message r c then full (knowledge_at p) c else 0) (width (knowledge_at p)) x.0 (mastered (knowledge_at p)) x.1
      (λ c. less_pick (has_begun r c) (is_inside p k.receiver k.message r c) (width (knowledge_at p)) (pairs_in c))
      (all_in (is_inside p k.receiver k.message r x.0) (has_begun r x.0) (width (knowledge_at p)) (pairs_in x.0) inside begun) in
      let four : (if is_wide r.kind then 0 else 4) ≡ 4 = ap (λ (y : Bool). if y then 0 else 4) narrow in
      let none : (if is_wide r.kind then 1 else 0) ≡ 0 = ap (λ (y : Bool). if y then 1 else 0) narrow in
      add (length r.agents) (if is_wide r.kind then 0 else 4) (rest_cost p k.receiver k.message r) (if is_wide r.kind then 1 else 0) (scope_cost p k.receiver k.message r) (width (knowledge_at p)) few four none bump
    where
      all_in : (a c : Bool) (w n : ℕ) → a ≡ true → c ≡ true → (if a then ((if c then 0 else w) + n) else 0) + w ≤ (if a then (w + n) else 0)
      all_in true true w n e f = omega arith
      all_in true false w n e f = absurd (false_true f)
      all_in false c w n e f = absurd (false_true e)

      add : (n f r z t w : ℕ) → n + 8 ≤ w → f ≡ 4 → z ≡ 0 → r + w ≤ t → n + (f + r) ≤ z + t
      add n f r z t w h i j l = omega arith

  pub pays_itself : (r : Reference) → In r (part_needs (holdings_at p k.receiver) k.message) → length r.agents + each_cost p k.receiver k.message r ≤ ref_cost p k.receiver k.message r
  pays_itself r i =
      elim (view_of (knowledge_at p) (tree_at p) (knowledge_now p) k.receiver (holdings_at p k.receiver) k.message v.look sees_it r i) [
        | inl x ↦ pays_narrow r x.0 x.1 (few_agents r i)
        | inr x ↦
            let wide : is_wide r.kind ≡ true = ap is_wide x.2.kind in
            let lone : length r.agents ≡ 1 = ap length x.2.agents in
            let none : (if is_wide r.kind then 0 else 4) ≡ 0 = ap (λ (y : Bool). if y then 0 else 4) wide in
            let single : (if is_wide r.kind then 1 else 0) ≡ 1 = ap (λ (y : Bool). if y then 1 else 0) wide in
            add (length r.agents) (if is_wide r.kind then 0 else 4) (rest_cost p k.receiver k.message r) (if is_wide r.kind then 1 else 0) (scope_cost p k.receiver k.message r) lone none single (rest_small p k.receiver k.message r)
      ]
    where
      add : (n f r z t : ℕ) → n ≡ 1 → f ≡ 0 → z ≡ 1 → r ≤ t → n + (f + r) ≤ z + t
      add n f r z t h i j l = omega arith

  -- ---- what is carried
  module _ (r : Reference) (i : In r (part_needs (holdings_at p k.receiver) k.message)) (a : ℕ) (ia : In a r.agents) (m : Chained) (c : IsCarried from (line_for k) r m) (fine : fault_of k.message.request.body ≡ None) where
    lead : Leads p k.receiver k.message r a
    lead = parts_lead_on p k.receiver k.message r a sound i ia

    passing : In r (passing_needs (holdings_at p k.receiver) k.message)
    passing = go (is_some (fault_of k.message.request.body)) (ap is_some fine)
      where
        both : In r ((resolution_needs (holdings_at p k.receiver) k.message ++ part_needs (holdings_at p k.receiver) k.message) ++ copied_needs (holdings_at p k.receiver) k.message)
        both = in_left r (resolution_needs (holdings_at p k.receiver) k.message ++ part_needs (holdings_at p k.receiver) k.message) (copied_needs (holdings_at p k.receiver) k.message) (in_right r (resolution_needs (holdings_at p k.receiver) k.message) (part_needs (holdings_at p k.receiver) k.message) i)

        go : (b : Bool) → b ≡ false → In r (if b then [] else ((resolution_needs (holdings_at p k.receiver) k.message ++ part_needs (holdings_at p k.receiver) k.message) ++ copied_needs (holdings_at p k.receiver) k.message))
        go true f = absurd (false_true (sym f))
        go false f = both

    placed : Placed p m a
    placed = followed_is_placed p from (line_for k) r m a sound passing ia c ready.placed

    done : m.progress ≡ Done
    done = c.progress_is ∙ is_part r i

    query : is_query_below m.request.body ≡ true
    query = done_query (is_done m.progress) (is_query_below m.request.body) (ap is_done done) (both_true (same_name (target_of m.request.body) m.target) _ placed.fit).1

    pub its_ready : Ready p s (hand a m)
    its_ready =
        let no = query_updates m.request.body query in
        record {
          placed = placed;
          updates = λ e. absurd (false_true (sym no.0 ∙ e));
        }

    pub its_asking : is_update m.request.body ≡ false
    its_asking = (query_updates m.request.body query).0

    same_inside : (x : Mastered) → has same_key (touched (knowledge_at p) (tree_at p) a m) (pin_of x) ≡ is_inside p k.receiver k.message r x
    same_inside x =
        let q : Key = pin_of x in
        let e = scope_is_covered p (line_for k) from r m a (pin_of x) b i ia c in
        same_bool {P = In (pin_of x) (touched (knowledge_at p) (tree_at p) a m)} {Q = In (pin_of x) (touched (knowledge_at p) (tree_at p) k.receiver k.message) × (covers (knowledge_at p) r (pin_of x) ≡ true)}
        (has same_key (touched (knowledge_at p) (tree_at p) a m) (pin_of x)) (is_inside p k.receiver k.message r x)
        (of_has same_key key_decides (pin_of x) (touched (knowledge_at p) (tree_at p) a m), has_in same_key key_decides (pin_of x) (touched (knowledge_at p) (tree_at p) a m))
        (and_decides {P = In (pin_of x) (touched (knowledge_at p) (tree_at p) k.receiver k.message)} {Q = covers (knowledge_at p) r (pin_of x) ≡ true} (has same_key (touched (knowledge_at p) (tree_at p) k.receiver k.message) (pin_of x)) (covers (knowledge_at p) r (pin_of x))
        (of_has same_key key_decides (pin_of x) (touched (knowledge_at p) (tree_at p) k.receiver k.message), has_in same_key key_decides (pin_of x) (touched (knowledge_at p) (tree_at p) k.receiver k.message)) (λ y. y, λ y. y))
        e

    same_begun : (x : Mastered) → is_paid m x ≡ has_begun r x
    same_begun x =
        let target : key_of m.target ≡ key_of r.target = sym ((key_decides (key_of r.target) (key_of m.target)).0 c.target_is) in
        let wide : is_wide m.kind ≡ is_wide r.kind = ap is_wide c.kind_is in
        let pinned : by_pin m ≡ not (is_wide r.kind) = ap (λ (y : Progress). is_done y && not (is_wide m.kind)) done ∙ ap not wide in
        (λ j. pinned j && same_key (pin_of x) (target j))

    pub its_cost : serving_cost p a m ≤ each_cost p k.receiver k.message r
    its_cost =
        let left : left_of (knowledge_at p) a m ≡ left_for (knowledge_at p) a r = left_carried (knowledge_at p) a from k r m c in
        let near : left_for (knowledge_at p) a r ≤ (if is_wide r.kind then 0 else 4) = done_left (knowledge_at p) a r (is_part r i) in
        let asked : is_some (subset_of m) ≡ true = some_subset m ∙ query in
        let some : (if is_some (subset_of m) then parts_cost p a m else 0) ≡ parts_cost p a m = ap (λ (x : Bool). if x then parts_cost p a m else 0) asked in
        let none : probes_cost p m ≡ 0 = ap (λ (x : Option Name). if is_some x then 5 * width (knowledge_at p) else 0) (query_updates m.request.body query).1 in
        let parts : parts_cost p a m ≡ rest_cost p k.receiver k.message r =
        same_total (part_cost p a m) (λ x. if is_inside p k.receiver k.message r x then (if has_begun r x then 0 else width (knowledge_at p)) + pairs_in x else 0) (mastered (knowledge_at p))
        (λ x j. if same_inside x j then ((if same_begun x j then 0 else width (knowledge_at p)) + pairs_in x) else 0) in
        add (left_of (knowledge_at p) a m) (left_for (knowledge_at p) a r) (if is_wide r.kind then 0 else 4) (if is_some (subset_of m) then parts_cost p a m else 0) (parts_cost p a m) (rest_cost p k.receiver k.message r) (probes_cost p m) left near some parts none
      where
        add : (l f n x y z q : ℕ) → l ≡ f → f ≤ n → x ≡ y → y ≡ z → q ≡ 0 → l + (x + q) ≤ n + z
        add l f n x y z q e h g i j = omega arith

  -- ---- together they cost no more than what is looked into

  -- no two references cover one context
  two_meet : (r q : Reference) (key : Key) → covers (knowledge_at p) r key ≡ true → covers (knowledge_at p) q key ≡ true → meet (knowledge_at p) r q ≡ true
  two_meet r q key e f =
      let x = (covers_decides (knowledge_at p) r key).0 e in
      let y = (covers_decides (knowledge_at p) q key).0 f in
      any_in (λ (a : Key). list_any (λ (b : Key). is_prefix a b || is_prefix b a) (covered_roots (knowledge_at p) q)) x.0 (covered_roots (knowledge_at p) r) x.1
      (any_in (λ (b : Key). is_prefix x.0 b || is_prefix b x.0) y.0 (covered_roots (knowledge_at p) q) y.1
      (elim (either_way (length x.0) (length y.0)) [
        | inl le ↦ or_left (is_prefix x.0 y.0) (is_prefix y.0 x.0) ((prefix_decides x.0 y.0).1 (prefix_by_length x.0 y.0 key x.2 y.2 le))
        | inr le ↦ or_right (is_prefix x.0 y.0) (is_prefix y.0 x.0) ((prefix_decides y.0 x.0).1 (prefix_by_length y.0 x.0 key y.2 x.2 le))
      ]))
    where
      either_way : (m n : ℕ) → (m ≤ n) ⊎ (n ≤ m)
      either_way m n = (elim (leb_tells m n) [ inl t ↦ inl t.1 | inr f ↦ inr (let h : n < m = f.1 in omega arith) ])

  apart_in : (rs : List Reference) → are_apart (knowledge_at p) rs ≡ true → Apart (λ r c. is_inside p k.receiver k.message r c) (λ c. full (knowledge_at p) c) (mastered (knowledge_at p)) rs
  apart_in [] e = tt
  apart_in (r ∷ rs) e =
      let x = both_true (not (list_any (meet (knowledge_at p) r) rs)) (are_apart (knowledge_at p) rs) e in (
        λ c inside any.
            (let q = of_any (λ y. is_inside p k.receiver k.message y c) rs any in
            let one = (both_true (has same_key (touched (knowledge_at p) (tree_at p) k.receiver k.message) (pin_of c)) (covers (knowledge_at p) r (pin_of c)) inside).1 in
            let two = (both_true (has same_key (touched (knowledge_at p) (tree_at p) k.receiver k.message) (pin_of c)) (covers (knowledge_at p) q.0 (pin_of c)) q.2).1 in
            let m : list_any (meet (knowledge_at p) r) rs ≡ true = any_in (meet (knowledge_at p) r) q.0 rs q.1 (two_meet r q.0 (pin_of c) one two) in
            false_true (sym (ap not m) ∙ x.0)),
        apart_in rs x.1,
      )

  -- what is evaluated, by the contexts of the world
  pairs_like : (d : Area) (x : Mastered) (c : Held) → d.nssrs ≡ map spot_of c.nssrs → d.nssrs ≡ map spot_of x.context.nssrs → pairs_at c ≡ pairs_in x
  pairs_like d x c e f = sym (by_spots c.nssrs) ∙ ap spot_pairs (sym e ∙ f) ∙ by_spots x.context.nssrs
    where
      spot_pairs : List Spot → ℕ
      spot_pairs ns = length (flat_map (λ (n : Spot). n.agents) ns)

      by_spots : (ns : List Nssr) → length (flat_map (λ (n : Spot). n.agents) (map spot_of ns)) ≡ length (flat_map (λ (n : Nssr). n.agents) ns)
      by_spots [] = refl
      by_spots (n ∷ ns) =
          let h : length (flat_map (λ (y : Spot). y.agents) (map spot_of ns)) ≡ length (flat_map (λ (y : Nssr). y.agents) ns) = by_spots ns in
          omega (arith, length-append n.agents (flat_map (λ (y : Spot). y.agents) (map spot_of ns)), length-append n.agents (flat_map (λ (y : Nssr). y.agents) ns))

  -- an area of this moment is a context of the world, with its NSSRs
  context_at : (d : Area) → In d (knowledge_now p).areas → (x : Mastered) × In x (mastered (knowledge_at p)) × (pin_of x ≡ d.prefix) × (d.nssrs ≡ map spot_of x.context.nssrs)
  context_at d i =
      let y = of_map (holding (λ c. keys_of (part (tree_at p) c.prefix))) d (knowledge_of (knowledge_at p)).areas i in
      let x = of_map area_of y.0 (mastered (knowledge_at p)) y.1 in
      (x.0, x.1, ap (λ (z : Area). z.prefix) (sym x.2) ∙ ap (λ (z : Area). z.prefix) (sym y.2), ap (λ (z : Area). z.nssrs) y.2 ∙ ap (λ (z : Area). z.nssrs) x.2)

  abbrev in_spots : Mastered → Bool
  in_spots c = has same_key (spots p (line_for k)) (pin_of c)

  spots_paid : total pairs_at (evaluated (holdings_at p k.receiver) k.message) ≤ total (λ c. if in_spots c then pairs_in c else 0) (mastered (knowledge_at p))
  spots_paid =
      found_all (λ (c : Held). key_of c.prefix) pin_of pairs_at pairs_in (mastered (knowledge_at p)) (evaluated (holdings_at p k.receiver) k.message) (spots_are_once p (line_for k) b)
      (λ c i.
      let y = spot_is (knowledge_at p) (tree_at p) (knowledge_now p) k.receiver (holdings_at p k.receiver) k.message v.look sees_it c i in
      let l = sees_it.like c y.0 in
      let x = context_at l.0 l.1.area in
      let e : pairs_at c ≡ pairs_in x.0 = pairs_like l.0 x.0 c l.1.nssrs x.3 in
      (x.0, x.1, x.2 ∙ l.1.prefix, omega arith))

  -- where it came by a reference to a pin, that context is evaluated
  paid_spot : by_pin k.message ≡ true → In (key_of k.message.target) (spots p (line_for k))
  paid_spot pin =
      let e = both_true (is_done k.message.progress) (not (is_wide k.message.kind)) pin in
      let c = pin_begins (holdings_at p k.receiver) k.message v.look.subset (same_progress_is k.message.progress Done e.0) (not_true (is_wide k.message.kind) e.1) sees_it.subset b.begins in
      let i : In c.0 (evaluated (holdings_at p k.receiver) k.message) =
      subst (λ (xs : List Held). In c.0 xs) (sym (evaluated_is (knowledge_at p) (tree_at p) (knowledge_now p) k.receiver (holdings_at p k.receiver) k.message v.look sees_it))
      (level_in (knowledge_at p) (tree_at p) (knowledge_now p) k.receiver (holdings_at p k.receiver) k.message v.look sees_it 16 (begins_at (holdings_at p k.receiver) k.message v.look.subset) c.0 c.1) in
      subst (λ (q : Key). In q (spots p (line_for k))) c.2 (in_map (λ (x : Held). key_of x.prefix) c.0 (evaluated (holdings_at p k.receiver) k.message) i)

  -- so each context pays once
  context_pays : (c : Mastered) → (if list_any (λ r. is_inside p k.receiver k.message r c) (part_needs (holdings_at p k.receiver) k.message) then full (knowledge_at p) c else 0) + (if in_spots c then pairs_in c else 0) ≤ part_cost p k.receiver k.message c
  context_pays c =
      go (list_any (λ r. is_inside p k.receiver k.message r c) (part_needs (holdings_at p k.receiver) k.message)) (in_spots c) (has same_key (touched (knowledge_at p) (tree_at p) k.receiver k.message) (pin_of c)) (is_paid k.message c)
      covered_is covered_alone spot_looked covered_unpaid
    where
      spot_of_test : in_spots c ≡ true → In (pin_of c) (spots p (line_for k))
      spot_of_test e = of_has same_key key_decides (pin_of c) (spots p (line_for k)) e

      covered_is : list_any (λ r. is_inside p k.receiver k.message r c) (part_needs (holdings_at p k.receiver) k.message) ≡ true → has same_key (touched (knowledge_at p) (tree_at p) k.receiver k.message) (pin_of c) ≡ true
      covered_is e =
          let r = of_any (λ r. is_inside p k.receiver k.message r c) (part_needs (holdings_at p k.receiver) k.message) e in
          (both_true (has same_key (touched (knowledge_at p) (tree_at p) k.receiver k.message) (pin_of c)) (covers (knowledge_at p) r.0 (pin_of c)) r.2).0

      never_both : In (pin_of c) (spots p (line_for k)) → list_any (λ r. is_inside p k.receiver k.message r c) (part_needs (holdings_at p k.receiver) k.message) ≡ true → ⊥
      never_both i e =
          let r = of_any (λ r. is_inside p k.receiver k.message r c) (part_needs (holdings_at p k.receiver) k.message) e in
          let cov = (both_true (has same_key (touched (knowledge_at p) (tree_at p) k.receiver k.message) (pin_of c)) (covers (knowledge_at p) r.0 (pin_of c)) r.2).1 in
          false_true (sym (spots_are_apart p (line_for k) (pin_of c) r.0 b i r.1) ∙ cov)

      covered_alone : list_any (λ r. is_inside p k.receiver k.message r c) (part_needs (holdings_at p k.receiver) k.message) ≡ true → in_spots c ≡ true → ⊥
      covered_alone e f = never_both (spot_of_test f) e

      spot_looked : in_spots c ≡ true → has same_key (touched (knowledge_at p) (tree_at p) k.receiver k.message) (pin_of c) ≡ true
      spot_looked e = has_in same_key key_decides (pin_of c) (touched (knowledge_at p) (tree_at p) k.receiver k.message) (spots_are_touched p (line_for k) (pin_of c) b (spot_of_test e))

      covered_unpaid : list_any (λ r. is_inside p k.receiver k.message r c) (part_needs (holdings_at p k.receiver) k.message) ≡ true → is_paid k.message c ≡ true → ⊥
      covered_unpaid e f =
          let g = both_true (by_pin k.message) (same_key (pin_of c) (key_of k.message.target)) f in
          let same : pin_of c ≡ key_of k.message.target = (key_decides (pin_of c) (key_of k.message.target)).0 g.1 in
          never_both (subst (λ (q : Key). In q (spots p (line_for k))) (sym same) (paid_spot g.0)) e

      go : (any spot looks paid : Bool) → (any ≡ true → looks ≡ true) → (any ≡ true → spot ≡ true → ⊥) → (spot ≡ true → looks ≡ true) → (any ≡ true → paid ≡ true → ⊥)
          → (if any then (width (knowledge_at p) + pairs_in c) else 0) + (if spot then pairs_in c else 0) ≤ (if looks then ((if paid then 0 else width (knowledge_at p)) + pairs_in c) else 0)
      go true true looks paid f g h i = absurd (g refl refl)
      go true false true true f g h i = absurd (i refl refl)
      go true false true false f g h i = omega arith
      go true false false paid f g h i = absurd (false_true (f refl))
      go false true true paid f g h i = omega arith
      go false true false paid f g h i = absurd (false_true (h refl))
      go false false looks paid f g h i = omega arith

  pub together : total (ref_cost p k.receiver k.message) (rest_of_parts (holdings_at p k.receiver) k.message) ≤ parts_cost p k.receiver k.message
  together =
      let rs : List Reference = part_needs (holdings_at p k.receiver) k.message in
      let a : total (ref_cost p k.receiver k.message) (rest_of_parts (holdings_at p k.receiver) k.message) ≡ total (ref_cost p k.receiver k.message) (part_needs (holdings_at p k.receiver) k.message) =
      total_sorted (ref_cost p k.receiver k.message) taken_before (walked_needs (holdings_at p k.receiver) k.message)
      ∙ total_shuffled (ref_cost p k.receiver k.message) (walked_needs (holdings_at p k.receiver) k.message) (part_needs (holdings_at p k.receiver) k.message)
      (needs_shuffled (holdings_at p k.receiver) k.message (spots_are_once p (line_for k) b)) in
      let c : total (ref_cost p k.receiver k.message) (part_needs (holdings_at p k.receiver) k.message) ≡ total wide_count (part_needs (holdings_at p k.receiver) k.message) + total (scope_cost p k.receiver k.message) (part_needs (holdings_at p k.receiver) k.message) =
      total_split wide_count (scope_cost p k.receiver k.message) (part_needs (holdings_at p k.receiver) k.message) in
      let d : total (scope_cost p k.receiver k.message) (part_needs (holdings_at p k.receiver) k.message)
      ≤ total (λ c. if list_any (λ r. is_inside p k.receiver k.message r c) (part_needs (holdings_at p k.receiver) k.message) then full (knowledge_at p) c else 0) (mastered (knowledge_at p)) =
      scopes_add (λ r c. is_inside p k.receiver k.message r c) (λ c. full (knowledge_at p) c) (mastered (knowledge_at p)) (part_needs (holdings_at p k.receiver) k.message) (apart_in (part_needs (holdings_at p k.receiver) k.message) (parts_are_apart p (line_for k) b)) in
      let e : total wide_count (part_needs (holdings_at p k.receiver) k.message) ≤ total pairs_at (evaluated (holdings_at p k.receiver) k.message) = parts_counted (holdings_at p k.receiver) k.message in
      let f : total pairs_at (evaluated (holdings_at p k.receiver) k.message) ≤ total (λ c. if in_spots c then pairs_in c else 0) (mastered (knowledge_at p)) = spots_paid in
      let g : total (λ c. if list_any (λ r. is_inside p k.receiver k.message r c) (part_needs (holdings_at p k.receiver) k.message) then full (knowledge_at p) c else 0) (mastered (knowledge_at p)) + total (λ c. if in_spots c then pairs_in c else 0) (mastered (knowledge_at p))
      ≤ total (part_cost p k.receiver k.message) (mastered (knowledge_at p)) =
      total_both (λ c. if list_any (λ r. is_inside p k.receiver k.message r c) (part_needs (holdings_at p k.receiver) k.message) then full (knowledge_at p) c else 0) (λ c. if in_spots c then pairs_in c else 0) (part_cost p k.receiver k.message) (mastered (knowledge_at p)) context_pays in
      add (total (ref_cost p k.receiver k.message) (rest_of_parts (holdings_at p k.receiver) k.message)) (total (ref_cost p k.receiver k.message) (part_needs (holdings_at p k.receiver) k.message)) (total wide_count (part_needs (holdings_at p k.receiver) k.message))
      (total (scope_cost p k.receiver k.message) (part_needs (holdings_at p k.receiver) k.message)) (total (λ c. if list_any (λ r. is_inside p k.receiver k.message r c) (part_needs (holdings_at p k.receiver) k.message) then full (knowledge_at p) c else 0) (mastered (knowledge_at p)))
      (total pairs_at (evaluated (holdings_at p k.receiver) k.message)) (total (λ c. if in_spots c then pairs_in c else 0) (mastered (knowledge_at p))) (total (part_cost p k.receiver k.message) (mastered (knowledge_at p))) a c d e f g
    where
      add : (a b c d e f g h : ℕ) → a ≡ b → b ≡ c + d → d ≤ e → c ≤ f → f ≤ g → e + g ≤ h → a ≤ h
      add a b c d e f g h i j l m n o = omega arith
