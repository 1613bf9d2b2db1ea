-- The references of a list or search pay for themselves, at an agent of the world; whoever is none needs nothing.
use Rattle.std.proofs.Common.{◌≡◌, ℕ, zero, suc, ◌+◌, ◌≤◌, ◌==◌, ◌++◌, length, Bool, true, false, not, ◌&&◌, ◌||◌, ◌⊎◌, inl, inr, List, [], ◌∷◌, refl, sym, ap, subst, ◌∙◌, arith, Option, Some, None, if◌then◌else◌}
use Rattle.std.specs.Option.{is_some, is_none}
use Rattle.x5_model.specs.Members.{In}
use Rattle.x5_model.specs.Keys.{Key, same_key, parent, is_child, is_root}
use Rattle.x5_model.specs.Values.{key_of}
use Rattle.x5_model.specs.Entries.{Named}
use Rattle.x5_model.specs.Requests.{Subset, Request}
use Rattle.x5_model.specs.References.{Progress, Start, Next, Done, Reference, Chained}
use Rattle.x5_model.proofs.Lists.{both_true, in_either, in_left, of_filter}
use Rattle.std.specs.List.{filter, list_any}
use Rattle.x5_model.specs.Words.{is_empty, in_option}
use Rattle.x5_model_tree.specs.World.{Agent}
use Rattle.x5_model_tree.specs.Masters.{agent_at}
use Rattle.x5_model_tree.specs.Tree.{lowest, is_there}
use Rattle.x5_model_tree.specs.Ask.{in_subset, is_update}
use Rattle.x5_model_run.specs.Holdings.{Held, Copy, Holdings, masters_pin, usable_copies, served, held_at, copy_at, known_pin, holds_within, is_first_level}
use Rattle.x5_model_run.specs.History.{Point, knowledge_at, agent_holdings, no_holdings, holdings_at}
use Rattle.x5_model_run.specs.Journal.{is_done, is_wide, same_name}
use Rattle.x5_model_run.specs.Chain.{Scene}
use Rattle.x5_model_run.specs.Needs.{target_of, superior_needs, multicast_needs, copy_answers, supplier_needs, specific_needs, resolves, is_excluded, begins_at, and_below, evaluated, subset_of, part_needs}
use Rattle.x5_model_run.specs.Placed.{fits, is_query_below}
use Rattle.x5_model_parts.specs.Parts.{BeginsHere}
use Rattle.x5_model_serve.proofs.Walks.{of_rest}
use Rattle.x5_model_serve.specs.Finding.{Found, Here, CopyHere, Root, Nowhere, Stuck, by_first, in_own, in_copy, at_pin, resolved, found_by, find, IsLooked}
use Rattle.x5_model_serve.specs.Answering.{rest_of_parts}
use Rattle.x5_model_serve.specs.Serving.{Hand, line_for, begins_parts}
use Rattle.x5_model_serve.specs.Claims.{Setting}
use Rattle.x5_model_bounds.specs.Costs.{total, left_of, parts_cost, probes_cost, whole_cost}
use Rattle.x5_model_bounds.specs.Bounds.{Ready, Payable, asks_of, cost_of, PartsPay}
use Rattle.x5_model_bounds.proofs.Unables.{false_true}
use Rattle.x5_model_bounds.proofs.Whole.{serving_small}
use Rattle.x5_model_bounds.proofs.Going.{some_subset, sound_by}
use Rattle.x5_model_bounds.proofs.Sums.{total_in}
use Rattle.x5_model_theory.proofs.Holding.{usable_is}
use Rattle.x5_model_bounds.proofs.Scopes.{each_cost, ref_cost, every_part}
use Rattle.x5_model_bounds.proofs.Paying.{query_updates, pays_itself, its_ready, its_asking, its_cost, together}
use Rattle.x5_model_find.proofs.Begins.{begins_alike}
use Rattle.x5_model_find.proofs.Orderly.{holdings_orderly}

-- ---- only a list or search begins parts

module _ (h : Holdings) (k : Hand) (none : is_some (subset_of k.message) ≡ false) where
  not_asked : not (is_none (subset_of k.message)) ≡ true → ⊥
  not_asked e = go (subset_of k.message) none e
    where
      go : (x : Option Subset) → is_some x ≡ false → not (is_none x) ≡ true → ⊥
      go None f g = false_true g
      go (Some y) f g = false_true (sym f)

  first_only : (rs : List Reference) (other : Found) → begins_parts k (by_first rs other) ≡ true → begins_parts k other ≡ true
  first_only [] other e = e
  first_only (r ∷ rs) other e = absurd (false_true e)

  own_never : (c : Held) → begins_parts k (in_own h k.message c) ≡ true → ⊥
  own_never c e = go (lowest c.entries (key_of k.message.target)) e
    where
      by : Option Named → Found
      by None = Nowhere []
      by (Some x) = if same_name x.name k.message.target then Here c else by_first (multicast_needs h k.message c) (Nowhere x.name)

      at : (x : Named) (b : Bool) → begins_parts k (if b then Here c else by_first (multicast_needs h k.message c) (Nowhere x.name)) ≡ true → ⊥
      at x true f = not_asked f
      at x false f = false_true (first_only (multicast_needs h k.message c) (Nowhere x.name) f)

      go : (x : Option Named) → begins_parts k (by x) ≡ true → ⊥
      go None f = false_true f
      go (Some x) f = at x (same_name x.name k.message.target) f

  copy_never : (c : Copy) (b : Bool) → begins_parts k (if b then CopyHere c else by_first (supplier_needs h k.message c) Stuck) ≡ true → ⊥
  copy_never c true f = not_asked f
  copy_never c false f = false_true (first_only (supplier_needs h k.message c) Stuck f)

  pin_never : (x : Option Key) → begins_parts k (at_pin h k.message x) ≡ true → ⊥
  pin_never None e = root (is_root (key_of k.message.target)) (first_only (superior_needs h k.message) (if is_root (key_of k.message.target) then Root else Nowhere []) e)
    where
      root : (b : Bool) → begins_parts k (if b then Root else Nowhere []) ≡ true → ⊥
      root true f = not_asked f
      root false f = false_true f
  pin_never (Some q) e = of_own (held_at h.own q) e
    where
      by_copy : Option Copy → Found
      by_copy None = by_first (specific_needs h k.message q) Stuck
      by_copy (Some c) = in_copy h k.message c

      by_own : Option Held → Found
      by_own None = by_copy (copy_at h q)
      by_own (Some c) = in_own h k.message c

      of_copy : (x : Option Copy) → begins_parts k (by_copy x) ≡ true → ⊥
      of_copy None f = false_true (first_only (specific_needs h k.message q) Stuck f)
      of_copy (Some c) f = copy_never c (copy_answers h k.message c) f

      of_own : (x : Option Held) → begins_parts k (by_own x) ≡ true → ⊥
      of_own None f = of_copy (copy_at h q) f
      of_own (Some c) f = own_never c f

asked_somehow : (h : Holdings) (k : Hand) → fits k.message ≡ true → begins_parts k (find h k.message) ≡ true → is_some (subset_of k.message) ≡ true
asked_somehow h k fit e = go (is_some (subset_of k.message)) refl
  where
    early : is_some (subset_of k.message) ≡ false → (x : Progress) → (not (is_done x) || is_query_below k.message.request.body) ≡ true → begins_parts k (found_by h k.message x) ≡ true → ⊥
    early none Start f g = pin_never h k none (known_pin k.message.request h (key_of k.message.target)) g
    early none (Next j) f g = next (holds_within h (key_of k.message.target) j) g
      where
        next : (b : Bool) → begins_parts k (if b then resolved h k.message else Stuck) ≡ true → ⊥
        next true z = pin_never h k none (known_pin k.message.request h (key_of k.message.target)) z
        next false z = false_true z
    early none Done f g = false_true (sym none ∙ some_subset k.message ∙ f)

    go : (b : Bool) → is_some (subset_of k.message) ≡ b → is_some (subset_of k.message) ≡ true
    go true q = q
    go false q = absurd (early q k.message.progress (both_true (same_name (target_of k.message.request.body) k.message.target) _ fit).1 e)

the_subset : (x : Option Subset) → is_some x ≡ true → (sub : Subset) × (x ≡ Some sub)
the_subset None e = absurd (false_true e)
the_subset (Some sub) e = (sub, refl)

-- ---- who is no agent of the world needs nothing

below_in : (c : Held) (n : ℕ) (all level : List Held) (base : Key) (sub : Subset) → In c (and_below n all base sub level) → In c level ⊎ In c all
below_in c zero all level base sub i = inl i
below_in c (suc n) all level base sub i =
    go (is_empty level) i (below_in c n all (filter (λ c. in_subset sub base (key_of c.prefix) && list_any (λ d. is_there d.entries (parent (key_of c.prefix))) level) all) base sub)
  where
    next : List Held
    next = filter (λ c. in_subset sub base (key_of c.prefix) && list_any (λ d. is_there d.entries (parent (key_of c.prefix))) level) all

    go : (b : Bool) → In c (if b then [] else (level ++ and_below n all base sub (filter (λ c. in_subset sub base (key_of c.prefix) && list_any (λ d. is_there d.entries (parent (key_of c.prefix))) level) all)))
        → (In c (and_below n all base sub (filter (λ c. in_subset sub base (key_of c.prefix) && list_any (λ d. is_there d.entries (parent (key_of c.prefix))) level) all)) → In c (filter (λ c. in_subset sub base (key_of c.prefix) && list_any (λ d. is_there d.entries (parent (key_of c.prefix))) level) all) ⊎ In c all) → In c level ⊎ In c all
    go true j f = elim j [ ]
    go false j f =
        elim (in_either c level _ j) [
          | inl l ↦ inl l
          | inr l ↦ elim (f l) [ inl y ↦ inr (of_filter (λ c. in_subset sub base (key_of c.prefix) && list_any (λ d. is_there d.entries (parent (key_of c.prefix))) level) c all y).0 | inr y ↦ inr y ]
        ]

begins_served : (h : Holdings) (m : Chained) (sub : Subset) (c : Held) → In c (begins_at h m sub) → In c (served m.request h)
begins_served h m sub c i = go m.progress i
  where
    found : Option Key → List Held
    found None =
        if is_first_level h && is_root (key_of m.target)
        then filter (λ c. (length c.prefix == 1) && in_subset sub (key_of m.target) (key_of c.prefix)) (served m.request h)
        else []
    found (Some p) = filter (λ c. same_key (key_of c.prefix) p && is_there c.entries (key_of m.target)) (served m.request h)

    from_root : (b : Bool) → In c (if b then filter (λ c. (length c.prefix == 1) && in_subset sub (key_of m.target) (key_of c.prefix)) (served m.request h) else []) → In c (served m.request h)
    from_root true j = (of_filter (λ c. (length c.prefix == 1) && in_subset sub (key_of m.target) (key_of c.prefix)) c (served m.request h) j).0
    from_root false j = elim j [ ]

    at : (x : Option Key) → In c (found x) → In c (served m.request h)
    at None j = from_root (is_first_level h && is_root (key_of m.target)) j
    at (Some p) j = (of_filter (λ c. same_key (key_of c.prefix) p && is_there c.entries (key_of m.target)) c (served m.request h) j).0

    resolving : (b : Bool) → In c (if b then found (known_pin m.request h (key_of m.target)) else []) → In c (served m.request h)
    resolving true j = at (known_pin m.request h (key_of m.target)) j
    resolving false j = elim j [ ]

    done : (b : Bool)
        → In c (if b then filter (λ c. is_child (key_of m.target) (key_of c.prefix) && (in_subset sub (key_of m.target) (key_of c.prefix) && not (is_excluded m.exclusions c.prefix))) h.own else filter (λ c. same_key (key_of c.prefix) (key_of m.target)) (served m.request h))
        → In c (served m.request h)
    done true j = in_left c h.own _ (of_filter (λ c. is_child (key_of m.target) (key_of c.prefix) && (in_subset sub (key_of m.target) (key_of c.prefix) && not (is_excluded m.exclusions c.prefix))) c h.own j).0
    done false j = (of_filter (λ c. same_key (key_of c.prefix) (key_of m.target)) c (served m.request h) j).0

    by : Progress → List Held
    by Start = if resolves h m then found (known_pin m.request h (key_of m.target)) else []
    by (Next k) = if resolves h m then found (known_pin m.request h (key_of m.target)) else []
    by Done =
        if is_wide m.kind
        then filter (λ c. is_child (key_of m.target) (key_of c.prefix) && (in_subset sub (key_of m.target) (key_of c.prefix) && not (is_excluded m.exclusions c.prefix))) h.own
        else filter (λ c. same_key (key_of c.prefix) (key_of m.target)) (served m.request h)

    go : (x : Progress) → In c (by x) → In c (served m.request h)
    go Start j = resolving (resolves h m) j
    go (Next k) j = resolving (resolves h m) j
    go Done j = done (is_wide m.kind) j

evaluated_served : (h : Holdings) (m : Chained) (c : Held) → In c (evaluated h m) → In c (served m.request h)
evaluated_served h m c i = go (subset_of m) i
  where
    go : (x : Option Subset) → In c (in_option [] (λ subset. and_below 16 (served m.request h) (key_of m.target) subset (begins_at h m subset)) x) → In c (served m.request h)
    go None j = elim j [ ]
    go (Some sub) j = elim (below_in c 16 (served m.request h) (begins_at h m sub) (key_of m.target) sub j) [ inl l ↦ begins_served h m sub c l | inr l ↦ l ]

none_served : (o : ℕ) (r : Request) (c : Held) → In c (served r (no_holdings o)) → ⊥
none_served o r c i =
    let j = of_filter (λ d. not (masters_pin (no_holdings o) (key_of d.prefix))) c (usable_copies r (no_holdings o)) i in
    let x = usable_is r (no_holdings o) c j.0 in
    elim x.1 [ ]

none_needed : (o : ℕ) (m : Chained) (r : Reference) → In r (part_needs (no_holdings o) m) → ⊥
none_needed o m r i =
    every_part (no_holdings o) m (λ x. ⊥)
    (λ k j. elim j [ inl l ↦ elim l [ ] | inr c ↦ none_served o m.request c.0 (evaluated_served (no_holdings o) m c.0 c.1) ])
    (λ x a c ic e. none_served o m.request c (evaluated_served (no_holdings o) m c ic)) r i

nothing : (rs : List Reference) → total (λ r. 0) rs ≡ 0
nothing [] = refl
nothing (r ∷ rs) = let h : total (λ q. 0) rs ≡ 0 = nothing rs in omega arith

-- ---- the references pay

abbrev Pay : Point → Scene → Option ℕ → Hand → Holdings → Type 0
Pay p s from k h =
    (cost : Reference → ℕ) × (total cost (rest_of_parts h k.message) ≤ cost_of p k)
    × ((r : Reference) → In r (rest_of_parts h k.message) → Payable p s from k r (cost r) (asks_of k))

agent_pays : (p : Point) (s : Scene) (from : Option ℕ) (k : Hand) → Setting p s → Ready p s k → IsLooked k.message → begins_parts k (find (holdings_at p k.receiver) k.message) ≡ true → is_some (agent_at (knowledge_at p) k.receiver) ≡ true
    → Pay p s from k (holdings_at p k.receiver)
agent_pays p s from k set ready looked found is = (ref_cost p k.receiver k.message, paid, λ r i. payable r (of_rest (holdings_at p k.receiver) k.message r i) i)
  where
    asked : is_some (subset_of k.message) ≡ true
    asked = asked_somehow (holdings_at p k.receiver) k looked.1 found

    here : BeginsHere p (line_for k)
    here =
        record {
          stands = set.by_keys;
          agent = is;
          fit = looked.1;
          begins = sym (begins_alike (holdings_at p k.receiver) k.message k.receiver (holdings_orderly p k.receiver (sound_by p s set)) looked asked) ∙ found;
          copies = inr set.copies;
        }

    paid : total (ref_cost p k.receiver k.message) (rest_of_parts (holdings_at p k.receiver) k.message) ≤ cost_of p k
    paid =
        let a : total (ref_cost p k.receiver k.message) (rest_of_parts (holdings_at p k.receiver) k.message) ≤ parts_cost p k.receiver k.message = together p s from k set ready here in
        let c : (if is_some (subset_of k.message) then parts_cost p k.receiver k.message else 0) ≡ parts_cost p k.receiver k.message = ap (λ (b : Bool). if b then parts_cost p k.receiver k.message else 0) asked in
        add (total (ref_cost p k.receiver k.message) (rest_of_parts (holdings_at p k.receiver) k.message)) (parts_cost p k.receiver k.message) (left_of (knowledge_at p) k.receiver k.message) (if is_some (subset_of k.message) then parts_cost p k.receiver k.message else 0) (probes_cost p k.message) a c
      where
        add : (t c l d q : ℕ) → t ≤ c → d ≡ c → t ≤ l + (d + q)
        add t c l d q h e = omega arith

    query : is_update k.message.request.body ≡ false
    query = (query_updates k.message.request.body (sym (some_subset k.message) ∙ asked)).0

    payable : (r : Reference) → In r (part_needs (holdings_at p k.receiver) k.message) → In r (rest_of_parts (holdings_at p k.receiver) k.message) → Payable p s from k r (ref_cost p k.receiver k.message r) (asks_of k)
    payable r i j = record {
      each = each_cost p k.receiver k.message r;
      few = pays_itself p s from k set ready here r i;
      small =
          less (each_cost p k.receiver k.message r) (ref_cost p k.receiver k.message r) (total (ref_cost p k.receiver k.message) (rest_of_parts (holdings_at p k.receiver) k.message)) (cost_of p k) (whole_cost p) _
          (pays_itself p s from k set ready here r i) (total_in (ref_cost p k.receiver k.message) r (rest_of_parts (holdings_at p k.receiver) k.message) j) paid (serving_small p k.receiver k.message);
      carries = record {
        ready = λ a ia m c. its_ready p s from k set ready here r i a ia m c looked.0;
        within = λ a ia m c. its_cost p s from k set ready here r i a ia m c looked.0;
        asking = λ a ia m c. its_asking p s from k set ready here r i a ia m c looked.0 ∙ sym query;
      };
    }
      where
        less : (e r t c w n : ℕ) → n + e ≤ r → r ≤ t → t ≤ c → 2 + c ≤ w → e ≤ w
        less e r t c w n f g h i = omega arith

pub parts_pay : PartsPay
parts_pay p s from k set ready looked e = subst (Pay p s from k) (sym (ap (λ (f : ℕ → Holdings). f k.receiver) set.holdings)) (by (agent_at (knowledge_at p) k.receiver) refl)
  where
    found : begins_parts k (find (holdings_at p k.receiver) k.message) ≡ true
    found = ap (λ (f : ℕ → Holdings). begins_parts k (find (f k.receiver) k.message)) (sym set.holdings) ∙ e

    by : (x : Option Agent) → agent_at (knowledge_at p) k.receiver ≡ x → Pay p s from k (holdings_at p k.receiver)
    by (Some a) q = agent_pays p s from k set ready looked found (ap is_some q)
    by None q =
        subst (Pay p s from k) (sym (ap (λ (x : Option Agent). in_option (no_holdings k.receiver) (agent_holdings p k.receiver) x) q)) (
          λ r. 0,
          (let z : total (λ r. 0) (rest_of_parts (no_holdings k.receiver) k.message) ≡ 0 = nothing (rest_of_parts (no_holdings k.receiver) k.message) in least (total (λ r. 0) (rest_of_parts (no_holdings k.receiver) k.message)) (cost_of p k) z),
          λ r i. absurd (none_needed k.receiver k.message r (of_rest (no_holdings k.receiver) k.message r i)),
        )
      where
        least : (a b : ℕ) → a ≡ 0 → a ≤ b
        least a b h = omega arith
