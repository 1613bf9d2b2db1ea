-- Name resolution, a copy that can't be used and a probe need one reference at most, whose agents stand in it once:
-- those of an NSSR, or a master and its shadows, which are consumers and so aren't the master.
use Rattle.std.proofs.Common.{◌≡◌, ℕ, ◌+◌, ◌==◌, Bool, true, false, not, ◌&&◌, ◌⊎◌, inl, inr, List, [], ◌∷◌, length, refl, sym, subst, ◌∙◌, Option, Some, None, if◌then◌else◌}
use Rattle.std.specs.Option.{is_some, is_none}
use Rattle.x5_model.specs.Words.{in_option, when, is_empty}
use Rattle.x5_model.specs.Members.{In, Once}
use Rattle.x5_model.specs.Keys.{Key, same_key, parent}
use Rattle.x5_model.specs.Values.{Name, key_of}
use Rattle.x5_model.specs.Requests.{Request}
use Rattle.x5_model.specs.References.{Start, Done, RefType, Superior, Subordinate, Cross, Supplier, NonSpecific, Reference, Chained}
use Rattle.x5_model.proofs.Lists.{in_first, of_find}
use Rattle.x5_model_tree.specs.World.{Specific, Nssr}
use Rattle.x5_model_tree.specs.Tree.{entry_at, is_there, lowest}
use Rattle.x5_model_run.specs.Journal.{same_name}
use Rattle.x5_model_run.specs.Holdings.{Held, Copy, Holdings, may_copy, usable_agents, subordinates, known_pin, held_at, copy_at, served}
use Rattle.x5_model_run.specs.Needs.{others, reference, proceeding, resolves, to_superior, superior_needs, nssr_at, to_nssr, from_lowest, multicast_needs, copy_answers, supplier_needs, specific_at, to_specific, specific_needs, foreign_needs, known_needs, pin_needs, resolution_needs, by_pin, subset_of, to_supplier, copied_needs, new_name, is_refused_here, probe_by, probe_from, probe_of, probe_at_master, probe_due, probe_needs}
use Rattle.x5_model_run.specs.History.{Point, knowledge_at, holdings_at}
use Rattle.x5_model_theory.specs.Leading.{IsSound}
use Rattle.x5_model_theory.proofs.Holding.{good_at, IsRightAccess, subordinates_right, crosses_right}
use Rattle.x5_model_serve.specs.Claims.{Apart}
use Rattle.x5_model_bounds.proofs.Agents.{once_kept, nssr_agents, subordinates_once, crosses_once}

abbrev pub Few : List Reference → Type 0
Few rs = (rs ≡ []) ⊎ ((r : Reference) × (rs ≡ r ∷ []) × Once r.agents)

pub single : (a : ℕ) → Once (a ∷ [])
single a = (λ i. elim i [ ], tt)

pub few_member : (rs : List Reference) → Few rs → (r : Reference) → In r rs → Once r.agents
few_member rs (inl e) r i = elim (subst (λ (xs : List Reference). In r xs) e i) [ ]
few_member rs (inr w) r i =
    elim (in_first r w.0 [] (subst (λ (xs : List Reference). In r xs) w.1 i)) [
      | inl same ↦ subst (λ (x : Reference). Once x.agents) (sym same) w.2
      | inr j ↦ elim j [ ]
    ]

pub few_apart : (rs : List Reference) → Few rs → Apart rs
few_apart rs (inl e) = subst Apart (sym e) (record { once = tt; agents = λ r i. elim i [ ]; unlike = λ r q a i j n s x y. elim i [ ] })
few_apart rs (inr w) = record {
  once = subst (λ (xs : List Reference). Once xs) (sym w.1) (λ i. elim i [ ], tt);
  agents = λ r i. few_member rs (inr w) r i;
  unlike = λ r q a i j n s x y. it r i ∙ sym (it q j);
}
  where
    it : (r : Reference) → In r rs → r ≡ w.0
    it r i = elim (in_first r w.0 [] (subst (λ (xs : List Reference). In r xs) w.1 i)) [ inl same ↦ same | inr j ↦ elim j [ ] ]

few_in : {A : Type 0} (rest : List Reference) (f : A → List Reference) (o : Option A) → Few rest → ((x : A) → o ≡ Some x → Few (f x)) → Few (in_option rest f o)
few_in rest f None none some = none
few_in rest f (Some x) none some = some x refl

few_some : {A : Type 0} (f : A → List Reference) (o : Option A) → ((x : A) → o ≡ Some x → Few (f x)) → Few (in_option [] f o)
few_some f o some = few_in [] f o (inl refl) some

few_if : (b : Bool) (rs : List Reference) → Few rs → Few (if b then rs else [])
few_if true rs few = few
few_if false rs few = inl refl

few_when : (b : Bool) (r : Reference) → Once r.agents → Few (when b r)
few_when true r once = inr (r, refl, once)
few_when false r once = inl refl

module _ (p : Point) (o : ℕ) (m : Chained) (sound : IsSound p) where
  abbrev h : Holdings
  h = holdings_at p o

  pub usable_once : (req : Request) (k : Specific) → IsRightAccess (knowledge_at p) k → Once k.access.shadows → Once (usable_agents req k.access)
  usable_once req k right shadows = go (may_copy req)
    where
      other : In k.access.master k.access.shadows → ⊥
      other i =
          let c = right.1 k.access.master i in
          (good_at p sound).consumers c.0 c.1 (right.0.0, right.0.1, right.0.2 ∙ sym c.2, right.0.3 ∙ sym c.3)

      go : (b : Bool) → Once (if b then (k.access.master ∷ k.access.shadows) else (k.access.master ∷ []))
      go true = (other, shadows)
      go false = single k.access.master

  others_once : (c : Held) (n : Nssr) → In c (holdings_at p o).own → In n c.nssrs → Once (others (holdings_at p o).me n.agents)
  others_once c n ic i = once_kept (λ (a : ℕ). not (a == (holdings_at p o).me)) n.agents (nssr_agents p o c n sound ic i).0

  nssr_found : (c : Held) (at : Key) (n : Nssr) → nssr_at c.nssrs at ≡ Some n → In n c.nssrs
  nssr_found c at n e = (of_find (λ (x : Nssr). same_key (key_of x.at) at) n c.nssrs e).0

  multicast_few : (c : Held) → In c (holdings_at p o).own → Few (multicast_needs (holdings_at p o) m c)
  multicast_few c ic =
      few_some (from_lowest (holdings_at p o) m c) (lowest c.entries (key_of m.target))
      (λ e q. few_some (to_nssr (holdings_at p o) m e) (nssr_at c.nssrs (key_of e.name))
      (λ n k. few_when (not (same_name e.name m.target) && not (is_empty (others (holdings_at p o).me n.agents))) (proceeding (length e.name + 1) e.name m.target NonSpecific (others (holdings_at p o).me n.agents))
      (others_once c n ic (nssr_found c (key_of e.name) n k))))

  supplier_few : (c : Copy) → Few (supplier_needs (holdings_at p o) m c)
  supplier_few c = few_when (not (copy_answers (holdings_at p o) m c)) (proceeding (length c.held.prefix) c.held.prefix m.target Supplier (c.supplier ∷ [])) (single c.supplier)

  to_few : (kind : RefType) (k : Specific) → IsRightAccess (knowledge_at p) k → Once k.access.shadows → Few (to_specific m kind k)
  to_few kind k right once = inr (proceeding (length k.pin) k.pin m.target kind (usable_agents m.request k.access), refl, usable_once m.request k right once)

  specific_few : (q : Key) → Few (specific_needs (holdings_at p o) m q)
  specific_few q =
      few_in (in_option [] (to_specific m Cross) (specific_at (holdings_at p o).cross q)) (to_specific m Subordinate) (specific_at (subordinates m.request (holdings_at p o)) q)
      (few_some (to_specific m Cross) (specific_at (holdings_at p o).cross q) (λ k e.
      (let f = of_find (λ (y : Specific). same_key (key_of y.pin) q) k (holdings_at p o).cross e in
      to_few Cross k (crosses_right p o k sound f.0) (crosses_once p o k sound f.0))))
      (λ k e.
      (let f = of_find (λ (y : Specific). same_key (key_of y.pin) q) k (subordinates m.request (holdings_at p o)) e in
      to_few Subordinate k (subordinates_right p o m.request k sound f.0) (subordinates_once p o m.request k sound f.0)))

  known_few : (q : Key) → Few (known_needs (holdings_at p o) m q)
  known_few q =
      few_in (foreign_needs (holdings_at p o) m q) (multicast_needs (holdings_at p o) m) (held_at (holdings_at p o).own q)
      (few_in (specific_needs (holdings_at p o) m q) (supplier_needs (holdings_at p o) m) (copy_at (holdings_at p o) q) (specific_few q) (λ c e. supplier_few c))
      (λ c e. multicast_few c (of_find (λ (x : Held). same_key (key_of x.prefix) q) c (holdings_at p o).own e).0)

  superior_few : Few (superior_needs (holdings_at p o) m)
  superior_few = few_some (to_superior m.target) (holdings_at p o).superior (λ s e. inr (reference m.target Start Superior (s ∷ []), refl, single s))

  pub resolution_few : Few (resolution_needs (holdings_at p o) m)
  resolution_few =
      few_if (resolves (holdings_at p o) m) (pin_needs (holdings_at p o) m (known_pin m.request (holdings_at p o) (key_of m.target)))
      (few_in (superior_needs (holdings_at p o) m) (known_needs (holdings_at p o) m) (known_pin m.request (holdings_at p o) (key_of m.target)) superior_few (λ q e. known_few q))

  pub copied_few : Few (copied_needs (holdings_at p o) m)
  copied_few =
      few_if (by_pin m && is_some (subset_of m)) (in_option [] (to_supplier (holdings_at p o) m) (copy_at (holdings_at p o) (key_of m.target)))
      (few_some (to_supplier (holdings_at p o) m) (copy_at (holdings_at p o) (key_of m.target)) (λ c e.
      few_when (is_none (held_at (served m.request (holdings_at p o)) (key_of m.target))) (reference m.target Done Supplier (c.supplier ∷ [])) (single c.supplier)))

  probe_few : (name : Name) (c : Held) → In c (holdings_at p o).own → Few (probe_of (holdings_at p o) name c)
  probe_few name c ic =
      few_some (probe_from (holdings_at p o) name c) (entry_at c.entries (parent (key_of name)))
      (λ e q. few_some (probe_by (holdings_at p o) name e) (nssr_at c.nssrs (key_of e.name))
      (λ n k. few_when (not (is_empty (others (holdings_at p o).me n.agents))) (proceeding (length name) e.name name NonSpecific (others (holdings_at p o).me n.agents))
      (others_once c n ic (nssr_found c (key_of e.name) n k))))

  at_pin_few : (name : Name) (q : Key) → Few (in_option [] (probe_at_master (holdings_at p o) m name) (held_at (holdings_at p o).own q))
  at_pin_few name q =
      few_some (probe_at_master (holdings_at p o) m name) (held_at (holdings_at p o).own q) (λ c e.
      few_if (is_there c.entries (key_of m.target) && not (is_refused_here (holdings_at p o) m.request)) (probe_of (holdings_at p o) name c)
      (probe_few name c (of_find (λ (x : Held). same_key (key_of x.prefix) q) c (holdings_at p o).own e).0))

  pub probes_few : Few (probe_needs (holdings_at p o) m)
  probes_few =
      few_some (probe_due (holdings_at p o) m) (new_name m.request.body) (λ name z.
      few_if (resolves (holdings_at p o) m) (in_option [] (λ (q : Key). in_option [] (probe_at_master (holdings_at p o) m name) (held_at (holdings_at p o).own q)) (known_pin m.request (holdings_at p o) (key_of m.target)))
      (few_some (λ (q : Key). in_option [] (probe_at_master (holdings_at p o) m name) (held_at (holdings_at p o).own q)) (known_pin m.request (holdings_at p o) (key_of m.target)) (λ q e. at_pin_few name q)))
