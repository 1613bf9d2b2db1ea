-- When a probe is due, and what it is.
use Rattle.std.proofs.Common.{◌≡◌, ℕ, ◌-◌, Bool, true, false, not, ◌&&◌, inl, inr, List, [], ◌∷◌, length, refl, sym, ap, subst, ◌∙◌, arith, Option, Some, None, if◌then◌else◌, length-take}
use Rattle.std.specs.Option.{is_some}
use Rattle.x5_model.specs.Words.{is_empty, in_option, when}
use Rattle.x5_model.specs.Members.{In}
use Rattle.x5_model.specs.Keys.{Key, IsPrefix, parent}
use Rattle.x5_model.specs.Values.{Name, key_of}
use Rattle.x5_model.specs.Entries.{Named}
use Rattle.x5_model.specs.References.{Reference, NonSpecific, Chained}
use Rattle.x5_model.specs.Answers.{DirError}
use Rattle.x5_model.specs.Statics.{fault_of}
use Rattle.x5_model.proofs.Lists.{both_true, and_true, not_true, in_first}
use Rattle.x5_model.proofs.Prefixes.{parent_is_prefix}
use Rattle.x5_model_tree.specs.World.{Nssr}
use Rattle.x5_model_tree.specs.Tree.{is_there, entry_at}
use Rattle.x5_model_run.specs.Holdings.{Held, Holdings, held_at, known_pin}
use Rattle.x5_model_run.specs.Needs.{resolves, others, proceeding, nssr_at, new_name, is_refused_here, probe_of, probe_needs, due_probes}
use Rattle.x5_model_theory.proofs.Stages.{key_length}
use Rattle.x5_model_theory.proofs.Longest.{respelled_key}

-- ---- members of what may be empty

of_option : {X Y : Type 0} (f : X → List Y) (o : Option X) (y : Y) → In y (in_option [] f o) → (x : X) × (o ≡ Some x) × In y (f x)
of_option f None y i = elim i [ ]
of_option f (Some x) y i = (x, refl, i)

of_if : {Y : Type 0} (b : Bool) (ys : List Y) (y : Y) → In y (if b then ys else []) → (b ≡ true) × In y ys
of_if true ys y i = (refl, i)
of_if false ys y i = elim i [ ]

of_unless : {Y : Type 0} (b : Bool) (ys : List Y) (y : Y) → In y (if b then [] else ys) → (b ≡ false) × In y ys
of_unless true ys y i = elim i [ ]
of_unless false ys y i = (refl, i)

of_when : {Y : Type 0} (b : Bool) (x y : Y) → In y (when b x) → (b ≡ true) × (y ≡ x)
of_when true x y i = elim (in_first y x [] i) [ inl e ↦ (refl, e) | inr j ↦ elim j [ ] ]
of_when false x y i = elim i [ ]

no_fault : (o : Option DirError) → is_some o ≡ false → o ≡ None
no_fault None e = refl
no_fault (Some x) e = cc

-- ---- the parts of what is due

abbrev for_nssr : Holdings → Name → Named → Nssr → List Reference
for_nssr h name e n = when (not (is_empty (others h.me n.agents))) (proceeding (length name) e.name name NonSpecific (others h.me n.agents))

abbrev for_entry : Holdings → Name → Held → Named → List Reference
for_entry h name c e = in_option {X = Nssr} {Y = List Reference} [] (for_nssr h name e) (nssr_at c.nssrs (key_of e.name))

abbrev where_passed : Holdings → Name → Held → Bool → List Reference
where_passed h name c b = if b then probe_of h name c else []

abbrev passes : Holdings → Chained → Held → Bool
passes h m c = is_there c.entries (key_of m.target) && not (is_refused_here h m.request)

abbrev for_pin : Holdings → Chained → Name → Key → List Reference
for_pin h m name p = in_option {X = Held} {Y = List Reference} [] (λ c. where_passed h name c (passes h m c)) (held_at h.own p)

abbrev for_known : Holdings → Chained → Name → Option Key → List Reference
for_known h m name o = in_option {X = Key} {Y = List Reference} [] (for_pin h m name) o

abbrev where_resolved : Holdings → Chained → Name → Bool → List Reference
where_resolved h m name b = if b then for_known h m name (known_pin m.request h (key_of m.target)) else []

abbrev for_new : Holdings → Chained → Option Name → List Reference
for_new h m o = in_option {X = Name} {Y = List Reference} [] (λ name. where_resolved h m name (resolves h m)) o

pub record Probe (h : Holdings) (m : Chained) (r : Reference) : Type 0 where
  pub faultless : fault_of m.request.body ≡ None
  pub name : Name
  pub named : new_name m.request.body ≡ Some name
  pub held : Held
  pub passed : is_refused_here h m.request ≡ false
  pub above : Named
  pub found : entry_at held.entries (parent (key_of name)) ≡ Some above
  pub nssr : Nssr
  pub listed : nssr_at held.nssrs (key_of above.name) ≡ Some nssr
  pub is : r ≡ proceeding (length name) above.name name NonSpecific (others h.me nssr.agents)

pub probe_is : (h : Holdings) (m : Chained) (r : Reference) → In r (due_probes h m) → Probe h m r
probe_is h m r i =
    let a = of_unless (is_some (fault_of m.request.body)) (probe_needs h m) r i in
    let b = of_option {X = Name} {Y = Reference} (λ name. where_resolved h m name (resolves h m)) (new_name m.request.body) r a.1 in
    let c = of_if (resolves h m) (for_known h m b.0 (known_pin m.request h (key_of m.target))) r b.2 in
    let d = of_option {X = Key} {Y = Reference} (for_pin h m b.0) (known_pin m.request h (key_of m.target)) r c.1 in
    let e = of_option {X = Held} {Y = Reference} (λ c. where_passed h b.0 c (passes h m c)) (held_at h.own d.0) r d.2 in
    let f = of_if (passes h m e.0) (probe_of h b.0 e.0) r e.2 in
    let g = of_option {X = Named} {Y = Reference} (for_entry h b.0 e.0) (entry_at e.0.entries (parent (key_of b.0))) r f.1 in
    let j = of_option {X = Nssr} {Y = Reference} (for_nssr h b.0 g.0) (nssr_at e.0.nssrs (key_of g.0.name)) r g.2 in
    let l = of_when (not (is_empty (others h.me j.0.agents))) (proceeding (length b.0) g.0.name b.0 NonSpecific (others h.me j.0.agents)) r j.2 in
    record {
      faultless = no_fault (fault_of m.request.body) a.0;
      name = b.0;
      named = b.1;
      held = e.0;
      passed = not_true (is_refused_here h m.request) (both_true (is_there e.0.entries (key_of m.target)) (not (is_refused_here h m.request)) f.0).1;
      above = g.0;
      found = g.1;
      nssr = j.0;
      listed = j.1;
      is = l.1;
    }

pub probe_due : (h : Holdings) (m : Chained) (name : Name) (pin : Key) (c : Held) (e : Named) (n : Nssr) → fault_of m.request.body ≡ None → new_name m.request.body ≡ Some name → resolves h m ≡ true
    → known_pin m.request h (key_of m.target) ≡ Some pin → held_at h.own pin ≡ Some c → is_there c.entries (key_of m.target) ≡ true → is_refused_here h m.request ≡ false
    → entry_at c.entries (parent (key_of name)) ≡ Some e → nssr_at c.nssrs (key_of e.name) ≡ Some n → not (is_empty (others h.me n.agents)) ≡ true
    → due_probes h m ≡ proceeding (length name) e.name name NonSpecific (others h.me n.agents) ∷ []
probe_due h m name pin c e n faultless named resolving known held there passed found listed some =
    ap (λ (o : Option DirError). if is_some o then [] else probe_needs h m) faultless
    ∙ ap (for_new h m) named
    ∙ ap (where_resolved h m name) resolving
    ∙ ap (for_known h m name) known
    ∙ ap (λ (o : Option Held). in_option {X = Held} {Y = List Reference} [] (λ c. where_passed h name c (passes h m c)) o) held
    ∙ ap (where_passed h name c) (and_true (is_there c.entries (key_of m.target)) (not (is_refused_here h m.request)) there (ap not passed))
    ∙ ap (λ (o : Option Named). in_option {X = Named} {Y = List Reference} [] (for_entry h name c) o) found
    ∙ ap (λ (o : Option Nssr). in_option {X = Nssr} {Y = List Reference} [] (for_nssr h name e) o) listed
    ∙ ap (λ (b : Bool). when b (proceeding (length name) e.name name NonSpecific (others h.me n.agents))) some

-- its target is the new name, with the RDNs above spelled as the entry's
pub proceeding_key : (name : Name) (above : Named) (agents : List ℕ) → key_of above.name ≡ parent (key_of name) → key_of (proceeding (length name) above.name name NonSpecific agents).target ≡ key_of name
proceeding_key name above agents same =
    let a : length (key_of above.name) ≡ length above.name = key_length above.name in
    let b : length (key_of name) ≡ length name = key_length name in
    let c : length (key_of above.name) ≡ length (parent (key_of name)) = ap length same in
    let d : length (parent (key_of name)) ≡ length name - 1 = parent_long (key_of name) ∙ ap (λ (n : ℕ). n - 1) b in
    respelled_key (length name - 1) above.name name (omega arith) (subst (λ (x : Key). IsPrefix x (key_of name)) (sym same) (parent_is_prefix (key_of name)))
  where
    parent_long : (x : Key) → length (parent x) ≡ length x - 1
    parent_long x = omega (arith, length-take (length x - 1) x)
