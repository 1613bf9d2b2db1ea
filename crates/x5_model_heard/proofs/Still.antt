-- While probes are sent nothing is accepted: what is carried for a probe is a read, and by one induction over all that
-- is done nothing is accepted where no update is carried.
use Rattle.std.proofs.Common.{◌≡◌, ℕ, ◌+◌, ◌-◌, ◌≤◌, nat_lt, Bool, true, false, not, ◌&&◌, inl, inr, List, [], ◌∷◌, ◌++◌, length, refl, sym, ap, subst, ◌∙◌, arith, length-take, Option, Some, None, if◌then◌else◌}
use Rattle.std.specs.List.{flat_map}
use Rattle.std.specs.Option.{is_some}
use Rattle.x5_model.specs.Words.{is_empty, first_of, in_option, when}
use Rattle.x5_model.specs.Members.{In, here}
use Rattle.x5_model.specs.Keys.{Key, IsPrefix, same_key, parent}
use Rattle.x5_model.specs.Values.{Name, key_of, name_above}
use Rattle.x5_model.specs.Entries.{Named}
use Rattle.x5_model.specs.Requests.{Body, Read, Compare, ListBelow, Search, AddEntry, RemoveEntry, ModifyEntry, ModifyDn, Request}
use Rattle.x5_model.specs.References.{Reference, NonSpecific, Chained}
use Rattle.x5_model.specs.Answers.{DirError, UpdateProblem}
use Rattle.x5_model.specs.Problems.{naming_violation}
use Rattle.x5_model.specs.Statics.{given, value_refusals, repeat_refusals, added_refusals, fault_of}
use Rattle.x5_model.proofs.KeyLaws.{key_decides}
use Rattle.x5_model.proofs.Decide.{less_decides}
use Rattle.x5_model.proofs.Lists.{in_first, of_find}
use Rattle.x5_model.proofs.Prefixes.{parent_is_prefix, parent_length}
use Rattle.x5_model_tree.specs.World.{Nssr}
use Rattle.x5_model_tree.specs.Tree.{key_at, entry_at, is_there}
use Rattle.x5_model_tree.specs.Ask.{is_update}
use Rattle.x5_model_run.specs.Holdings.{Held, Holdings, held_at, known_pin}
use Rattle.x5_model_run.specs.Journal.{Journal, is_wide, same_name}
use Rattle.x5_model_run.specs.Needs.{others, proceeding, resolves, nssr_at, new_name, is_refused_here, probe_of, probe_needs, due_probes}
use Rattle.x5_model_run.specs.Chain.{Scene, probe_request, is_probe, part_body, part_request, asks_part, is_user}
use Rattle.x5_model_theory.proofs.Tests.{false_true}
use Rattle.x5_model_theory.proofs.Stages.{key_length}
use Rattle.x5_model_theory.proofs.Longest.{respelled_key}
use Rattle.x5_model_serve.specs.Serving.{Hand, Act, Serves, Follows, Sends, Tries, Takes, Spreads, Casts, Gathers, Probes, Updates, Does, carried_for, loops, is_long, done_before, refused, unfit, stuck, nowhere, refers, goes, casts, reads, reads_copy, gives_parts, asks_parts, updates, not_done, does, probes_all, misses, taken, breaks, no_probe, clear, unsure, silent, holds_back, spent, lost, dropped, sends, final, referral, wide_referral, unexplored, none_yet, in_vain_too, heard, unheard, none_asked, unable_too, silent_too, answered, nobody_has, some_silent, no_part, part_unheard, part_unavailable, part_answered, part_breaks}
use Rattle.x5_model_heard.specs.Kept.{ProbesAcceptNone}

-- ---- what is due is a probe

of_option : {X Y : Type 0} (f : X → List Y) (o : Option X) (y : Y) → In y (in_option [] f o)
    → (x : X) × (o ≡ Some x) × In y (f x)
of_option f None y i = elim i [ ]
of_option f (Some x) y i = (x, refl, i)

of_if : {Y : Type 0} (b : Bool) (ys : List Y) (y : Y) → In y (if b then ys else []) → (b ≡ true) × In y ys
of_if true ys y i = (refl, i)
of_if false ys y i = elim i [ ]

of_unless : {Y : Type 0} (b : Bool) (ys : List Y) (y : Y) → In y (if b then [] else ys) → (b ≡ false) × In y ys
of_unless true ys y i = elim i [ ]
of_unless false ys y i = (refl, i)

of_when : {Y : Type 0} (b : Bool) (x y : Y) → In y (when b x) → (b ≡ true) × (y ≡ x)
of_when true x y i = elim (in_first y x [] i) [ inl e ↦ (refl, e) | inr j ↦ elim j [ ] ]
of_when false x y i = elim i [ ]

no_fault : (o : Option DirError) → is_some o ≡ false → o ≡ None
no_fault None e = refl
no_fault (Some x) e = cc

abbrev for_nssr : Holdings → Name → Named → Nssr → List Reference
for_nssr h name e n =
    when (not (is_empty (others h.me n.agents)))
    (proceeding (length name) e.name name NonSpecific (others h.me n.agents))

abbrev for_entry : Holdings → Name → Held → Named → List Reference
for_entry h name c e =
    in_option {X = Nssr} {Y = List Reference} [] (for_nssr h name e) (nssr_at c.nssrs (key_of e.name))

abbrev where_passed : Holdings → Name → Held → Bool → List Reference
where_passed h name c b = if b then probe_of h name c else []

abbrev passes : Holdings → Chained → Held → Bool
passes h m c = is_there c.entries (key_of m.target) && not (is_refused_here h m.request)

abbrev for_pin : Holdings → Chained → Name → Key → List Reference
for_pin h m name p =
    in_option {X = Held} {Y = List Reference} [] (λ c. where_passed h name c (passes h m c)) (held_at h.own p)

abbrev for_known : Holdings → Chained → Name → Option Key → List Reference
for_known h m name o = in_option {X = Key} {Y = List Reference} [] (for_pin h m name) o

abbrev where_resolved : Holdings → Chained → Name → Bool → List Reference
where_resolved h m name b = if b then for_known h m name (known_pin m.request h (key_of m.target)) else []

record Probe (h : Holdings) (m : Chained) (r : Reference) : Type 0 where
  faultless : fault_of m.request.body ≡ None
  name : Name
  named : new_name m.request.body ≡ Some name
  above : Named
  at : key_at above ≡ parent (key_of name)
  agents : List ℕ
  is : r ≡ proceeding (length name) above.name name NonSpecific agents

probe_is : (h : Holdings) (m : Chained) (r : Reference) → In r (due_probes h m) → Probe h m r
probe_is h m r i =
    let a = of_unless (is_some (fault_of m.request.body)) (probe_needs h m) r i in
    let b = of_option {X = Name} {Y = Reference} (λ name. where_resolved h m name (resolves h m))
    (new_name m.request.body) r
    a.1 in
    let c = of_if (resolves h m) (for_known h m b.0 (known_pin m.request h (key_of m.target))) r b.2 in
    let d = of_option {X = Key} {Y = Reference} (for_pin h m b.0) (known_pin m.request h (key_of m.target)) r c.1 in
    let e = of_option {X = Held} {Y = Reference} (λ c. where_passed h b.0 c (passes h m c)) (held_at h.own d.0) r d.2 in
    let f = of_if (passes h m e.0) (probe_of h b.0 e.0) r e.2 in
    let g = of_option {X = Named} {Y = Reference} (for_entry h b.0 e.0)
    (entry_at e.0.entries (parent (key_of b.0))) r f.1 in
    let j = of_option {X = Nssr} {Y = Reference} (for_nssr h b.0 g.0) (nssr_at e.0.nssrs (key_of g.0.name)) r g.2 in
    let l = of_when (not (is_empty (others h.me j.0.agents)))
    (proceeding (length b.0) g.0.name b.0 NonSpecific (others h.me j.0.agents)) r j.2 in
    let found = of_find (λ (y : Named). same_key (key_at y) (parent (key_of b.0))) g.0 e.0.entries g.1 in
    record {
      faultless = no_fault (fault_of m.request.body) a.0;
      name = b.0;
      named = b.1;
      above = g.0;
      at = (key_decides (key_at g.0) (parent (key_of b.0))).0 found.1;
      agents = others h.me j.0.agents;
      is = l.1;
    }

refused_first : (b : Bool) (x : DirError) (rest more last : List DirError)
    → first_of (((when b x ++ rest) ++ more) ++ last) ≡ None → b ≡ false
refused_first true x rest more last e = cc
refused_first false x rest more last e = refl

probing : (b : Body) (name t : Name) → fault_of b ≡ None → new_name b ≡ Some name → key_of t ≡ key_of name
    → is_probe b t ≡ true
probing (Read n selection) name t f e k = cc
probing (Compare n assertion) name t f e k = cc
probing (ListBelow n) name t f e k = cc
probing (Search base subset g selection) name t f e k = cc
probing (AddEntry n attributes) name t f e k = go (same_name (name_above n) t) refl
  where
    long : nat_lt (length n) 2 ≡ false
    long = refused_first (nat_lt (length n) 2) (UpdateProblem naming_violation)
        (flat_map value_refusals (given (AddEntry n attributes))) (repeat_refusals (AddEntry n attributes))
        (added_refusals (AddEntry n attributes)) f

    go : (b : Bool) → same_name (name_above n) t ≡ b → not b ≡ true
    go false q = refl
    go true q =
        let is : n ≡ name = cc in
        let up : key_of (name_above n) ≡ key_of t = (key_decides (key_of (name_above n)) (key_of t)).0 q in
        let same : length (name_above n) ≡ length n =
        sym (key_length (name_above n)) ∙ ap length (up ∙ k ∙ ap key_of (sym is)) ∙ key_length n in
        let cut : length (name_above n) ≤ length n - 1 = omega (arith, length-take (length n - 1) n) in
        let none : length n ≡ 0 = omega arith in
        let short : nat_lt (length n) 2 ≡ true = (less_decides (length n) 2).1 (omega arith) in
        absurd (false_true (sym long ∙ short))
probing (RemoveEntry n) name t f e k = cc
probing (ModifyEntry n changes) name t f e k = cc
probing (ModifyDn n rdn drops) name t f e k = by (same_name (name_above n ++ rdn ∷ []) n) refl e
  where
    by : (b : Bool) → same_name (name_above n ++ rdn ∷ []) n ≡ b
        → (if b then None else Some (name_above n ++ rdn ∷ [])) ≡ Some name → not (same_name n t) ≡ true
    by true q g = cc
    by false q g = go (same_name n t) refl
      where
        go : (b : Bool) → same_name n t ≡ b → not b ≡ true
        go false z = refl
        go true z =
            let is : name_above n ++ rdn ∷ [] ≡ name = cc in
            let up : key_of n ≡ key_of t = (key_decides (key_of n) (key_of t)).0 z in
            absurd (false_true (sym q
            ∙ (key_decides (key_of (name_above n ++ rdn ∷ [])) (key_of n)).1 (ap key_of is ∙ sym k ∙ sym up)))

-- its target is the new name
target_key : (h : Holdings) (m : Chained) (r : Reference) (x : Probe h m r) → key_of r.target ≡ key_of x.name
target_key h m r x =
    let c : length (key_of x.name) ≡ length x.name = key_length x.name in
    let e : length (key_at x.above) ≡ length (parent (key_of x.name)) = ap length x.at in
    let el : length (key_at x.above) ≡ length x.above.name = key_length x.above.name in
    let le : length x.name - 1 ≤ length x.above.name = long x.name x.above.name (sym el ∙ e) in
    ap (λ (y : Reference). key_of y.target) x.is
    ∙ respelled_key (length x.name - 1) x.above.name x.name le
    (subst (λ (y : Key). IsPrefix y (key_of x.name)) (sym x.at) (parent_is_prefix (key_of x.name)))
  where
    long : (name kept : Name) → length kept ≡ length (parent (key_of name)) → length name - 1 ≤ length kept
    long [] kept e = omega arith
    long (x ∷ xs) kept e =
        let c : length (key_of (x ∷ xs)) ≡ length (x ∷ xs) = key_length (x ∷ xs) in
        let up : length (parent (key_of (x ∷ xs))) + 1 ≡ length (key_of (x ∷ xs)) =
        parent_length (key_of (x ∷ xs)) (omega arith) in
        omega arith

abbrev request_by : Bool → Request → Name → Reference → Bool → Bool → Request
request_by user asked t r probe part =
    if probe then probe_request t else (if part then part_request user (is_wide r.kind) t asked else asked)

reads_name : (k : Hand) (r : Reference) → is_probe k.message.request.body r.target ≡ true
    → is_update (carried_for (Some k.receiver) k r).request.body ≡ false
reads_name k r e = by (is_probe k.message.request.body r.target) e
  where
    by : (b : Bool) → b ≡ true
        → is_update (request_by false k.message.request r.target r b (asks_part r)).body ≡ false
    by true q = refl
    by false q = absurd (false_true q)

-- ---- what isn't an update stays none

part_off : (wide : Bool) (t : Name) (body : Body) → is_update body ≡ false → is_update (part_body wide t body) ≡ false
part_off wide t (Read name selection) u = refl
part_off wide t (Compare name assertion) u = refl
part_off wide t (ListBelow name) u = refl
part_off wide t (Search base subset f selection) u = refl
part_off wide t (AddEntry name attributes) u = cc
part_off wide t (RemoveEntry name) u = cc
part_off wide t (ModifyEntry name changes) u = cc
part_off wide t (ModifyDn name rdn drops) u = cc

-- what is carried by the reference is no update
abbrev CarriesNone : Option ℕ → Hand → Reference → Type 0
CarriesNone from o r = is_update (carried_for from o r).request.body ≡ false

carries : (from : Option ℕ) (o : Hand) → is_update o.message.request.body ≡ false → (r : Reference)
    → CarriesNone from o r
carries from o h r = by (is_probe o.message.request.body r.target) (asks_part r)
  where
    by : (b c : Bool) → is_update (request_by (is_user from) o.message.request r.target r b c).body ≡ false
    by true c = refl
    by false true = part_off (is_wide r.kind) r.target o.message.request.body h
    by false false = h

abbrev Off : Act → Type 0
Off (Serves k reply) = is_update k.message.request.body ≡ false
Off (Follows from k reply last) = is_update k.message.request.body ≡ false
Off (Sends from o r a h) = CarriesNone from o r
Off (Tries from o r agents) = CarriesNone from o r
Off (Takes from o r h) = CarriesNone from o r
Off (Spreads from o r agents noted) = CarriesNone from o r
Off (Casts from o r reply) = CarriesNone from o r
Off (Gathers from o rs a whole) = is_update o.message.request.body ≡ false
Off (Probes k r agents noted) = CarriesNone (Some k.receiver) k r
Off (Updates k reply) = ⊥

module _ (s : Scene) (most : ℕ) where
  still : (x : Act) (i j : Journal) → Does s most x i j → Off x → j.accepted ≡ i.accepted
  still _ _ _ (loops e) ho = refl
  still _ _ _ (is_long e f) ho = refl
  still _ _ _ (done_before e f g) ho = refl
  still _ _ _ (refused x e f g h) ho = refl
  still _ _ _ (unfit e f g h i) ho = refl
  still _ _ _ (stuck a e) ho = refl
  still _ _ _ (nowhere n a e) ho = refl
  still _ _ _ (refers r a e f) ho = refl
  still _ _ _ (goes {k} r h a e f g d) ho = still _ _ _ d (carries (Some k.receiver) k ho r)
  still _ _ _ (casts {k} r y a e f g d) ho = still _ _ _ d (carries (Some k.receiver) k ho r)
  still _ _ _ (reads c a e f g) ho = refl
  still _ _ _ (reads_copy c a e f) ho = refl
  still _ _ _ (gives_parts y a e f g) ho = refl
  still _ _ _ (asks_parts y w a e f g d) ho = still _ _ _ d ho
  still _ _ _ (updates c y a e f d) ho = absurd (let g : true ≡ false = sym f ∙ ho in cc)
  still _ _ _ (not_done x e) ho = absurd ho
  still _ _ _ (does mine e f) ho = absurd ho
  still _ _ _ (probes_all mine r e f d) ho = absurd ho
  still _ _ _ (misses mine r a noted e f d) ho = absurd ho
  still _ _ _ (taken mine r a b c n y e f g d u) ho = absurd ho
  still _ _ _ (breaks mine r a b c n y e f g p q d u) ho = absurd ho
  still _ _ _ no_probe ho = refl
  still _ _ _ (clear a y e d u) ho = still _ _ _ u ho ∙ still _ _ _ d ho
  still _ _ _ (unsure a y e d u) ho = still _ _ _ u ho ∙ still _ _ _ d ho
  still _ _ _ (silent a d u) ho = still _ _ _ u ho ∙ still _ _ _ d ho
  still _ _ _ (holds_back a e) ho = refl
  still _ _ _ (spent a hb e) ho = refl
  still _ _ _ (lost a hb e f) ho = refl
  still _ _ _ (dropped a y hb e f d) ho = still _ _ _ d ho
  still _ _ _ (sends a y z hb e f d u) ho = still _ _ _ u ho ∙ still _ _ _ d ho
  still _ _ _ (final y e) ho = refl
  still _ _ _ (referral {from} {k} r h e d) ho = still _ _ _ d (carries from k ho r)
  still _ _ _ (wide_referral {from} {k} r y e d) ho = still _ _ _ d (carries from k ho r)
  still _ _ _ (unexplored a w e d) ho = still _ _ _ d ho
  still _ _ _ none_yet ho = refl
  still _ _ _ (in_vain_too a d u) ho = still _ _ _ u ho ∙ still _ _ _ d ho
  still _ _ _ (heard b c a y e d u) ho = still _ _ _ u ho ∙ still _ _ _ d ho
  still _ _ _ (unheard d) ho = still _ _ _ d ho
  still _ _ _ none_asked ho = refl
  still _ _ _ (unable_too a y e d u) ho = still _ _ _ u ho ∙ still _ _ _ d ho
  still _ _ _ (silent_too a d u) ho = still _ _ _ u ho ∙ still _ _ _ d ho
  still _ _ _ (answered b c n a y e f d u) ho = still _ _ _ u ho ∙ still _ _ _ d ho
  still _ _ _ (nobody_has d) ho = still _ _ _ d ho
  still _ _ _ (some_silent n e d) ho = still _ _ _ d ho
  still _ _ _ no_part ho = refl
  still _ _ _ (part_unheard {from} {o} r d u) ho = still _ _ _ u (carries from o ho r) ∙ still _ _ _ d ho
  still _ _ _ (part_unavailable {from} {o} r v d u) ho = still _ _ _ u (carries from o ho r) ∙ still _ _ _ d ho
  still _ _ _ (part_answered {from} {o} r c d u) ho = still _ _ _ u (carries from o ho r) ∙ still _ _ _ d ho
  still _ _ _ (part_breaks {from} {o} b c r x e d u) ho = still _ _ _ u (carries from o ho r) ∙ still _ _ _ d ho

pub probes_accept_none : ProbesAcceptNone
probes_accept_none s most k r agents noted h i j due d =
    let x : Probe h k.message r =
    probe_is h k.message r (subst (λ (rs : List Reference). In r rs) (sym due) here) in
    still s most (Probes k r agents noted) i j d
    (reads_name k r (probing k.message.request.body x.name r.target x.faultless x.named (target_key h k.message r x)))
