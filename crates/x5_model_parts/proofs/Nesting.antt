-- A part begins where it is asked for; what it needs lies within it; and it asks for the same entries.
use Rattle.std.proofs.Common.{◌≡◌, ℕ, ◌<◌, Bool, true, false, not, ◌&&◌, ◌||◌, ◌⊎◌, inl, inr, List, [], ◌∷◌, length, map, refl, sym, ap, subst, ◌∙◌, Option, Some, if◌then◌else◌}
use Rattle.std.specs.List.{filter}
use Rattle.std.specs.Option.{is_some}
use Rattle.x5_model.specs.Words.{is_empty, in_option}
use Rattle.x5_model.specs.Members.{In, here}
use Rattle.x5_model.specs.Keys.{Key, IsPrefix, parent, same_key, is_child}
use Rattle.x5_model.specs.Values.{key_of}
use Rattle.x5_model.specs.Requests.{Subset}
use Rattle.x5_model.specs.References.{Progress, Reference, Chained}
use Rattle.x5_model.proofs.KeyLaws.{key_decides}
use Rattle.x5_model.proofs.Lists.{or_left, or_right, of_map, of_flat, in_filter}
use Rattle.x5_model.proofs.Prefixes.{prefix_chain, parent_is_prefix, child_decides}
use Rattle.x5_model_tree.specs.World.{Agent, World}
use Rattle.x5_model_tree.specs.Masters.{Mastered, pin_of, numbered, agent_at}
use Rattle.x5_model_tree.specs.Ask.{in_subset}
use Rattle.x5_model_run.specs.Journal.{Line, is_done, is_wide}
use Rattle.x5_model_run.specs.Holdings.{Held, Holdings, served, may_copy}
use Rattle.x5_model_run.specs.Needs.{subset_of, begins_at, answers_root, is_excluded}
use Rattle.x5_model_run.specs.History.{Point, knowledge_at, tree_at, agent_holdings, no_holdings, holdings_at}
use Rattle.x5_model_run.specs.Chain.{IsCarried}
use Rattle.x5_model_run.specs.Covers.{covered_roots, covers}
use Rattle.x5_model_theory.specs.Knowledge.{Knowledge, Area, Spot}
use Rattle.x5_model_theory.specs.Scopes.{Look, IsEvaluated, IsTreated}
use Rattle.x5_model_theory.specs.Looking.{narrowed}
use Rattle.x5_model_theory.proofs.Places.{at_agent}
use Rattle.x5_model_theory.proofs.Views.{at_place}
use Rattle.x5_model_theory.proofs.Scoping.{is_context, below_start, nssr_entry}
use Rattle.x5_model_theory.proofs.LooksFrom.{same_entries, same_wide_entries}
use Rattle.x5_model_parts.specs.Standing.{knowledge_now}
use Rattle.x5_model_parts.specs.Parts.{begins_here, BeginsHere, rest_needs, PartsBegin, PartsGoOn, NeedsAreNested, asks_for, SameAreAsked}
use Rattle.x5_model_parts.proofs.Asking.{false_true, subset_decides, rdn_keys}
use Rattle.x5_model_parts.proofs.Seeing.{Sees}
use Rattle.x5_model_parts.proofs.Spots.{none_or_some}
use Rattle.x5_model_parts.proofs.Touching.{only_one}
use Rattle.x5_model_parts.proofs.Needing.{IsTo, IsAmong}
use Rattle.x5_model_parts.proofs.Covering.{covers_decides, roots_of_specific, of_wide_root, wide_root, root_area}
use Rattle.x5_model_parts.proofs.Owning.{area_of_mastered, mastered_of_area, own_kept, own_in}
use Rattle.x5_model_parts.proofs.Parting.{same_bool, excluded_by, part_fitting, target_is, exclusions_are, no_copies, narrow_asked, wide_asked}
use Rattle.x5_model_parts.proofs.Joining.{sight, View, the_view, asks, the_agent, not_base}

module _ (p : Point) (l : Line) (b : BeginsHere p l) where
  abbrev w : World
  w = knowledge_at p

  abbrev k : Knowledge
  k = knowledge_now p

  abbrev look : Look
  look = (sight p l b).look

  abbrev s : Sees (knowledge_at p) (tree_at p) (knowledge_now p) l.receiver (holdings_at p l.receiver) l.message (sight p l b).look
  s = (sight p l b).sees_it

  abbrev To : Reference → Area → Type 0
  To r pin = IsTo (knowledge_at p) (tree_at p) (knowledge_now p) l.receiver (holdings_at p l.receiver) l.message (sight p l b).look (sight p l b).sees_it r pin

  abbrev Among : Reference → Spot → ℕ → Type 0
  Among r n a = IsAmong (knowledge_at p) (tree_at p) (knowledge_now p) l.receiver (holdings_at p l.receiver) l.message (sight p l b).look (sight p l b).sees_it r n a

  abbrev Viewed : Reference → Type 0
  Viewed r = ((pin : Area) × To r pin) ⊎ ((n : Spot) × (a : ℕ) × Among r n a)

  -- ---- a part begins

  -- who is asked masters a context
  asked_masters : may_copy l.message.request ≡ false → (r : Reference) (a : ℕ) → Viewed r → In a r.agents → (d : Area) × In d k.areas × (d.master ≡ a)
  asked_masters none r a (inl v) i = (v.0, v.1.area, sym (v.1.agents a i none))
  asked_masters none r a (inr v) i =
      let same : a ≡ v.1 = the_agent p l b r v.0 v.1 a v.2 i in
      let n = v.2.needs in
      let area : In n.above look.knowledge.areas = is_context look s.may n.above n.evaluated in
      let full : 0 < length n.above.prefix = nssr_full n.above n.evaluated n.nssr in
      let m = b.stands.coherent.nssr_masters n.above v.0 v.1 (s.outside n.above area full) n.nssr n.listed in
      (m.0, m.1, m.2 ∙ sym same)
    where
      -- the root has no NSSR
      nssr_full : (d : Area) → IsEvaluated (sight p l b).look d → In v.0 d.nssrs → 0 < length d.prefix
      nssr_full d e j = elim (none_or_some (length d.prefix)) [ inl z ↦ absurd ((s.root_tells d e z).1 v.0 j) | inr f ↦ f ]

  an_agent : (a : ℕ) (d : Area) → In d k.areas → d.master ≡ a → (agent : Agent) × In (a, agent) (numbered w) × (agent_at w a ≡ Some agent)
  an_agent a d i e =
      let x = mastered_of_area p b.stands d i in
      let y = of_flat (λ (z : ℕ × Agent). map (at_agent z.0) z.1.contexts) x.0 (numbered w) x.1 in
      let c = of_map (at_agent y.0.0) x.0 y.0.1.contexts y.2 in
      let place : y.0.0 ≡ a = ap (λ (z : Mastered). z.master) (sym c.2) ∙ x.3 ∙ e in
      let at : In (a, y.0.1) (numbered w) = subst (λ (n : ℕ). In (n, y.0.1) (numbered w)) place y.1 in
      (y.0.1, at, at_place w a y.0.1 at)

  not_empty : {A : Type 0} (x : A) (xs : List A) → In x xs → not (is_empty xs) ≡ true
  not_empty x [] i = elim i [ ]
  not_empty x (y ∷ xs) i = refl

  abbrev begins_by : Holdings → Chained → Subset → Bool
  begins_by h m sub = (is_done m.progress && is_wide m.kind) || (answers_root h m || not (is_empty (begins_at h m sub)))

  begins_with : (h : Holdings) (m : Chained) (sub : Subset) → subset_of m ≡ Some sub → begins_by h m sub ≡ true → begins_here h m ≡ true
  begins_with h m sub e t = ap (λ (x : Option Subset). in_option false (begins_by h m) x) e ∙ t

  begins_there : may_copy l.message.request ≡ false → (sender : Option ℕ) (r : Reference) (m : Chained) (a : ℕ) (v : Viewed r) → In a r.agents → IsCarried sender l r m → (agent : Agent) → In (a, agent) (numbered w) → begins_here (agent_holdings p a agent) m ≡ true
  begins_there none sender r m a (inr v) i carried agent ia =
      let wide : is_wide r.kind ≡ true = ap is_wide v.2.kind in
      let done : (is_done m.progress && is_wide m.kind) ≡ true = ap (λ (x : Progress). is_done x && is_wide m.kind) (carried.progress_is ∙ v.2.progress) ∙ ap is_wide carried.kind_is ∙ wide in
      begins_with (agent_holdings p a agent) m look.subset (wide_asked l sender r m carried (asks p l b r (inr v)) look.subset s.subset wide (not_base p l b v.0 look.subset look.base v.2.needs.in_scope))
      (or_left _ _ done)
  begins_there none sender r m a (inl v) i carried agent ia =
      let narrow : is_wide r.kind ≡ false = ap is_wide v.1.kind in
      let master : v.0.master ≡ a = sym (v.1.agents a i none) in
      let c = own_kept p b.stands a agent ia v.0 v.1.area master in
      let target : key_of m.target ≡ v.0.prefix = sym (target_is l sender r m carried (asks p l b r (inl v)) look.subset s.subset) ∙ v.1.target in
      let sub : Subset = narrowed look.subset in
      let inside : In c.0 (filter (λ (x : Held). same_key (key_of x.prefix) (key_of m.target)) (served m.request (agent_holdings p a agent))) =
      in_filter (λ (x : Held). same_key (key_of x.prefix) (key_of m.target)) c.0 (served m.request (agent_holdings p a agent)) (own_in p b.stands a agent ia m.request c.0 c.1)
      ((key_decides (key_of c.0.prefix) (key_of m.target)).1 (c.2 ∙ sym target)) in
      let begins : In c.0 (begins_at (agent_holdings p a agent) m sub) =
      subst (λ (x : Progress). In c.0 (begins_at (agent_holdings p a agent) (record m { progress = x }) sub)) (sym (carried.progress_is ∙ v.1.progress))
      (subst (λ (x : Bool). In c.0 (if x
      then filter (λ (x : Held). is_child (key_of m.target) (key_of x.prefix) && (in_subset sub (key_of m.target) (key_of x.prefix) && not (is_excluded m.exclusions x.prefix))) (agent_holdings p a agent).own
      else filter (λ (x : Held). same_key (key_of x.prefix) (key_of m.target)) (served m.request (agent_holdings p a agent)))) (sym (ap is_wide carried.kind_is ∙ narrow)) inside) in
      begins_with (agent_holdings p a agent) m sub (narrow_asked l sender r m carried (asks p l b r (inl v)) look.subset s.subset v.1.progress narrow)
      (or_right _ _ (or_right _ _ (not_empty c.0 (begins_at (agent_holdings p a agent) m sub) begins)))

  pub part_begins : may_copy l.message.request ≡ false → (sender : Option ℕ) (r : Reference) (q : Line) → In r (rest_needs p l) → In q.receiver r.agents → IsCarried sender l r q.message → BeginsHere p q
  part_begins none sender r q i ia carried =
      let v : Viewed r = the_view p l b r i in
      let d = asked_masters none r q.receiver v ia in
      let a = an_agent q.receiver d.0 d.1 d.2 in
      let part = asks p l b r v in
      record {
        stands = b.stands;
        agent = ap is_some a.2;
        fit = part_fitting l sender r q.message carried part look.subset s.subset;
        begins = subst (λ (h : Holdings). begins_here h q.message ≡ true) (sym (ap (λ (x : Option Agent). in_option (no_holdings q.receiver) (agent_holdings p q.receiver) x) a.2)) (begins_there none sender r q.message q.receiver v ia carried a.0 a.1);
        copies = inl (no_copies l sender r q.message carried part look.subset s.subset none);
      }

  pub part_goes_on : (sender : Option ℕ) (r : Reference) (q : Line) → In r (rest_needs p l) → IsCarried sender l r q.message → is_some (agent_at (knowledge_at p) q.receiver) ≡ true → begins_here (holdings_at p q.receiver) q.message ≡ true → BeginsHere p q
  part_goes_on sender r q i carried agent begins =
      let part = asks p l b r (the_view p l b r i) in
      record {
        stands = b.stands;
        agent = agent;
        fit = part_fitting l sender r q.message carried part look.subset s.subset;
        begins = begins;
        copies = elim b.copies [ inl none ↦ inl (no_copies l sender r q.message carried part look.subset s.subset none) | inr stood ↦ inr stood ];
      }

  -- ---- what it needs lies within it

  -- a start of the part is covered by the reference
  start_covered : (sender : Option ℕ) (r : Reference) (q : Line) (v : Viewed r) → In q.receiver r.agents → IsCarried sender l r q.message → (c : BeginsHere p q) → (d : Area) → In d (sight p q c).look.starts → In d.prefix (covered_roots w r)
  start_covered sender r q (inl v) ia carried c d i =
      let done : is_done q.message.progress ≡ true = ap is_done (carried.progress_is ∙ v.1.progress) in
      let narrow : is_wide q.message.kind ≡ false = ap is_wide (carried.kind_is ∙ v.1.kind) in
      let at : d.prefix ≡ key_of q.message.target = (sight p q c).sees_it.pin_start done narrow d i in
      let target : key_of q.message.target ≡ v.0.prefix = sym (target_is l sender r q.message carried (asks p l b r (inl v)) look.subset s.subset) ∙ v.1.target in
      subst (λ (xs : List Key). In d.prefix xs) (sym (roots_of_specific (knowledge_at p) (tree_at p) (knowledge_now p) l.receiver (holdings_at p l.receiver) l.message look s r v.0 v.1))
      (subst (λ (x : Key). In d.prefix (x ∷ [])) (at ∙ target) here)
  start_covered sender r q (inr v) ia carried c d i =
      let done : is_done q.message.progress ≡ true = ap is_done (carried.progress_is ∙ v.2.progress) in
      let wide : is_wide q.message.kind ≡ true = ap is_wide (carried.kind_is ∙ v.2.kind) in
      let x = (sight p q c).sees_it.wide_start done wide d i in
      let part = asks p l b r (inr v) in
      let target : key_of q.message.target ≡ v.0.at = sym (target_is l sender r q.message carried part look.subset s.subset) ∙ v.2.target in
      let excl : rdn_keys r.exclusions ≡ rdn_keys q.message.exclusions = exclusions_are l sender r q.message carried part look.subset s.subset in
      let y = area_of_mastered p b.stands x.0 x.1 in
      let child = (child_decides (key_of q.message.target) (pin_of x.0)).0 x.4 in
      let up : parent y.0.prefix ≡ v.0.at = ap parent y.2 ∙ child.1 ∙ target in
      let free : IsTreated look y.0.prefix → ⊥ = λ treated.
      false_true (sym x.5 ∙ excluded_by r.exclusions q.message.exclusions x.0.context.prefix excl ((v.2.excluded y.0 x.0.context.prefix y.1 up (sym y.2)).1 treated)) in
      let agent : y.0.master ≡ v.1 = y.3 ∙ x.3 ∙ the_agent p l b r v.0 v.1 q.receiver v.2 ia in
      subst (λ (z : Key). In z (covered_roots w r)) (y.2 ∙ x.2)
      (wide_root (knowledge_at p) (tree_at p) (knowledge_now p) l.receiver (holdings_at p l.receiver) l.message look s r v.0 v.1 v.2 y.0 (s.inside y.0 y.1, b.stands.coherent.filled y.0 y.1, agent, up, free))

  pub within : (sender : Option ℕ) (r : Reference) (q : Line) (v : Viewed r) → In q.receiver r.agents → IsCarried sender l r q.message → (c : BeginsHere p q) → (above : Area) (x : Key) → IsEvaluated (sight p q c).look above → In (parent x) above.entries → covers w r x ≡ true
  within sender r q v ia carried c above x e up =
      let f = (sight p q c).sees_it in
      let d = below_start (sight p q c).look f.may above e in
      let on : IsPrefix above.prefix (parent x) = f.may.laid.below above (parent x) (is_context (sight p q c).look f.may above e) up in
      (covers_decides w r x).1 (d.0.prefix, start_covered sender r q v ia carried c d.0 d.1, prefix_chain d.0.prefix (parent x) x (prefix_chain d.0.prefix above.prefix (parent x) d.2 on) (parent_is_prefix x))

pub parts_begin : PartsBegin
parts_begin p l q sender r b none i ia carried = part_begins p l b none sender r q i ia carried

pub parts_go_on : PartsGoOn
parts_go_on p l q sender r b i carried agent begins = part_goes_on p l b sender r q i carried agent begins

pub needs_are_nested : NeedsAreNested
needs_are_nested p l q sender r u x b i ia carried c iu ix = go c (the_view p q c u iu)
  where
    go : (c : BeginsHere p q) → View p q c u → covers (knowledge_at p) r x ≡ true
    go c (inl v) =
        let f = (sight p q c).sees_it in
        let d = root_area (knowledge_at p) (tree_at p) (knowledge_now p) q.receiver (holdings_at p q.receiver) q.message (sight p q c).look f u (inl v) x ix in
        let same : v.0.prefix ≡ x = sym (only_one v.0.prefix x (subst (λ (xs : List Key). In x xs) (roots_of_specific (knowledge_at p) (tree_at p) (knowledge_now p) q.receiver (holdings_at p q.receiver) q.message (sight p q c).look f u v.0 v.1) ix)) in
        subst (λ (y : Key). covers (knowledge_at p) r y ≡ true) same (within p l b sender r q (the_view p l b r i) ia carried c v.1.needs.above v.0.prefix v.1.needs.evaluated v.1.needs.just_below)
    go c (inr v) =
        let f = (sight p q c).sees_it in
        let d = of_wide_root (knowledge_at p) (tree_at p) (knowledge_now p) q.receiver (holdings_at p q.receiver) q.message (sight p q c).look f u v.0 v.1 v.2 x ix in
        subst (λ (y : Key). covers (knowledge_at p) r y ≡ true) d.3
        (within p l b sender r q (the_view p l b r i) ia carried c v.2.needs.above d.0.prefix v.2.needs.evaluated (nssr_entry (sight p q c).look f.may v.0 v.1 d.0.prefix v.2.needs d.1.3))

-- ---- it asks for the same entries

pub same_are_asked : SameAreAsked
same_are_asked p l sender r m e b i carried cov =
    go (the_view p l b r i)
  where
    look : Look
    look = (sight p l b).look

    root : (x : Key) × In x (covered_roots (knowledge_at p) r) × IsPrefix x e
    root = (covers_decides (knowledge_at p) r e).0 cov

    whole : asks_for l.message e ≡ in_subset (sight p l b).look.subset (key_of l.message.target) e
    whole = ap (λ (x : Option Subset). in_option false (λ (sub : Subset). in_subset sub (key_of l.message.target) e) x) (sight p l b).sees_it.subset

    base : (sight p l b).look.base ≡ key_of l.message.target
    base = (sight p l b).sees_it.base

    part_of : (sub : Subset) → subset_of m ≡ Some sub → asks_for m e ≡ in_subset sub (key_of m.target) e
    part_of sub f = ap (λ (x : Option Subset). in_option false (λ (sub : Subset). in_subset sub (key_of m.target) e) x) f

    go : View p l b r → asks_for m e ≡ asks_for l.message e
    go (inl v) =
        let s = (sight p l b).sees_it in
        let part = asks p l b r (inl v) in
        let narrow : is_wide r.kind ≡ false = ap is_wide v.1.kind in
        let target : key_of m.target ≡ v.0.prefix = sym (target_is l sender r m carried part (sight p l b).look.subset s.subset) ∙ v.1.target in
        let at : root.0 ≡ v.0.prefix = only_one v.0.prefix root.0 (subst (λ (xs : List Key). In root.0 xs) (roots_of_specific (knowledge_at p) (tree_at p) (knowledge_now p) l.receiver (holdings_at p l.receiver) l.message (sight p l b).look s r v.0 v.1) root.1) in
        let on : IsPrefix v.0.prefix e = subst (λ (x : Key). IsPrefix x e) at root.2 in
        let both = same_entries (sight p l b).look v.0 v.0 e v.1.needs on in
        let equal : in_subset (narrowed (sight p l b).look.subset) v.0.prefix e ≡ in_subset (sight p l b).look.subset (sight p l b).look.base e =
        same_bool _ _ (subset_decides (narrowed (sight p l b).look.subset) v.0.prefix e) (subset_decides (sight p l b).look.subset (sight p l b).look.base e) (both.1, both.0) in
        part_of (narrowed (sight p l b).look.subset) (narrow_asked l sender r m carried part (sight p l b).look.subset s.subset v.1.progress narrow)
        ∙ ap (λ (x : Key). in_subset (narrowed (sight p l b).look.subset) x e) target
        ∙ equal ∙ ap (λ (x : Key). in_subset (sight p l b).look.subset x e) base ∙ sym whole
    go (inr v) =
        let s = (sight p l b).sees_it in
        let part = asks p l b r (inr v) in
        let wide : is_wide r.kind ≡ true = ap is_wide v.2.kind in
        let target : key_of m.target ≡ v.0.at = sym (target_is l sender r m carried part (sight p l b).look.subset s.subset) ∙ v.2.target in
        let d = of_wide_root (knowledge_at p) (tree_at p) (knowledge_now p) l.receiver (holdings_at p l.receiver) l.message (sight p l b).look s r v.0 v.1 v.2 root.0 root.1 in
        let on : IsPrefix v.0.at e =
        prefix_chain v.0.at root.0 e (subst (λ (x : Key). IsPrefix v.0.at x) d.3 (subst (λ (x : Key). IsPrefix x d.0.prefix) d.1.3 (parent_is_prefix d.0.prefix))) root.2 in
        let both = same_wide_entries (sight p l b).look v.0 v.1 e v.2.needs on in
        let equal : in_subset (sight p l b).look.subset v.0.at e ≡ in_subset (sight p l b).look.subset (sight p l b).look.base e =
        same_bool _ _ (subset_decides (sight p l b).look.subset v.0.at e) (subset_decides (sight p l b).look.subset (sight p l b).look.base e) (both.1, both.0) in
        part_of (sight p l b).look.subset (wide_asked l sender r m carried part (sight p l b).look.subset s.subset wide (not_base p l b v.0 (sight p l b).look.subset (sight p l b).look.base v.2.needs.in_scope))
        ∙ ap (λ (x : Key). in_subset (sight p l b).look.subset x e) target
        ∙ equal ∙ ap (λ (x : Key). in_subset (sight p l b).look.subset x e) base ∙ sym whole
