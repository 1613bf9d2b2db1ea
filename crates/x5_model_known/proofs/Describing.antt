-- What a file describes of an agent names agents of its world alone: each reference, NSSR and agreement of a described
-- world does, and what an agent holds is made of these.
use Rattle.std.proofs.Common.{◌≡◌, ℕ, zero, suc, ◌==◌, nat_lt, Bool, true, false, not, inl, inr, List, [], ◌∷◌, length, map, slice_get, refl, ap, subst, ◌∙◌, Option, Some, None, if◌then◌else◌}
use Rattle.std.specs.List.{filter, list_all}
use Rattle.std.specs.Option.{is_none}
use Rattle.x5_model.specs.Words.{has, in_option, some_and, distinct, is_empty}
use Rattle.x5_model.specs.Members.{In, here, there}
use Rattle.x5_model.specs.Keys.{Key, same_key, parent}
use Rattle.x5_model.specs.Values.{key_of}
use Rattle.x5_model.specs.Entries.{Named}
use Rattle.x5_model.proofs.Lists.{both_true, and_true, in_first, of_map, of_filter, of_all, all_in}
use Rattle.x5_model_tree.specs.World.{Specific, Nssr, Context, Agent, Agreement, World}
use Rattle.x5_model_tree.specs.Tree.{is_there, sorted_entries}
use Rattle.x5_model_tree.specs.Masters.{agent_at, held_contexts}
use Rattle.x5_model_tree.specs.Described.{is_entry_name, is_kept, is_rooted, is_nssr, is_context, is_agent_name, is_reference, are_references, is_agent, has_superior, is_number, is_agreement, IsDescribed}
use Rattle.x5_model_run.specs.Holdings.{Holdings}
use Rattle.x5_model_run.specs.History.{references_below, first_agreements, agreements_of, no_holdings}
use Rattle.x5_model_held.specs.Beginning.{described_context, described_copy, described_holdings, holdings_described}
use Rattle.x5_model_heard.specs.Told.{are_agents}
use Rattle.x5_model_known.specs.Holding.{access_names, references_name, nssrs_name, context_names, copy_names, superior_names, holdings_name, DescribedNameAgents, DescribedAreThemselves, DescribedNamesApart}

-- ---- what an agent holds is of the world

pub at_place : (xs : List Agent) (i : ℕ) (a : Agent) → slice_get xs i ≡ Some a → In a xs
at_place [] i a e = cc
at_place (x ∷ xs) zero a e = (let p : x ≡ a = cc in subst (λ (y : Agent). In y (x ∷ xs)) p here)
at_place (x ∷ xs) (suc i) a e = there (at_place xs i a e)

pub of_held : (before : List Key) (cs : List Context) (c : Context) → In c (held_contexts before cs) → In c cs
of_held before [] c i = elim i [ ]
of_held before (x ∷ cs) c i =
    go (has same_key before (key_of x.prefix)) i (of_held before cs c) (of_held (key_of x.prefix ∷ before) cs c)
  where
    go : (b : Bool) → In c (if b then held_contexts before cs else (x ∷ held_contexts (key_of x.prefix ∷ before) cs))
        → (In c (held_contexts before cs) → In c cs)
        → (In c (held_contexts (key_of x.prefix ∷ before) cs) → In c cs) → In c (x ∷ cs)
    go true j f g = there (f j)
    go false j f g = elim (in_first c x (held_contexts (key_of x.prefix ∷ before) cs) j) [
      | inl e ↦ subst (λ (y : Context). In c (y ∷ cs)) e here
      | inr k ↦ there (g k)
    ]

pub of_first : (before : List Key) (gs : List Agreement) (g : Agreement) → In g (first_agreements before gs) → In g gs
of_first before [] g i = elim i [ ]
of_first before (x ∷ gs) g i =
    go (has same_key before (key_of x.context)) i (of_first before gs g) (of_first (key_of x.context ∷ before) gs g)
  where
    go : (b : Bool)
        → In g (if b then first_agreements before gs else (x ∷ first_agreements (key_of x.context ∷ before) gs))
        → (In g (first_agreements before gs) → In g gs)
        → (In g (first_agreements (key_of x.context ∷ before) gs) → In g gs) → In g (x ∷ gs)
    go true j f h = there (f j)
    go false j f h = elim (in_first g x (first_agreements (key_of x.context ∷ before) gs) j) [
      | inl e ↦ subst (λ (y : Agreement). In g (y ∷ gs)) e here
      | inr k ↦ there (h k)
    ]

module _ (w : World) (described : IsDescribed w) where
  abbrev size : ℕ
  size = length w.agents

  -- ---- each reference names agents of the world

  reference_names : (k : Specific) → is_reference w k ≡ true → access_names size k.access ≡ true
  reference_names k e =
      let a = both_true (is_entry_name k.pin) _ e in
      let b = both_true (nat_lt k.access.master size) _ a.1 in
      let c = both_true (are_agents size k.access.shadows) _ b.1 in
      and_true (nat_lt k.access.master size) (are_agents size k.access.shadows) b.0 c.0

  of_references : (ks : List Specific) (k : Specific) → are_references w ks ≡ true → In k ks
      → access_names size k.access ≡ true
  of_references ks k e i =
      reference_names k (of_all (is_reference w) k ks
      (both_true (list_all (is_reference w) ks) (distinct same_key (map (λ r. key_of r.pin) ks)) e).0 i)

  pub all_references : (ks : List Specific) → ((k : Specific) → In k ks → access_names size k.access ≡ true)
      → references_name size ks ≡ true
  all_references ks f = all_in (λ (k : Specific). access_names size k.access) ks f

  pub nssrs_of : (c : Context) → is_context w c ≡ true → nssrs_name size c.nssrs ≡ true
  nssrs_of c e =
      let a = both_true (is_rooted c c.entries) _ e in
      let b = both_true (list_all is_kept c.entries) _ a.1 in
      let d = both_true (list_all (is_nssr w c) c.nssrs) _ b.1 in
      all_in (λ (x : Nssr). are_agents size x.agents) c.nssrs
      (λ x i. (let f = both_true (is_there c.entries (key_of x.at)) _ (of_all (is_nssr w c) x c.nssrs d.0 i) in
      (both_true (not (is_empty x.agents)) (are_agents size x.agents) f.1).1))

  -- ---- an agent

  superior_there : (a : Agent) → has_superior w a ≡ true → superior_names size a.superior ≡ true
  superior_there a e = by a.superior e
    where
      by : (s : Option ℕ) → not (some_and (λ x. not (nat_lt x size)) s) ≡ true → superior_names size s ≡ true
      by None f = refl
      by (Some x) f = twice (nat_lt x size) f
        where
          twice : (b : Bool) → not (not b) ≡ true → b ≡ true
          twice true g = refl
          twice false g = g

  pub record Known (a : Agent) : Type 0 where
    pub superior : superior_names size a.superior ≡ true
    pub contexts : (c : Context) → In c a.contexts → is_context w c ≡ true
    pub subordinate : (k : Specific) → In k a.subordinate → access_names size k.access ≡ true
    pub cross : (k : Specific) → In k a.cross → access_names size k.access ≡ true

  pub known : (a : Agent) → In a w.agents → Known a
  known a i =
      let e = of_all (is_agent w) a w.agents described.agents i in
      let b = both_true (is_agent_name a.name) _ e in
      let c = both_true (list_all (is_context w) a.contexts) _ b.1 in
      let d = both_true (are_references w a.subordinate) (are_references w a.cross) c.1 in
      record {
        superior = superior_there a (of_all (has_superior w) a w.agents described.superiors i);
        contexts = λ x j. of_all (is_context w) x a.contexts c.0 j;
        subordinate = λ k j. of_references a.subordinate k d.0 j;
        cross = λ k j. of_references a.cross k d.1 j;
      }

  abbrev is_below : List Named → Specific → Bool
  is_below entries k = is_there entries (parent (key_of k.pin))

  pub below_names : (a : Agent) (entries : List Named) → Known a
      → references_name size (references_below entries a.subordinate) ≡ true
  below_names a entries k =
      all_references (references_below entries a.subordinate)
      (λ x i. k.subordinate x (of_filter (is_below entries) x a.subordinate i).0)

  own_names : (a : Agent) → Known a
      → list_all (context_names size) (map (described_context a.subordinate) (held_contexts [] a.contexts)) ≡ true
  own_names a k =
      all_in (context_names size) (map (described_context a.subordinate) (held_contexts [] a.contexts))
      (λ c i.
      let x = of_map (described_context a.subordinate) c (held_contexts [] a.contexts) i in
      ap (context_names size) x.2
      ∙ and_true (references_name size (references_below (sorted_entries x.0.entries) a.subordinate))
      (nssrs_name size x.0.nssrs)
      (below_names a (sorted_entries x.0.entries) k)
      (nssrs_of x.0 (k.contexts x.0 (of_held [] a.contexts x.0 x.1))))

  pub supplier_there : (g : Agreement) → is_agreement w g ≡ true → nat_lt g.supplier size ≡ true
  supplier_there g e =
      let a = both_true (is_number g.number) _ e in
      let b = both_true (is_entry_name g.context) _ a.1 in
      (both_true (nat_lt g.supplier size) (nat_lt g.consumer size) b.1).0

  copies_name : (me : ℕ) → list_all (copy_names size) (map described_copy (agreements_of w me)) ≡ true
  copies_name me =
      all_in (copy_names size) (map described_copy (agreements_of w me))
      (λ c i.
      let x = of_map described_copy c (agreements_of w me) i in
      let j = of_first [] (filter (λ g. g.consumer == me) w.agreements) x.0 x.1 in
      let l = of_filter (λ (g : Agreement). g.consumer == me) x.0 w.agreements j in
      ap (copy_names size) x.2
      ∙ and_true (nat_lt x.0.supplier size) true
      (supplier_there x.0 (of_all (is_agreement w) x.0 w.agreements described.agreements l.0)) refl)

  pub root_names : (a : Agent) → Known a → (b : Bool)
      → references_name size (if b then filter (λ k. length k.pin == 1) a.subordinate else []) ≡ true
  root_names a k true =
      all_references (filter (λ k. length k.pin == 1) a.subordinate)
      (λ x i. k.subordinate x (of_filter (λ (y : Specific). length y.pin == 1) x a.subordinate i).0)
  root_names a k false = refl

  agent_names : (me : ℕ) (a : Agent) → Known a → holdings_name size (described_holdings w me a) ≡ true
  agent_names me a k =
      let h : Holdings = described_holdings w me a in
      and_true (superior_names size h.superior) _ k.superior
      (and_true (list_all (context_names size) h.own) _ (own_names a k)
      (and_true (list_all (copy_names size) h.copies) _ (copies_name me)
      (and_true (references_name size h.root) (references_name size h.cross) (root_names a k (is_none a.superior))
      (all_references a.cross k.cross))))

  names_agents : (me : ℕ) → holdings_name size (holdings_described w me) ≡ true
  names_agents me = by (agent_at w me) refl
    where
      by : (x : Option Agent) → agent_at w me ≡ x
          → holdings_name size (in_option (no_holdings me) (described_holdings w me) x) ≡ true
      by None e = refl
      by (Some a) e = agent_names me a (known a (at_place w.agents me a e))

pub described_name_agents : DescribedNameAgents
described_name_agents w me d = names_agents w d me

pub described_are_themselves : DescribedAreThemselves
described_are_themselves w me = by (agent_at w me)
  where
    by : (x : Option Agent) → (in_option (no_holdings me) (described_holdings w me) x).me ≡ me
    by None = refl
    by (Some a) = refl

pub described_names_apart : DescribedNamesApart
described_names_apart w d = d.names_apart
