-- At a line agents hold the same knowledge as at first, with other entries. What was sent of a copy is the knowledge that
-- goes with a mastered context, and for a pin that its master masters too a reference to that master alone.
use Rattle.std.proofs.Common.{◌≡◌, ℕ, ◌==◌, nat_lt, Bool, true, not, ◌&&◌, ◌⊎◌, inl, inr, List, [], map, length, refl, ap, ◌∙◌, Option, Some, None}
use Rattle.std.specs.List.{filter, list_all}
use Rattle.std.specs.Option.{is_none}
use Rattle.std.proofs.lemmas.Bool.{lt-ltb}
use Rattle.std.proofs.lemmas.Option.{slice_get_within}
use Rattle.x5_model.specs.Words.{in_option}
use Rattle.x5_model.specs.Members.{In}
use Rattle.x5_model.specs.Keys.{same_key, parent}
use Rattle.x5_model.specs.Values.{key_of}
use Rattle.x5_model.specs.Entries.{Named}
use Rattle.x5_model.proofs.Lists.{both_true, and_true, in_either, of_map, of_filter, of_find, of_all, all_in}
use Rattle.x5_model_tree.specs.World.{Specific, Nssr, Context, Agent, Agreement, World}
use Rattle.x5_model_tree.specs.Tree.{is_there, part}
use Rattle.x5_model_tree.specs.Masters.{Mastered, pin_of, mastered, masters, agent_at, held_contexts}
use Rattle.x5_model_tree.specs.Described.{is_stored, is_stored_entry, is_stored_context, is_stored_agent, is_agreement, IsDescribed}
use Rattle.x5_model_tree.proofs.Gives.{owner_of}
use Rattle.x5_model_theory.proofs.Views.{at_place as agent_is}
use Rattle.x5_model_run.specs.Holdings.{Held, Copy, Holdings}
use Rattle.x5_model_run.specs.History.{Point, knowledge_at, tree_at, tree_of_moment, as_of, references_below, own_context, sent_references, mastered_at, copy_as_of, copy_by, agreements_of, agent_holdings, no_holdings, holdings_at}
use Rattle.x5_model_known.specs.Holding.{access_names, references_name, nssrs_name, context_names, copy_names, superior_names, holdings_name}
use Rattle.x5_model_known.specs.Counted.{is_counted, references_counted, nssrs_counted, context_counted, copy_counted, holdings_counted}
use Rattle.x5_model_known.specs.AtLines.{LinesNameAgents, LinesCounted, LinesAreThemselves}
use Rattle.x5_model_known.proofs.Describing.{Known, known, all_references, below_names, nssrs_of, root_names, supplier_there, at_place, of_held, of_first}
use Rattle.x5_model_known.proofs.Counted.{stored_counted, all_counted, subordinate, cross, contexts, root_of}

module _ (p : Point) (described : IsDescribed (knowledge_at p)) where
  abbrev w : World
  w = knowledge_at p

  abbrev size : ℕ
  size = length w.agents

  -- ---- what is sent of a context

  -- a pin that is mastered with it, by its master; or a reference of the master
  record IsMastered (c : Mastered) (k : Specific) : Type 0 where
    lower : Mastered
    is : In lower (mastered w)
    same : k ≡ record { pin = lower.context.prefix; access = record { master = c.master; shadows = [] } }

  record IsKnown (k : Specific) : Type 0 where
    agent : Agent
    is : In agent w.agents
    its : In k agent.subordinate

  sent_from : (c : Mastered) (entries : List Named) (k : Specific) → In k (sent_references w c entries)
      → IsMastered c k ⊎ IsKnown k
  sent_from c entries k i =
      elim (in_either k (map by_master (filter is_lower (mastered w))) (by_agent (agent_at w c.master)) i) [
        | inl j ↦ (let x = of_map by_master k (filter is_lower (mastered w)) j in
            inl (record { lower = x.0; is = (of_filter is_lower x.0 (mastered w) x.1).0; same = x.2 }))
        | inr j ↦ inr (others (agent_at w c.master) refl j)
      ]
    where
      is_lower : Mastered → Bool
      is_lower d = (d.master == c.master) && is_there entries (parent (pin_of d))

      by_master : Mastered → Specific
      by_master d = record { pin = d.context.prefix; access = record { master = c.master; shadows = [] } }

      is_other : Specific → Bool
      is_other k = not (masters w c.master (key_of k.pin))

      by_agent : Option Agent → List Specific
      by_agent o = in_option [] (λ a. filter is_other (references_below entries a.subordinate)) o

      others : (o : Option Agent) → agent_at w c.master ≡ o → In k (by_agent o) → IsKnown k
      others None e j = elim j [ ]
      others (Some a) e j =
          let l = (of_filter is_other k (references_below entries a.subordinate) j).0 in
          record {
            agent = a;
            is = at_place w.agents c.master a e;
            its = (of_filter (λ (x : Specific). is_there entries (parent (key_of x.pin))) k a.subordinate l).0;
          }

  -- its agent
  record Owner (c : Mastered) : Type 0 where
    agent : Agent
    at : agent_at w c.master ≡ Some agent
    is : In agent w.agents
    its : In c.context agent.contexts

  owner : (c : Mastered) → In c (mastered w) → Owner c
  owner c i =
      let o = owner_of w c i in
      let at : agent_at w c.master ≡ Some o.0 = agent_is w c.master o.0 o.1 in
      record { agent = o.0; at = at; is = at_place w.agents c.master o.0 at; its = o.2 }

  -- a copy's knowledge is none, or what was sent of a mastered context
  copy_is : (P : Held → Type 0) (g : Agreement) (x : Option ℕ)
      → ((entries : List Named) → P (record { prefix = g.context; entries = entries; subordinate = []; nssrs = [] }))
      → ((c : Mastered) (entries : List Named) → In c (mastered w)
      → P (record { prefix = g.context; entries = entries; subordinate = sent_references w c entries; nssrs = c.context.nssrs }))
      → P (copy_as_of p g x)
  copy_is P g None bare sent = bare []
  copy_is P g (Some m) bare sent = by (mastered_at w (key_of g.context)) refl
    where
      entries : List Named
      entries = part (tree_of_moment p m) (key_of g.context)

      by : (o : Option Mastered) → mastered_at w (key_of g.context) ≡ o
          → P (in_option (record { prefix = g.context; entries = entries; subordinate = []; nssrs = [] })
          (λ c. record { prefix = g.context; entries = entries; subordinate = sent_references w c entries; nssrs = c.context.nssrs }) o)
      by None e = bare entries
      by (Some c) e = sent c entries (of_find (λ d. same_key (pin_of d) (key_of g.context)) c (mastered w) e).0

  -- all copies of an agent are by agreements of the world
  all_copies : (test : Copy → Bool) (me : ℕ) → ((g : Agreement) → In g w.agreements → test (copy_by p g) ≡ true)
      → list_all test (map (copy_by p) (agreements_of w me)) ≡ true
  all_copies test me f =
      all_in test (map (copy_by p) (agreements_of w me))
      (λ c i.
      let x = of_map (copy_by p) c (agreements_of w me) i in
      let j = of_first [] (filter (λ g. g.consumer == me) w.agreements) x.0 x.1 in
      ap test x.2 ∙ f x.0 (of_filter (λ (g : Agreement). g.consumer == me) x.0 w.agreements j).0)

  -- ---- whom it names

  sent_names : (c : Mastered) (entries : List Named) → In c (mastered w)
      → references_name size (sent_references w c entries) ≡ true
  sent_names c entries i =
      all_references w described (sent_references w c entries)
      (λ k j. elim (sent_from c entries k j) [
        | inl m ↦
            (let o = owner c i in
            ap (λ (x : Specific). access_names size x.access) m.same
            ∙ and_true (nat_lt c.master size) true
            (lt-ltb c.master size (slice_get_within w.agents c.master o.agent o.at)) refl)
        | inr q ↦ (known w described q.agent q.is).subordinate k q.its
      ])

  copy_named : (g : Agreement) (x : Option ℕ) → context_names size (copy_as_of p g x) ≡ true
  copy_named g x =
      copy_is (λ h. context_names size h ≡ true) g x (λ entries. refl)
      (λ c entries i.
      let o = owner c i in
      and_true (references_name size (sent_references w c entries)) (nssrs_name size c.context.nssrs)
      (sent_names c entries i)
      (nssrs_of w described c.context ((known w described o.agent o.is).contexts c.context o.its)))

  copies_named : (me : ℕ) → list_all (copy_names size) (map (copy_by p) (agreements_of w me)) ≡ true
  copies_named me =
      all_copies (copy_names size) me
      (λ g i. and_true (nat_lt g.supplier size) (context_names size (copy_as_of p g (as_of p g.number)))
      (supplier_there w described g (of_all (is_agreement w) g w.agreements described.agreements i))
      (copy_named g (as_of p g.number)))

  own_named : (a : Agent) → Known w described a
      → list_all (context_names size) (map (own_context (tree_at p) a) (held_contexts [] a.contexts)) ≡ true
  own_named a k =
      all_in (context_names size) (map (own_context (tree_at p) a) (held_contexts [] a.contexts))
      (λ c i.
      let x = of_map (own_context (tree_at p) a) c (held_contexts [] a.contexts) i in
      let entries = part (tree_at p) (key_of x.0.prefix) in
      ap (context_names size) x.2
      ∙ and_true (references_name size (references_below entries a.subordinate)) (nssrs_name size x.0.nssrs)
      (below_names w described a entries k)
      (nssrs_of w described x.0 (k.contexts x.0 (of_held [] a.contexts x.0 x.1))))

  agent_named : (me : ℕ) (a : Agent) → Known w described a → holdings_name size (agent_holdings p me a) ≡ true
  agent_named me a k =
      let h : Holdings = agent_holdings p me a in
      and_true (superior_names size h.superior) _ k.superior
      (and_true (list_all (context_names size) h.own) _ (own_named a k)
      (and_true (list_all (copy_names size) h.copies) _ (copies_named me)
      (and_true (references_name size h.root) (references_name size h.cross)
      (root_names w described a k (is_none a.superior)) (all_references w described a.cross k.cross))))

  named : (me : ℕ) → holdings_name size (holdings_at p me) ≡ true
  named me = by (agent_at w me) refl
    where
      by : (x : Option Agent) → agent_at w me ≡ x
          → holdings_name size (in_option (no_holdings me) (agent_holdings p me) x) ≡ true
      by None e = refl
      by (Some a) e = agent_named me a (known w described a (at_place w.agents me a e))

  -- ---- which names it knows

  agent_stored : (a : Agent) → In a w.agents → is_stored_agent a ≡ true
  agent_stored a i =
      of_all is_stored_agent a w.agents (both_true (list_all is_stored_agent w.agents) _ described.stored).0 i

  context_stored : (c : Mastered) → In c (mastered w) → is_stored_context c.context ≡ true
  context_stored c i =
      let o = owner c i in
      of_all is_stored_context c.context o.agent.contexts
      (contexts w described c.master o.agent (agent_stored o.agent o.is)) o.its

  nssrs_stored : (c : Context) → is_stored_context c ≡ true → nssrs_counted c.nssrs ≡ true
  nssrs_stored c e =
      let x = both_true (is_stored c.prefix) _ e in
      let y = both_true (list_all is_stored_entry c.entries) _ x.1 in
      all_in (λ (n : Nssr). is_counted n.at) c.nssrs
      (λ n i. stored_counted n.at (of_all (λ (z : Nssr). is_stored z.at) n c.nssrs y.1 i))

  sent_counted : (c : Mastered) (entries : List Named) → references_counted (sent_references w c entries) ≡ true
  sent_counted c entries =
      all_in (λ (k : Specific). is_counted k.pin) (sent_references w c entries)
      (λ k j. elim (sent_from c entries k j) [
        | inl m ↦
            ap (λ (x : Specific). is_counted x.pin) m.same
            ∙ stored_counted m.lower.context.prefix
            (both_true (is_stored m.lower.context.prefix) _ (context_stored m.lower m.is)).0
        | inr q ↦ stored_counted k.pin (subordinate w described 0 q.agent (agent_stored q.agent q.is) k q.its)
      ])

  copy_short : (g : Agreement) (x : Option ℕ) → In g w.agreements → context_counted (copy_as_of p g x) ≡ true
  copy_short g x i =
      let all = both_true (list_all is_stored_agent w.agents) _ described.stored in
      let prefix : is_counted g.context ≡ true =
      stored_counted g.context (of_all (λ (y : Agreement). is_stored y.context) g w.agreements all.1 i) in
      copy_is (λ h. context_counted h ≡ true) g x (λ entries. and_true (is_counted g.context) true prefix refl)
      (λ c entries j.
      and_true (is_counted g.context) _ prefix
      (and_true (references_counted (sent_references w c entries)) (nssrs_counted c.context.nssrs)
      (sent_counted c entries) (nssrs_stored c.context (context_stored c j))))

  own_short : (a : Agent) → is_stored_agent a ≡ true
      → list_all context_counted (map (own_context (tree_at p) a) (held_contexts [] a.contexts)) ≡ true
  own_short a stored =
      all_in context_counted (map (own_context (tree_at p) a) (held_contexts [] a.contexts))
      (λ c i.
      let x = of_map (own_context (tree_at p) a) c (held_contexts [] a.contexts) i in
      let entries = part (tree_at p) (key_of x.0.prefix) in
      let e : is_stored_context x.0 ≡ true =
      of_all is_stored_context x.0 a.contexts (contexts w described 0 a stored) (of_held [] a.contexts x.0 x.1) in
      ap context_counted x.2
      ∙ and_true (is_counted x.0.prefix) _ (stored_counted x.0.prefix (both_true (is_stored x.0.prefix) _ e).0)
      (and_true (references_counted (references_below entries a.subordinate)) (nssrs_counted x.0.nssrs)
      (all_counted (references_below entries a.subordinate)
      (λ k j. subordinate w described 0 a stored k
      (of_filter (λ (y : Specific). is_there entries (parent (key_of y.pin))) k a.subordinate j).0))
      (nssrs_stored x.0 e)))

  agent_short : (me : ℕ) (a : Agent) → is_stored_agent a ≡ true → holdings_counted (agent_holdings p me a) ≡ true
  agent_short me a stored =
      let h : Holdings = agent_holdings p me a in
      and_true (list_all context_counted h.own) _ (own_short a stored)
      (and_true (list_all copy_counted h.copies) _ (all_copies copy_counted me (λ g i. copy_short g (as_of p g.number) i))
      (and_true (references_counted h.root) (references_counted h.cross) (root_of w described me a stored (is_none a.superior))
      (all_counted a.cross (cross w described me a stored))))

  short : (me : ℕ) → holdings_counted (holdings_at p me) ≡ true
  short me = by (agent_at w me) refl
    where
      by : (x : Option Agent) → agent_at w me ≡ x
          → holdings_counted (in_option (no_holdings me) (agent_holdings p me) x) ≡ true
      by None e = refl
      by (Some a) e = agent_short me a (agent_stored a (at_place w.agents me a e))

pub lines_name_agents : LinesNameAgents
lines_name_agents p me described = named p described me

pub lines_counted : LinesCounted
lines_counted p me described = short p described me

pub lines_are_themselves : LinesAreThemselves
lines_are_themselves p me = by (agent_at (knowledge_at p) me)
  where
    by : (x : Option Agent) → (in_option (no_holdings me) (agent_holdings p me) x).me ≡ me
    by None = refl
    by (Some a) = refl
