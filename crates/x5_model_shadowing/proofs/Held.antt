-- What agents hold at a line can be sent: parts of the one tree, now or as of a moment, with the references that the
-- file describes, or such as name a context that its agent masters.
use Rattle.std.proofs.Common.{◌≡◌, ℕ, ◌-◌, ◌==◌, nat_lt, Bool, true, not, ◌&&◌, List, [], length, map, refl, sym, subst, Option, Some, None}
use Rattle.std.proofs.lemmas.Bool.{lt-ltb}
use Rattle.std.proofs.lemmas.Option.{slice_get_within}
use Rattle.std.specs.List.{filter, list_all}
use Rattle.x5_model.specs.Words.{is_empty, in_option, distinct}
use Rattle.x5_model.specs.Members.{In}
use Rattle.x5_model.specs.Keys.{Key, same_key, parent}
use Rattle.x5_model.specs.Values.{key_of}
use Rattle.x5_model.specs.Entries.{Named}
use Rattle.x5_model.proofs.Lists.{both_true, and_true, of_filter, of_find, of_all}
use Rattle.x5_model_tree.specs.World.{Specific, Nssr, Context, Agent, Agreement, World}
use Rattle.x5_model_tree.specs.Tree.{Tree, is_there, key_at, belongs, part}
use Rattle.x5_model_tree.specs.Masters.{Mastered, pin_of, mastered, masters, agent_at, held_contexts}
use Rattle.x5_model_tree.specs.Described.{is_stored, is_stored_entry, is_stored_context, is_stored_agent, is_entry_name, is_kept, is_rooted, is_nssr, is_context, is_agent, is_agent_name, is_reference, are_references, IsDescribed}
use Rattle.x5_model_tree.proofs.Gives.{owner_of}
use Rattle.x5_model_tree.proofs.Stored.{stored_is}
use Rattle.x5_model_theory.proofs.Views.{at_place as agent_is}
use Rattle.x5_model_heard.specs.Told.{are_agents}
use Rattle.x5_model_run.specs.Holdings.{Copy}
use Rattle.x5_model_run.specs.History.{Point, knowledge_at, tree_at, tree_of_moment, as_of, references_below, own_context, sent_references, mastered_at, copy_as_of, copy_by, agreements_of, agent_holdings, no_holdings, holdings_at}
use Rattle.x5_model_known.proofs.Describing.{at_place, of_held}
use Rattle.x5_model_refreshed.proofs.Leading.{knowledge_stays}
use Rattle.x5_model_fitting.specs.Names.{Each, NameWithin}
use Rattle.x5_model_fitting.proofs.Kept.{stored_name_within}
use Rattle.x5_model_limits.specs.Described.{name_is_utf8, world_is_utf8}
use Rattle.x5_model_limits.proofs.Lists.{each_none, each_both, each_kept, each_map, each_some}
use Rattle.x5_model_limits.proofs.Described.{agent_within, agreement_there, agreement_within}
use Rattle.x5_model_limits.proofs.AtLines.{mastered_within}
use Rattle.x5_model_shadowed.specs.Sending.{SendableEntry}
use Rattle.x5_model_shadowing.specs.Files.{agent_nssrs_are_utf8, context_nssrs_are_utf8, nssrs_are_utf8}
use Rattle.x5_model_shadowing.specs.Holding.{SendableSpecific, SendableNssr, SendableContext, SendableHoldings}
use Rattle.x5_model_shadowing.specs.Lines.{IsBoundedLine, HeldSendable, CopiesSendable}
use Rattle.x5_model_shadowing.proofs.Trees.{trees_now, trees_sendable}

-- ---- what a file describes

module _ (w : World) (described : IsDescribed w) (utf8 : world_is_utf8 w ≡ true) (nssrs : nssrs_are_utf8 w ≡ true) where
  abbrev size : ℕ
  size = length w.agents

  nssrs_sendable : (a : Agent) → In a w.agents → (c : Context) → In c a.contexts → Each (SendableNssr size) c.nssrs
  nssrs_sendable a i c j n k =
      let s = both_true (list_all is_stored_agent w.agents) _ described.stored in
      let t = both_true (list_all is_stored_context a.contexts) _ (of_all is_stored_agent a w.agents s.0 i) in
      let x = both_true (is_stored c.prefix) _ (of_all is_stored_context c a.contexts t.0 j) in
      let y = both_true (list_all is_stored_entry c.entries) (list_all (λ (m : Nssr). is_stored m.at) c.nssrs) x.1 in
      let p = both_true (is_agent_name a.name) _ (of_all (is_agent w) a w.agents described.agents i) in
      let q = both_true (list_all (is_context w) a.contexts) _ p.1 in
      let r = both_true (is_rooted c c.entries) _ (of_all (is_context w) c a.contexts q.0 j) in
      let l = both_true (list_all is_kept c.entries) _ r.1 in
      let o = both_true (list_all (is_nssr w c) c.nssrs)
      (distinct same_key (map (λ (m : Nssr). key_of m.at) c.nssrs)) l.1 in
      let b = both_true (is_there c.entries (key_of n.at)) _ (of_all (is_nssr w c) n c.nssrs o.0 k) in
      let d = both_true (not (is_empty n.agents)) (are_agents size n.agents) b.1 in
      let u = of_all agent_nssrs_are_utf8 a w.agents nssrs i in
      let v = of_all context_nssrs_are_utf8 c a.contexts u j in
      record {
        at = stored_name_within n.at (stored_is n.at (of_all (λ (m : Nssr). is_stored m.at) n c.nssrs y.1 k))
            (of_all (λ (m : Nssr). name_is_utf8 m.at) n c.nssrs v k);
        named = d.1;
      }

  references_sendable : (a : Agent) → In a w.agents → Each (SendableSpecific size) a.subordinate
  references_sendable a i k j =
      let p = both_true (is_agent_name a.name) _ (of_all (is_agent w) a w.agents described.agents i) in
      let q = both_true (list_all (is_context w) a.contexts) _ p.1 in
      let r = both_true (are_references w a.subordinate) (are_references w a.cross) q.1 in
      let s = both_true (list_all (is_reference w) a.subordinate)
      (distinct same_key (map (λ (x : Specific). key_of x.pin) a.subordinate)) r.0 in
      let t = both_true (is_entry_name k.pin) _ (of_all (is_reference w) k a.subordinate s.0 j) in
      let u = both_true (nat_lt k.access.master size) _ t.1 in
      let v = both_true (are_agents size k.access.shadows) _ u.1 in
      record {
        pin = ((agent_within w described utf8 a i).subordinate k j).pin;
        named = and_true (nat_lt k.access.master size) (are_agents size k.access.shadows) u.0 v.0;
      }

  -- those that go with some of its entries
  below_sendable : (a : Agent) (es : List Named) → In a w.agents
      → Each (SendableSpecific size) (references_below es a.subordinate)
  below_sendable a es i =
      each_kept (SendableSpecific size) (λ (k : Specific). is_there es (parent (key_of k.pin))) a.subordinate
      (references_sendable a i)

  -- an agent that masters a context is one of the world
  record Owner (m : Mastered) : Type 0 where
    agent : Agent
    there : In agent w.agents
    its : In m.context agent.contexts
    place : nat_lt m.master size ≡ true

  owner : (m : Mastered) → In m (mastered w) → Owner m
  owner m i =
      let o = owner_of w m i in
      let at : agent_at w m.master ≡ Some o.0 = agent_is w m.master o.0 o.1 in
      record {
        agent = o.0;
        there = at_place w.agents m.master o.0 at;
        its = o.2;
        place = lt-ltb m.master size (slice_get_within w.agents m.master o.0 at);
      }

  -- what is sent of a mastered context
  sent_sendable : (c : Mastered) (es : List Named) → In c (mastered w)
      → Each (SendableSpecific size) (sent_references w c es)
  sent_sendable c es i =
      each_both (SendableSpecific size) (map by_master (filter is_lower (mastered w)))
      (in_option [] others (agent_at w c.master))
      (each_map (SendableSpecific size) by_master (filter is_lower (mastered w))
      (λ d j. record {
        pin = (mastered_within w described utf8 d (of_filter is_lower d (mastered w) j).0).prefix;
        named = and_true (nat_lt c.master size) true (owner c i).place refl;
      }))
      (each_some (SendableSpecific size) others (agent_at w c.master)
      (λ a e.
      each_kept (SendableSpecific size) is_other (references_below es a.subordinate)
      (below_sendable a es (at_place w.agents c.master a e))))
    where
      is_lower : Mastered → Bool
      is_lower d = (d.master == c.master) && is_there es (parent (pin_of d))

      by_master : Mastered → Specific
      by_master d = record { pin = d.context.prefix; access = record { master = c.master; shadows = [] } }

      is_other : Specific → Bool
      is_other k = not (masters w c.master (key_of k.pin))

      others : Agent → List Specific
      others a = filter is_other (references_below es a.subordinate)

-- ---- what agents hold

pub part_sendable : (t : Tree) (pin : Key) → Each SendableEntry t.entries → Each SendableEntry (part t pin)
part_sendable t pin each = each_kept SendableEntry (λ e. belongs t.pins pin (key_at e)) t.entries each

module _ (p : Point) (line : IsBoundedLine p) (described : IsDescribed (knowledge_at p))
    (utf8 : world_is_utf8 (knowledge_at p) ≡ true) (nssrs : nssrs_are_utf8 (knowledge_at p) ≡ true)
  where
    abbrev now : World
    now = knowledge_at p

    abbrev many : ℕ
    many = length now.agents

    copy_sendable : (g : Agreement) (x : Option ℕ) → NameWithin g.context → SendableContext many (copy_as_of p g x)
    copy_sendable g None name = record {
      prefix = name;
      entries = each_none SendableEntry;
      subordinate = each_none (SendableSpecific many);
      nssrs = each_none (SendableNssr many);
    }
    copy_sendable g (Some m) name = by (mastered_at now (key_of g.context)) refl
      where
        es : List Named
        es = part (tree_of_moment p m) (key_of g.context)

        each : Each SendableEntry es
        each = part_sendable (tree_of_moment p m) (key_of g.context) (trees_sendable p m line)

        by : (o : Option Mastered) → mastered_at now (key_of g.context) ≡ o
            → SendableContext many
            (in_option (record { prefix = g.context; entries = es; subordinate = []; nssrs = [] })
            (λ c. record {
              prefix = g.context;
              entries = es;
              subordinate = sent_references now c es;
              nssrs = c.context.nssrs;
            }) o)
        by None e = record {
          prefix = name;
          entries = each;
          subordinate = each_none (SendableSpecific many);
          nssrs = each_none (SendableNssr many);
        }
        by (Some c) e =
            let i = (of_find (λ (d : Mastered). same_key (pin_of d) (key_of g.context)) c (mastered now) e).0 in
            let o = owner now described utf8 nssrs c i in
            record {
              prefix = name;
              entries = each;
              subordinate = sent_sendable now described utf8 nssrs c es i;
              nssrs = nssrs_sendable now described utf8 nssrs o.agent o.there c.context o.its;
            }

    own_sendable : (a : Agent) → In a now.agents
        → Each (SendableContext many) (map (own_context (tree_at p) a) (held_contexts [] a.contexts))
    own_sendable a i =
        each_map (SendableContext many) (own_context (tree_at p) a) (held_contexts [] a.contexts)
        (λ c j.
        let k = of_held [] a.contexts c j in
        let es : List Named = part (tree_at p) (key_of c.prefix) in
        record {
          prefix = ((agent_within now described utf8 a i).contexts c k).prefix;
          entries = part_sendable (tree_at p) (key_of c.prefix) (trees_now p line);
          subordinate = below_sendable now described utf8 nssrs a es i;
          nssrs = nssrs_sendable now described utf8 nssrs a i c k;
        })

    copies_sendable_of : (me : ℕ)
        → Each (λ (c : Copy). SendableContext many c.held) (map (copy_by p) (agreements_of now me))
    copies_sendable_of me =
        each_map (λ (c : Copy). SendableContext many c.held) (copy_by p) (agreements_of now me)
        (λ g i.
        let j = agreement_there now me g i in
        copy_sendable g (as_of p g.number) (agreement_within now described utf8 g j).context)

    holdings_sendable : (me : ℕ) → SendableHoldings many (holdings_at p me)
    holdings_sendable me = by (agent_at now me) refl
      where
        by : (x : Option Agent) → agent_at now me ≡ x
            → SendableHoldings many (in_option (no_holdings me) (agent_holdings p me) x)
        by None e =
            record {
              own = each_none (SendableContext many);
              copies = each_none (λ (c : Copy). SendableContext many c.held);
            }
        by (Some a) e =
            record { own = own_sendable a (at_place now.agents me a e); copies = copies_sendable_of me }

-- ---- knowledge is what the file describes

module _ (p : Point) (line : IsBoundedLine p) where
  same : knowledge_at p ≡ p.described
  same = knowledge_stays p.described p.past line.led.happened

  is_described : IsDescribed (knowledge_at p)
  is_described = subst IsDescribed (sym same) line.led.described

  is_utf8 : world_is_utf8 (knowledge_at p) ≡ true
  is_utf8 = subst (λ (w : World). world_is_utf8 w ≡ true) (sym same) line.texts

  have_utf8 : nssrs_are_utf8 (knowledge_at p) ≡ true
  have_utf8 = subst (λ (w : World). nssrs_are_utf8 w ≡ true) (sym same) line.references

pub held_sendable : HeldSendable
held_sendable p a line =
    subst (λ (w : World). SendableHoldings (length w.agents) (holdings_at p a)) (same p line)
    (holdings_sendable p line (is_described p line) (is_utf8 p line) (have_utf8 p line) a)

pub copies_sendable : CopiesSendable
copies_sendable p g m line i =
    let d = is_described p line in
    let u = is_utf8 p line in
    subst (λ (w : World). SendableContext (length w.agents) (copy_as_of p g m)) (same p line)
    (copy_sendable p line d u (have_utf8 p line) g m (agreement_within (knowledge_at p) d u g i).context)
