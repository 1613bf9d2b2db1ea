-- What a file describes of an agent is within the limits: its names have the normal forms of their texts and keep to
-- the limits of names, each value has a normal form for its type's kind, and what an agent holds is made of these.
use Rattle.std.proofs.Common.{◌≡◌, ℕ, ◌==◌, Bool, true, false, not, ◌&&◌, List, [], ◌∷◌, length, map, refl, ap, ◌∙◌, Option, Some, None, Result, Ok, Err, if◌then◌else◌}
use Rattle.std.specs.List.{filter, list_all}
use Rattle.std.specs.Option.{is_none}
use Rattle.x5_model.specs.Words.{is_empty, in_option, ascending}
use Rattle.x5_model.specs.Members.{In}
use Rattle.x5_model.specs.Keys.{parent}
use Rattle.x5_model.specs.Values.{StoredValue, Name, key_of, last_rdn}
use Rattle.x5_model.specs.Types.{is_known, kind_of}
use Rattle.x5_model.specs.Normal.{ValueFault, normal_of}
use Rattle.x5_model.specs.Entries.{Stored, Named}
use Rattle.x5_model.specs.Attributes.{kind_below, value_below, is_ordered, has_rdn}
use Rattle.x5_model.specs.Statics.{entry_refusals}
use Rattle.x5_model.proofs.Lists.{both_true, not_true, of_all, of_filter}
use Rattle.x5_model_tree.specs.World.{Specific, Context, Agent, Agreement, World}
use Rattle.x5_model_tree.specs.Tree.{is_there, sorted_entries}
use Rattle.x5_model_tree.specs.Masters.{agent_at, held_contexts}
use Rattle.x5_model_tree.specs.Described.{is_stored, is_normal, is_stored_value, is_stored_attribute, is_stored_entry, is_stored_context, is_stored_agent, is_entry_name, is_kept, is_rooted, is_grown, same_spelling, is_context, is_agent_name, is_reference, are_references, is_agent, is_number, is_agreement, IsDescribed}
use Rattle.x5_model_tree.specs.Tree.{named_below}
use Rattle.x5_model_tree.proofs.Stored.{stored_is, same_name_is}
use Rattle.x5_model.proofs.Ascending.{of_sorted}
use Rattle.x5_model_run.specs.History.{references_below, agreements_of, no_holdings}
use Rattle.x5_model_held.specs.Beginning.{described_context, described_copy, described_holdings}
use Rattle.x5_model_known.proofs.Describing.{at_place, of_held, of_first}
use Rattle.x5_model_fitting.specs.Names.{Each, NameWithin}
use Rattle.x5_model_fitting.specs.Keeping.{has_utf8}
use Rattle.x5_model_fitting.proofs.Kept.{stored_name_within, normal_within}
use Rattle.x5_model_limits.specs.Holding.{BoundedValue, BoundedStored, BoundedEntry, BoundedSpecific, BoundedContext, BoundedCopy, BoundedHoldings}
use Rattle.x5_model_limits.specs.Described.{name_is_utf8, stored_is_utf8, entry_is_utf8, context_is_utf8, references_are_utf8, agent_is_utf8, world_is_utf8}
use Rattle.x5_model_limits.specs.Laws.{DescribedBounded}
use Rattle.x5_model_limits.proofs.Lists.{each_none, each_kept, each_map, each_if}

-- ---- names, values and entries

name_within : (n : Name) → is_stored n ≡ true → name_is_utf8 n ≡ true → NameWithin n
name_within n stored utf8 = stored_name_within n (stored_is n stored) utf8

value_within : (kind : ℕ) (v : StoredValue) → is_stored_value kind v ≡ true → has_utf8 v.value ≡ true → BoundedValue v
value_within kind v stored utf8 = by (normal_of (kind_of kind) v.value) refl stored
  where
    by : (r : Result (List ℕ) ValueFault) → normal_of (kind_of kind) v.value ≡ r → is_normal r v.normal ≡ true
        → BoundedValue v
    by (Ok n) e h = normal_within (kind_of kind) v.value n e utf8
    by (Err x) e h = absurd (cc h)

-- its attributes have values
abbrev has_values : Stored → Bool
has_values a = not (is_empty a.values) && ascending value_below a.values

attribute_within : (a : Stored) → is_stored_attribute a ≡ true → has_values a ≡ true → stored_is_utf8 a ≡ true
    → BoundedStored a
attribute_within a stored some utf8 =
    let x = both_true (is_known a.kind) (list_all (is_stored_value a.kind) a.values) stored in
    let y = both_true (not (is_empty a.values)) (ascending value_below a.values) some in
    record {
      type = x.0;
      some = not_true (is_empty a.values) y.0;
      values = λ v i.
          value_within a.kind v (of_all (is_stored_value a.kind) v a.values x.1 i)
          (of_all (λ (z : StoredValue). has_utf8 z.value) v a.values utf8 i);
    }

entry_within : (e : Named) → is_stored_entry e ≡ true → is_kept e ≡ true → entry_is_utf8 e ≡ true → BoundedEntry e
entry_within e stored kept utf8 =
    let x = both_true (is_stored e.name) (list_all is_stored_attribute e.entry.attributes) stored in
    let y = both_true (is_entry_name e.name)
    (is_ordered e.entry && (has_rdn e.entry (last_rdn e.name) && is_empty (entry_refusals e.entry))) kept in
    let z = both_true (is_ordered e.entry)
    (has_rdn e.entry (last_rdn e.name) && is_empty (entry_refusals e.entry)) y.1 in
    let o = both_true (ascending kind_below e.entry.attributes) (list_all has_values e.entry.attributes) z.0 in
    let u = both_true (name_is_utf8 e.name) (list_all stored_is_utf8 e.entry.attributes) utf8 in
    record {
      name = name_within e.name x.0 u.0;
      some = not_true (is_empty e.name) y.0;
      attributes = λ a i.
          attribute_within a (of_all is_stored_attribute a e.entry.attributes x.1 i)
          (of_all has_values a e.entry.attributes o.1 i) (of_all stored_is_utf8 a e.entry.attributes u.1 i);
    }

-- ---- contexts

pub record ContextWithin (c : Context) : Type 0 where
  pub prefix : NameWithin c.prefix
  pub some : is_empty c.prefix ≡ false
  pub entries : Each BoundedEntry c.entries

-- a context prefix is the name of an entry
prefix_some : (c : Context) (es : List Named) → is_rooted c es ≡ true → list_all is_kept es ≡ true
    → is_empty c.prefix ≡ false
prefix_some c [] rooted kept = absurd (cc rooted)
prefix_some c (e ∷ es) rooted kept =
    let a = both_true (same_spelling c.prefix e.name) (is_grown (e ∷ []) es) rooted in
    let b = both_true (is_kept e) (list_all is_kept es) kept in
    let some = (both_true (is_entry_name e.name)
    (is_ordered e.entry && (has_rdn e.entry (last_rdn e.name) && is_empty (entry_refusals e.entry))) b.0).0 in
    ap is_empty (same_name_is c.prefix e.name a.0) ∙ not_true (is_empty e.name) some

context_within : (w : World) (c : Context) → is_stored_context c ≡ true → is_context w c ≡ true
    → context_is_utf8 c ≡ true → ContextWithin c
context_within w c stored is utf8 =
    let x = both_true (is_stored c.prefix) _ stored in
    let y = both_true (list_all is_stored_entry c.entries) _ x.1 in
    let a = both_true (is_rooted c c.entries) _ is in
    let b = both_true (list_all is_kept c.entries) _ a.1 in
    let u = both_true (name_is_utf8 c.prefix) (list_all entry_is_utf8 c.entries) utf8 in
    record {
      prefix = name_within c.prefix x.0 u.0;
      some = prefix_some c c.entries a.0 b.0;
      entries = λ e i.
          entry_within e (of_all is_stored_entry e c.entries y.0 i) (of_all is_kept e c.entries b.0 i)
          (of_all entry_is_utf8 e c.entries u.1 i);
    }

-- ---- references

references_within : (w : World) (ks : List Specific) → list_all (λ k. is_stored k.pin) ks ≡ true
    → are_references w ks ≡ true → references_are_utf8 ks ≡ true → Each BoundedSpecific ks
references_within w ks stored are utf8 k i =
    let a = both_true (list_all (is_reference w) ks) _ are in
    let b = both_true (is_entry_name k.pin) _ (of_all (is_reference w) k ks a.0 i) in
    record {
      pin = name_within k.pin (of_all (λ (x : Specific). is_stored x.pin) k ks stored i)
          (of_all (λ (x : Specific). name_is_utf8 x.pin) k ks utf8 i);
      some = not_true (is_empty k.pin) b.0;
    }

-- ---- agents

pub record AgentWithin (a : Agent) : Type 0 where
  pub contexts : Each ContextWithin a.contexts
  pub subordinate : Each BoundedSpecific a.subordinate
  pub cross : Each BoundedSpecific a.cross

pub agreement_there : (w : World) (me : ℕ) (g : Agreement) → In g (agreements_of w me) → In g w.agreements
agreement_there w me g i =
    let j = of_first [] (filter (λ g. g.consumer == me) w.agreements) g i in
    (of_filter (λ (x : Agreement). x.consumer == me) g w.agreements j).0

module _ (w : World) (described : IsDescribed w) (utf8 : world_is_utf8 w ≡ true) where
  pub agent_within : (a : Agent) → In a w.agents → AgentWithin a
  agent_within a i =
      let u = both_true (list_all agent_is_utf8 w.agents) _ utf8 in
      let s = both_true (list_all is_stored_agent w.agents) _ described.stored in
      let au = both_true (list_all context_is_utf8 a.contexts) _ (of_all agent_is_utf8 a w.agents u.0 i) in
      let bu = both_true (references_are_utf8 a.subordinate) (references_are_utf8 a.cross) au.1 in
      let ts = both_true (list_all is_stored_context a.contexts) _ (of_all is_stored_agent a w.agents s.0 i) in
      let bs = both_true (list_all (λ (k : Specific). is_stored k.pin) a.subordinate)
      (list_all (λ (k : Specific). is_stored k.pin) a.cross) ts.1 in
      let is = both_true (is_agent_name a.name) _ (of_all (is_agent w) a w.agents described.agents i) in
      let ai = both_true (list_all (is_context w) a.contexts) _ is.1 in
      let bi = both_true (are_references w a.subordinate) (are_references w a.cross) ai.1 in
      record {
        contexts = λ c j.
            context_within w c (of_all is_stored_context c a.contexts ts.0 j)
            (of_all (is_context w) c a.contexts ai.0 j)
            (of_all context_is_utf8 c a.contexts au.0 j);
        subordinate = references_within w a.subordinate bs.0 bi.0 bu.0;
        cross = references_within w a.cross bs.1 bi.1 bu.1;
      }

  pub record AgreementWithin (g : Agreement) : Type 0 where
    pub context : NameWithin g.context
    pub some : is_empty g.context ≡ false

  pub agreement_within : (g : Agreement) → In g w.agreements → AgreementWithin g
  agreement_within g i =
      let u = both_true (list_all agent_is_utf8 w.agents)
      (list_all (λ (x : Agreement). name_is_utf8 x.context) w.agreements)
      utf8 in
      let s = both_true (list_all is_stored_agent w.agents)
      (list_all (λ (x : Agreement). is_stored x.context) w.agreements) described.stored in
      let a = both_true (is_number g.number) _ (of_all (is_agreement w) g w.agreements described.agreements i) in
      let b = both_true (is_entry_name g.context) _ a.1 in
      record {
        context = name_within g.context (of_all (λ (x : Agreement). is_stored x.context) g w.agreements s.1 i)
            (of_all (λ (x : Agreement). name_is_utf8 x.context) g w.agreements u.1 i);
        some = not_true (is_empty g.context) b.0;
      }

  -- those by which an agent has copies
  pub copied_within : (me : ℕ) (g : Agreement) → In g (agreements_of w me) → AgreementWithin g
  copied_within me g i = agreement_within g (agreement_there w me g i)

  pub held_within : (a : Agent) → AgentWithin a → Each ContextWithin (held_contexts [] a.contexts)
  held_within a b c i = b.contexts c (of_held [] a.contexts c i)

  pub below_within : (a : Agent) (es : List Named) → AgentWithin a
      → Each BoundedSpecific (references_below es a.subordinate)
  below_within a es b =
      each_kept BoundedSpecific (λ (k : Specific). is_there es (parent (key_of k.pin))) a.subordinate b.subordinate

  pub root_within : (a : Agent) → AgentWithin a
      → Each BoundedSpecific (if is_none a.superior then filter (λ k. length k.pin == 1) a.subordinate else [])
  root_within a b =
      each_if BoundedSpecific (is_none a.superior) (filter (λ k. length k.pin == 1) a.subordinate)
      (each_kept BoundedSpecific (λ (k : Specific). length k.pin == 1) a.subordinate b.subordinate)

  own_within : (a : Agent) → AgentWithin a
      → Each BoundedContext (map (described_context a.subordinate) (held_contexts [] a.contexts))
  own_within a b =
      each_map BoundedContext (described_context a.subordinate) (held_contexts [] a.contexts)
      (λ c i.
      let x = held_within a b c i in
      record {
        prefix = x.prefix;
        some = x.some;
        entries = λ e j. x.entries e (of_sorted named_below e c.entries j);
        subordinate = below_within a (sorted_entries c.entries) b;
      })

  copies_within : (me : ℕ) → Each BoundedCopy (map described_copy (agreements_of w me))
  copies_within me =
      each_map BoundedCopy described_copy (agreements_of w me)
      (λ g i.
      let x = copied_within me g i in
      record {
        held = record {
          prefix = x.context;
          some = x.some;
          entries = each_none BoundedEntry;
          subordinate = each_none BoundedSpecific;
        };
        stamp = tt;
      })

  described_within : (me : ℕ) (a : Agent) → AgentWithin a → BoundedHoldings (described_holdings w me a)
  described_within me a b =
      record { own = own_within a b; copies = copies_within me; root = root_within a b; cross = b.cross }

pub nothing_held : (me : ℕ) → BoundedHoldings (no_holdings me)
nothing_held me = record {
  own = each_none BoundedContext;
  copies = each_none BoundedCopy;
  root = each_none BoundedSpecific;
  cross = each_none BoundedSpecific;
}

pub described_bounded : DescribedBounded
described_bounded w me d u = by (agent_at w me) refl
  where
    by : (x : Option Agent) → agent_at w me ≡ x
        → BoundedHoldings (in_option (no_holdings me) (described_holdings w me) x)
    by None e = nothing_held me
    by (Some a) e = described_within w d u me a (agent_within w d u a (at_place w.agents me a e))
