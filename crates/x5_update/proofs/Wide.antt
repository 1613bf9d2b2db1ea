-- The probe of a new name, by the entry above it and by the NSSR that stands there.
use Rattle.std.proofs.Common.{◌≡◌, ℕ, ◌+◌, ◌-◌, ◌<◌, length-take, true, not, List, [], ◌∷◌, length, refl, sym, ap, ◌∙◌, arith, Option, Some, None}
use Rattle.std.specs.Option.{option_map}
use Rattle.x5_model.specs.Words.{in_option, is_empty, when}
use Rattle.x5_model.specs.Keys.{Key, parent, same_key}
use Rattle.x5_model.specs.Values.{Name, key_of}
use Rattle.x5_model.specs.Entries.{Named}
use Rattle.x5_model.specs.References.{Reference, NonSpecific}
use Rattle.x5_model.proofs.KeyLaws.{key_decides}
use Rattle.x5_model.proofs.Lists.{of_find, both_true}
use Rattle.x5_model_heard.specs.Told.{are_agents, name_agents}
use Rattle.x5_model_theory.proofs.Stages.{key_length}
use Rattle.x5_model_tree.specs.World.{Nssr}
use Rattle.x5_model_tree.specs.Tree.{key_at, entry_at}
use Rattle.x5_model_run.specs.Holdings.{Held, Holdings}
use Rattle.x5_model_run.specs.Needs.{others, proceeding, nssr_at, probe_by, probe_from, probe_of}
use Rattle.x5_dse.specs.declared.node.NodeId.{NodeId}
use Rattle.x5_dse.specs.Linked.{Node, AreNumbered, entries_of, id_of, name_in, node_at, node_key, node_with}
use Rattle.x5_update.proofs.Nodes.{found_node}
use Rattle.x5_update.proofs.Seats.{entry_by_node}

-- ---- the entry above, by its node

pub record IsAbove (nodes : List Node) (key : Key) (kept : Name) : Type 0 where
  pub entry : Named
  pub at : entry_at (entries_of nodes) key ≡ Some entry
  pub named : entry.name ≡ kept

above_is : (es : List Named) (key : Key) (e : Named) → entry_at es key ≡ Some e → key_of e.name ≡ key
above_is es key e at = (key_decides (key_of e.name) key).0 (of_find (λ (x : Named). same_key (key_at x) key) e es at).1

-- its name has one RDN fewer
pub above_long : (nodes : List Node) (name kept : Name) → IsAbove nodes (parent (key_of name)) kept → 0 < length name
    → length kept + 1 ≡ length name
above_long nodes name kept a l =
    let k : length (key_of a.entry.name) ≡ length (parent (key_of name)) =
    ap length (above_is (entries_of nodes) (parent (key_of name)) a.entry a.at) in
    let n : length a.entry.name ≡ length kept = ap length a.named in
    let e : length (key_of a.entry.name) ≡ length a.entry.name = key_length a.entry.name in
    let f : length (key_of name) ≡ length name = key_length name in
    omega (arith, length-take (length (key_of name) - 1) (key_of name))

pub above_named : (nodes : List Node) (key : Key) (id : NodeId) (kept : Name) → Some id ≡ option_map id_of (node_at nodes key)
    → AreNumbered nodes → option_map name_in (node_with nodes id) ≡ Some kept → IsAbove nodes key kept
above_named nodes key id kept e numbered n =
    let w = found_node nodes key id e in
    record {
      entry = w.0.named;
      at = entry_by_node nodes key w.0 w.1;
      named = inside (sym (ap (option_map name_in)
          (ap (node_with nodes) w.2 ∙ numbered w.0 (of_find (λ (x : Node). same_key (node_key x) key) w.0 nodes w.1).0)) ∙ n);
    }
  where
    inside : {a b : Name} → Some a ≡ Some b → a ≡ b
    inside q = cc

-- ---- the probe

abbrev from_entry : Holdings → Name → Held → Option Named → List Reference
from_entry h name c o = in_option {X = Named} {Y = List Reference} [] (probe_from h name c) o

abbrev from_nssr : Holdings → Name → Named → Option Nssr → List Reference
from_nssr h name e o = in_option {X = Nssr} {Y = List Reference} [] (probe_by h name e) o

module _ (h : Holdings) (name : Name) (c : Held) where
  pub no_entry : entry_at c.entries (parent (key_of name)) ≡ None → probe_of h name c ≡ []
  no_entry e = ap (from_entry h name c) e

  module _ (e : Named) (at : entry_at c.entries (parent (key_of name)) ≡ Some e) where
    above_it : key_of e.name ≡ parent (key_of name)
    above_it =
        (key_decides (key_of e.name) (parent (key_of name))).0
        (of_find (λ (x : Named). same_key (key_at x) (parent (key_of name))) e c.entries at).1

    pub by_nssr : (o : Option Nssr) → nssr_at c.nssrs (parent (key_of name)) ≡ o → probe_of h name c ≡ from_nssr h name e o
    by_nssr o q = ap (from_entry h name c) at ∙ ap (λ (k : Key). from_nssr h name e (nssr_at c.nssrs k)) above_it ∙ ap (from_nssr h name e) q

-- what is asked of the agents of an NSSR, but of the agent itself
abbrev pub asked : Name → Name → List ℕ → List Reference
asked name kept agents = when (not (is_empty agents)) (proceeding (length name) kept name NonSpecific agents)

pub asked_none : (name kept : Name) (agents : List ℕ) → length agents ≡ 0 → asked name kept agents ≡ []
asked_none name kept [] e = refl
asked_none name kept (a ∷ agents) e = absurd (omega arith)

pub asked_some : (name kept : Name) (agents : List ℕ) → (length agents ≡ 0 → ⊥)
    → proceeding (length name) kept name NonSpecific agents ∷ [] ≡ asked name kept agents
asked_some name kept [] e = absurd (e refl)
asked_some name kept (a ∷ agents) e = refl

pub asked_known : (n : ℕ) (name kept : Name) (agents : List ℕ) → name_agents n (asked name kept agents) ≡ true → are_agents n agents ≡ true
asked_known n name kept [] e = refl
asked_known n name kept (a ∷ agents) e = (both_true (are_agents n (a ∷ agents)) true e).0

-- at a node, and an NSSR that stands there
pub probe_at_node : (h : Holdings) (name : Name) (c : Held) (nodes : List Node) → c.entries ≡ entries_of nodes → (id : NodeId)
    → Some id ≡ option_map id_of (node_at nodes (parent (key_of name))) → (n : Nssr) → nssr_at c.nssrs (parent (key_of name)) ≡ Some n
    → (e : Named) × (entry_at (entries_of nodes) (parent (key_of name)) ≡ Some e) × (probe_of h name c ≡ asked name e.name (others h.me n.agents))
probe_at_node h name c nodes is id at n there =
    let w = found_node nodes (parent (key_of name)) id at in
    let e : entry_at (entries_of nodes) (parent (key_of name)) ≡ Some w.0.named = entry_by_node nodes (parent (key_of name)) w.0 w.1 in (
      w.0.named,
      e,
      by_nssr h name c w.0.named (ap (λ (es : List Named). entry_at es (parent (key_of name))) is ∙ e) (Some n) there,
    )

-- without an NSSR none is due
pub no_nssr : (h : Holdings) (name : Name) (c : Held) (nodes : List Node) → c.entries ≡ entries_of nodes → (id : NodeId)
    → Some id ≡ option_map id_of (node_at nodes (parent (key_of name))) → nssr_at c.nssrs (parent (key_of name)) ≡ None → probe_of h name c ≡ []
no_nssr h name c nodes is id at none =
    let w = found_node nodes (parent (key_of name)) id at in
    by_nssr h name c w.0.named
    (ap (λ (es : List Named). entry_at es (parent (key_of name))) is ∙ entry_by_node nodes (parent (key_of name)) w.0 w.1) None none
