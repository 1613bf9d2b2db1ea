-- Messages of shadowing within the limits fit, component by component.
use Rattle.std.proofs.Common.{◌≡◌, ℕ, ◌≤◌, ◌<◌, ◌^◌, Bool, true, false, not, if◌then◌else◌, List, [], ◌∷◌, map, refl, sym, ap, subst, ◌∙◌, inl, inr, arith}
use Rattle.std.specs.Prelude.{pos}
use Rattle.std.specs.List.{list_all}
use Rattle.std.specs.declared.option.Option.{Option}
use Rattle.std.specs.declared.option.Option.TheVariants.{None, Some}
use Rattle.x5_model.specs.Entries.{Stored, Named}
use Rattle.x5_model.specs.Members.{In}
use Rattle.x5_model.specs.Values as values
use Rattle.x5_model.specs.Values.{Text, StoredValue}
use Rattle.x5_model.proofs.Lists.{and_true, in_first}
use Rattle.x5_model_typed.specs.Nodes as nodes
use Rattle.x5_model_typed.specs.Nodes.{Node, Nodes, Vacant, Flag, Nil, More, list, row, whole}
use Rattle.x5_model_typed.specs.Named as named
use Rattle.x5_model_typed.specs.Forms.{Component, Explicit, Joined, Primitive, at, choice, universal}
use Rattle.x5_model_typed.specs.Layouts as layouts
use Rattle.x5_model_typed.specs.Layouts.{Surroundings, layout, agent_name, named_by, optional, time_leaf}
use Rattle.x5_model_typed.specs.Leaves.{is_agent_name, null}
use Rattle.x5_model_typed.specs.Rules.{agents_of, is_copy, known_rule, master_first, masters_rule}
use Rattle.x5_model_typed.specs.Typed as typed
use Rattle.x5_model_typed.specs.Typed.{required, default}
use Rattle.x5_model_typed.proofs.Laws.{list_row}
use Rattle.x5_model_typed_laws.specs.Fits as fits
use Rattle.x5_model_typed_laws.specs.Fits.{Fits, FitsSequence}
use Rattle.x5_model_typed_laws.proofs.Leaves.{let_through}
use Rattle.x5_model_messages.specs.Replies.{number_or_vacant}
use Rattle.x5_model_messages.specs.Shadows as shadows
use Rattle.x5_model_messages.specs.Shadows.{Known, NonSpecific, Step, Add, Remove, Modify, Rename, Refresh, Nothing, Total, Steps}
use Rattle.x5_model_messages.specs.Shadows.{Shadow, Request, Coordinate, Update, Done, Failed, shadow_node}
use Rattle.x5_model_messages.specs.Terms.{node_of}
use Rattle.x5_model_fitting.specs.Names.{Each}
use Rattle.x5_model_fitting.specs.Requests.{CountWithin, IfThere}
use Rattle.x5_model_fitting.proofs.Leaves.{code_fits, count_fits, enumeration_fits, flag_fits, number_fits}
use Rattle.x5_model_fitting.proofs.Making.{each_fits, leaf_fits, sequence_or}
use Rattle.x5_model_fitting.proofs.Names.{name_fits}
use Rattle.x5_model_fitting.proofs.Requests.{invoke_fits}
use Rattle.x5_model_fitting.proofs.Terms.{values_fit}
use Rattle.x5_model_fitting.proofs.Texts.{known_within, type_fits}
use Rattle.x5_model_shadowed.specs.Laws.{ShadowFits}
use Rattle.x5_model_shadowed.specs.Within.{StoredWithin, EntryWithin, StepWithin, AgentWithin, MomentWithin, KnownWithin}
use Rattle.x5_model_shadowed.specs.Within.{NonSpecificWithin, RefreshWithin, ShadowWithin, operations}
use Rattle.x5_model_shadowed.proofs.Ordered.{entry_kept}

-- ---- entries

stored_fits : (w : Surroundings) (a : Stored) → StoredWithin a
    → Fits (layout w) (layout w named.Attribute) (shadows.stored_node a)
stored_fits w a h =
    fits.made _ refl refl refl
    (fits.sequence (fits.given refl (type_fits w (values.Known a.kind) (known_within a.kind h.type)) required
    (fits.given refl (values_fit w (λ (v : StoredValue). v.value) a.values h.some (λ v i. (h.values v i).value)) required
    fits.over)))
    refl

entry_fits : (w : Surroundings) (e : Named) → EntryWithin e → Fits (layout w) (layout w named.Entry) (shadows.entry_node e)
entry_fits w e h =
    fits.made _ refl refl refl
    (fits.sequence (fits.given refl (name_fits w e.name h.name) required
    (fits.left_out (Flag true) refl refl
    (fits.given refl attributes_fit required fits.over))))
    (entry_kept e h)
  where
    attributes_fit : Fits (layout w) (layout w named.Attributes) (node_of (map shadows.stored_node e.entry.attributes))
    attributes_fit =
        fits.made _ refl refl refl
        (fits.members (each_fits (layout w) named.Attribute shadows.stored_node e.entry.attributes
        (λ a i. stored_fits w a (h.attributes a i)))) refl

entries_fit : (w : Surroundings) (es : List Named) → Each EntryWithin es
    → Fits (layout w) (layout w named.Entries) (node_of (map shadows.entry_node es))
entries_fit w es h =
    fits.made _ refl refl refl
    (fits.members (each_fits (layout w) named.Entry shadows.entry_node es (λ e i. entry_fits w e (h e i)))) refl

-- ---- references

name_of_agent_fits : (w : Surroundings) (t : Text) → AgentWithin w t
    → Fits (layout w) (layout w named.WorldAgentName) (nodes.Text t)
name_of_agent_fits w t h =
    leaf_fits (layout w) (agent_name w.is_agent) (nodes.Text t) t refl refl
    (let_through (if is_agent_name t then w.is_agent t else false) t
    (ap (λ (b : Bool). if b then w.is_agent t else false) h.named ∙ h.of_world))
    refl

agent_fits : (w : Surroundings) (copy : Bool) (t : Text) → AgentWithin w t
    → Fits (layout w) (layout w named.WorldAgent) (shadows.agent_node copy t)
agent_fits w copy t h =
    fits.made _ refl refl refl
    (fits.sequence (fits.given refl (name_of_agent_fits w t h) required
    (sequence_or (layout w) (Flag false) (Flag copy) named.Boolean [] Nil (flag_fits w copy) fits.over)))
    refl

all_copies : (ts : List Text) → list_all is_copy (map (shadows.agent_node true) ts) ≡ true
all_copies [] = refl
all_copies (t ∷ ts) = and_true true (list_all is_copy (map (shadows.agent_node true) ts)) refl (all_copies ts)

known_kept : (k : Known) → known_rule (shadows.known_node k) ≡ Some (shadows.known_node k)
known_kept k =
    let_through (master_first (agents_of (shadows.known_node k))) (shadows.known_node k)
    (ap (λ (l : List Node). list_all is_copy l) (list_row (map (shadows.agent_node true) k.shadows)) ∙ all_copies k.shadows)

known_fits : (w : Surroundings) (k : Known) → KnownWithin w k → Fits (layout w) (layout w named.Known) (shadows.known_node k)
known_fits w k h =
    fits.made _ refl refl refl
    (fits.sequence (fits.given refl (name_fits w k.pin h.pin) required (fits.given refl agents_fit required fits.over)))
    (known_kept k)
  where
    agents_fit : Fits (layout w) (layout w named.WorldAgents)
        (node_of (shadows.agent_node false k.master ∷ map (shadows.agent_node true) k.shadows))
    agents_fit =
        fits.made _ refl refl refl
        (fits.members (fits.more (agent_fits w false k.master h.master)
        (each_fits (layout w) named.WorldAgent (shadows.agent_node true) k.shadows
        (λ t i. agent_fits w true t (h.shadows t i))))) refl

knowns_fit : (w : Surroundings) (ks : List Known) → Each (KnownWithin w) ks
    → Fits (layout w) (layout w named.Knowns) (node_of (map shadows.known_node ks))
knowns_fit w ks h =
    fits.made _ refl refl refl
    (fits.members (each_fits (layout w) named.Known shadows.known_node ks (λ k i. known_fits w k (h k i)))) refl

all_masters : (ts : List Text) → list_all (λ a. not (is_copy a)) (map (shadows.agent_node false) ts) ≡ true
all_masters [] = refl
all_masters (t ∷ ts) =
    and_true true (list_all (λ (a : Node). not (is_copy a)) (map (shadows.agent_node false) ts)) refl (all_masters ts)

masters_kept : (n : NonSpecific) → masters_rule (shadows.non_specific_node n) ≡ Some (shadows.non_specific_node n)
masters_kept n =
    let_through (list_all (λ (a : Node). not (is_copy a)) (agents_of (shadows.non_specific_node n)))
    (shadows.non_specific_node n)
    (ap (λ (l : List Node). list_all (λ (a : Node). not (is_copy a)) l) (list_row (map (shadows.agent_node false) n.agents))
    ∙ all_masters n.agents)

other_fits : (w : Surroundings) (n : NonSpecific) → NonSpecificWithin w n
    → Fits (layout w) (layout w named.NonSpecific) (shadows.non_specific_node n)
other_fits w n h =
    fits.made _ refl refl refl
    (fits.sequence (fits.given refl (name_fits w n.at h.at) required (fits.given refl agents_fit required fits.over)))
    (masters_kept n)
  where
    agents_fit : Fits (layout w) (layout w named.WorldAgents) (node_of (map (shadows.agent_node false) n.agents))
    agents_fit =
        fits.made _ refl refl refl
        (fits.members (each_fits (layout w) named.WorldAgent (shadows.agent_node false) n.agents
        (λ t i. agent_fits w false t (h.agents t i)))) refl

others_fit : (w : Surroundings) (ns : List NonSpecific) → Each (NonSpecificWithin w) ns
    → Fits (layout w) (layout w named.NonSpecifics) (node_of (map shadows.non_specific_node ns))
others_fit w ns h =
    fits.made _ refl refl refl
    (fits.members (each_fits (layout w) named.NonSpecific shadows.non_specific_node ns (λ n i. other_fits w n (h n i)))) refl

-- ---- refreshes

step_fits : (w : Surroundings) (s : Step) → StepWithin s → Fits (layout w) (layout w named.Step) (shadows.step_node s)
step_fits w (Add e) h = fits.chosen (choice 0 (Explicit named.Entry)) 0 named.Entry refl refl (entry_fits w e h) refl
step_fits w (Remove n) h = fits.chosen (choice 1 (Explicit named.Name)) 1 named.Name refl refl (name_fits w n h) refl
step_fits w (Modify e) h = fits.chosen (choice 2 (Explicit named.Entry)) 2 named.Entry refl refl (entry_fits w e h) refl
step_fits w (Rename n e) h = fits.chosen (choice 3 (Explicit named.Renamed)) 3 named.Renamed refl refl both refl
  where
    both : Fits (layout w) (layout w named.Renamed) (node_of (Rattle.x5_model_messages.specs.Terms.name_node n
        ∷ shadows.entry_node e ∷ []))
    both =
        fits.made _ refl refl refl
        (fits.sequence (fits.given refl (name_fits w n h.0) required (fits.given refl (entry_fits w e h.1) required fits.over)))
        refl

refresh_fits : (w : Surroundings) (r : Refresh) → RefreshWithin w r
    → Fits (layout w) (layout w named.Refresh) (shadows.refresh_node r)
refresh_fits w Nothing h = fits.whole (universal 5 (Primitive null)) [] refl refl refl refl refl
refresh_fits w (Total es ks ns) h =
    fits.chosen (choice 0 (Explicit named.Total)) 0 named.Total refl refl
    (fits.made _ refl refl refl
    (fits.sequence (fits.given refl (entries_fit w es h.0) required
    (fits.given refl (knowns_fit w ks h.1) required
    (fits.given refl (others_fit w ns h.2) required fits.over))))
    refl)
    refl
refresh_fits w (Steps ss) h =
    fits.chosen (choice 1 (Explicit named.Steps)) 1 named.Steps refl refl
    (fits.made _ refl refl refl
    (fits.members (each_fits (layout w) named.Step shadows.step_node ss (λ s i. step_fits w s (h s i)))) refl)
    refl

-- ---- moments

time_fits : (w : Surroundings) (m : ℕ) → MomentWithin w m → Fits (layout w) (layout w named.Time) (whole m)
time_fits w m h =
    leaf_fits (layout w) (universal 24 (Joined (time_leaf w))) (whole m) h.octets refl refl h.has_time refl

moment_next : (w : Surroundings) (tag : ℕ) (o : Option ℕ) (cs : List Component) (ns : Nodes) → IfThere (MomentWithin w) o
    → FitsSequence (layout w) cs ns
    → FitsSequence (layout w) (optional (at tag named.Time) ∷ cs) (More (number_or_vacant o) ns)
moment_next w tag None cs ns h g = fits.left_out Vacant refl refl g
moment_next w tag (Some m) cs ns h g = fits.given refl (time_fits w m h) default g

-- ---- what is asked, sent and told

strategy_fits : (w : Surroundings) (total : Bool)
    → Fits (layout w) (layout w (named.Enumeration 1 2)) (shadows.strategy_node total)
strategy_fits w true = enumeration_fits w 1 2 2 (omega arith) (omega arith) (omega arith)
strategy_fits w false = enumeration_fits w 1 2 1 (omega arith) (omega arith) (omega arith)

asked_fits : (w : Surroundings) (agreement : ℕ) (last : Option ℕ) (total : Bool) → CountWithin agreement
    → IfThere (MomentWithin w) last
    → Fits (layout w) (layout w named.ShadowArgument) (shadows.asked_node agreement last total)
asked_fits w agreement last total small h =
    fits.made _ refl refl refl
    (fits.sequence (fits.given refl (count_fits w agreement small) required
    (moment_next w 0 last _ _ h (fits.given refl (strategy_fits w total) required fits.over))))
    refl

sent_fits : (w : Surroundings) (agreement stamp : ℕ) (r : Refresh) → CountWithin agreement → MomentWithin w stamp
    → RefreshWithin w r → Fits (layout w) (layout w named.UpdateArgument) (shadows.sent_node agreement stamp r)
sent_fits w agreement stamp r small h k =
    fits.made _ refl refl refl
    (fits.sequence (fits.given refl (count_fits w agreement small) required
    (fits.given refl (time_fits w stamp h) required (fits.given refl (refresh_fits w r k) required fits.over))))
    refl

failed_fits : (w : Surroundings) (problem : ℕ) (held given : Option ℕ) → 1 ≤ problem → problem ≤ 11
    → IfThere (MomentWithin w) held → IfThere (MomentWithin w) given
    → Fits (layout w) (layout w named.ShadowError) (shadows.failed_node problem held given)
failed_fits w problem held given some most h k =
    fits.made _ refl refl refl
    (fits.sequence (fits.given refl (number_fits w 1 11 problem some most (omega arith)) required
    (moment_next w 0 held _ _ h (moment_next w 1 given [] Nil k fits.over))))
    refl

nothing_fits : (w : Surroundings) → Fits (layout w) (layout w named.Null) Vacant
nothing_fits w = leaf_fits (layout w) (universal 5 (Primitive null)) Vacant [] refl refl refl refl

-- the result of the operation with a code that there is
record IsOperation (code : ℕ) : Type 0 where
  few : code < 2 ^ 32
  names : named_by layouts.shadow_results (pos code) ≡ Some named.Null

operation_is : (code : ℕ) → In code operations → IsOperation code
operation_is code i = elim (in_first code 1 (2 ∷ 3 ∷ []) i) [
  | inl e ↦ by 1 (omega arith) refl e
  | inr j ↦ elim (in_first code 2 (3 ∷ []) j) [
    | inl e ↦ by 2 (omega arith) refl e
    | inr k ↦ elim (in_first code 3 [] k) [ inl e ↦ by 3 (omega arith) refl e | inr m ↦ elim m [ ] ]
  ]
]
  where
    by : (k : ℕ) → k < 2 ^ 32 → named_by layouts.shadow_results (pos k) ≡ Some named.Null → code ≡ k → IsOperation code
    by k few names e = subst IsOperation (sym e) (record { few = few; names = names })

done_fits : (w : Surroundings) (code : ℕ) → IsOperation code
    → Fits (layout w) (layout w named.DispResult) (node_of (whole code ∷ Vacant ∷ []))
done_fits w code h =
    fits.made _ refl refl refl
    (fits.sequence (fits.given refl (code_fits w code h.few) (typed.named (pos code) named.Null refl h.names)
    (fits.given refl (nothing_fits w) required fits.over)))
    refl

-- ---- messages

module _ (w : Surroundings) (id : ℕ) (small : CountWithin id) where
  invoked : (code : ℕ) (form : named.Named) (n : Node) → code < 2 ^ 32
      → named_by layouts.shadow_operations (pos code) ≡ Some form → Fits (layout w) (layout w form) n
      → Fits (layout w) (layout w named.DispMessage) (shadows.invoke_node id code n)
  invoked code form n few names f =
      fits.chosen_made (layouts.invoke layouts.shadow_operations) 1 refl
      (fits.sequence (invoke_fits w layouts.shadow_operations id code form n small few names f)) refl

  message_fits : (m : Shadow) → ShadowWithin w m → Fits (layout w) (layout w named.DispMessage) (shadow_node id m)
  message_fits (Request agreement last total) h =
      invoked 1 named.ShadowArgument _ (omega arith) refl (asked_fits w agreement last total h.0 h.1)
  message_fits (Coordinate agreement last total) h =
      invoked 3 named.ShadowArgument _ (omega arith) refl (asked_fits w agreement last total h.0 h.1)
  message_fits (Update agreement stamp r) h =
      invoked 2 named.UpdateArgument _ (omega arith) refl (sent_fits w agreement stamp r h.0 h.1 h.2)
  message_fits (Done code) h =
      fits.chosen_made (layouts.result named.DispResult) 2 refl
      (fits.sequence (fits.given refl (count_fits w id small) required
      (fits.given refl (done_fits w code (operation_is code h)) required fits.over)))
      refl
  message_fits (Failed problem held given) h =
      fits.chosen_made (layouts.error layouts.shadow_errors) 3 refl
      (fits.sequence (invoke_fits w layouts.shadow_errors id 1 named.ShadowError _ small (omega arith) refl
      (failed_fits w problem held given h.0.0 h.0.1 h.1 h.2)))
      refl

pub shadow_fits : ShadowFits
shadow_fits w id m small h = message_fits w id small m h
