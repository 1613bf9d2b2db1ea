-- Messages of shadowing are read back, component by component.
use Rattle.std.proofs.Common.{◌≡◌, ℕ, Bool, true, false, List, [], ◌∷◌, map, refl, ap, ap₂, sym, ◌∙◌}
use Rattle.std.specs.List.{list_all}
use Rattle.std.specs.declared.option.Option.{Option}
use Rattle.std.specs.declared.option.Option.TheVariants.{None, Some}
use Rattle.x5_model.specs.Entries.{Stored, Entry, Named}
use Rattle.x5_model.specs.Values.{Text, Value, StoredValue, Name}
use Rattle.x5_model.specs.Words.{in_option}
use Rattle.x5_model.proofs.Lists.{both_true}
use Rattle.x5_model_typed.specs.Nodes.{Node, row, list}
use Rattle.x5_model_typed.specs.Rules.{value_in}
use Rattle.x5_model_typed.proofs.Laws.{list_row}
use Rattle.x5_model_messages.specs.Terms.{value_node, name_node, name_of, number_in}
use Rattle.x5_model_messages.specs.Replies.{number_or_vacant}
use Rattle.x5_model_messages.specs.Laws.{IsName, is_sayable}
use Rattle.x5_model_messages.specs.Shadows.{Known, NonSpecific, Step, Add, Remove, Modify, Rename, Refresh, Nothing}
use Rattle.x5_model_messages.specs.Shadows.{Total, Steps, Shadow, Request, Coordinate, Update, Done, Failed}
use Rattle.x5_model_messages.specs.Shadows.{stored_node, entry_node, agent_node, known_node, non_specific_node}
use Rattle.x5_model_messages.specs.Shadows.{step_node, refresh_node, strategy_node}
use Rattle.x5_model_messages.specs.Shadows.{stored_value, stored_in, entry_in, agent_in, known_of, known_in}
use Rattle.x5_model_messages.specs.Shadows.{non_specific_in, step_in, refresh_in, is_total}
use Rattle.x5_model_messages.specs.ShadowLaws.{IsStored, AreStored, IsEntry, AreEntries, AreKnown, AreNonSpecific}
use Rattle.x5_model_messages.specs.ShadowLaws.{IsStep, AreSteps, IsRefresh, ShadowsReadBack}
use Rattle.x5_model_messages.proofs.Back.{known}
use Rattle.x5_model_messages.proofs.Requests.{the_name, value_back}

-- ---- entries

values_back : (k : ℕ) (vs : List StoredValue) → list_all (λ v. is_sayable v.value) vs ≡ true
    → map (λ v. stored_value k (value_in v)) (map (λ o. value_node o.value) vs) ≡ map (λ o. stored_value k o.value) vs
values_back k [] h = refl
values_back k (v ∷ vs) h =
    let w = both_true (is_sayable v.value) (list_all (λ (o : StoredValue). is_sayable o.value) vs) h in
    ap₂ (λ (x : Value) (xs : List StoredValue). stored_value k x ∷ xs) (value_back v.value w.0) (values_back k vs w.1)

stored_back : (a : Stored) → IsStored a → stored_in (stored_node a) ≡ a
stored_back a h =
    let nodes = map (λ (o : StoredValue). value_node o.value) a.values in
    ap (λ (o : Option ℕ). record { kind = in_option 0 (λ k. k) o; values = map (λ v. stored_value (in_option 0 (λ k. k) o) (value_in v)) (list (row nodes)) })
    (known a.kind h.0)
    ∙ ap (λ (ns : List Node). record { kind = a.kind; values = map (λ v. stored_value a.kind (value_in v)) ns }) (list_row nodes)
    ∙ ap (λ (vs : List StoredValue). record { kind = a.kind; values = vs }) (values_back a.kind a.values h.1 ∙ sym h.2)

all_stored_back : (as' : List Stored) → AreStored as' → map stored_in (map stored_node as') ≡ as'
all_stored_back [] h = refl
all_stored_back (a ∷ as') h = ap₂ (λ (x : Stored) (xs : List Stored). x ∷ xs) (stored_back a h.0) (all_stored_back as' h.1)

entry_back : (e : Named) → IsEntry e → entry_in (entry_node e) ≡ e
entry_back e h =
    ap₂ (λ (n : Name) (as' : List Stored). record { name = n; entry = record { attributes = as' } }) (the_name e.name h.0)
    (ap (λ (ns : List Node). map stored_in ns) (list_row (map stored_node e.entry.attributes)) ∙ all_stored_back e.entry.attributes h.1)

entries_back : (es : List Named) → AreEntries es → map entry_in (map entry_node es) ≡ es
entries_back [] h = refl
entries_back (e ∷ es) h = ap₂ (λ (x : Named) (xs : List Named). x ∷ xs) (entry_back e h.0) (entries_back es h.1)

-- ---- references

agents_back : (copy : Bool) (ts : List Text) → map agent_in (map (agent_node copy) ts) ≡ ts
agents_back copy [] = refl
agents_back copy (t ∷ ts) = ap (λ (xs : List Text). t ∷ xs) (agents_back copy ts)

known_back : (k : Known) → IsName k.pin → known_in (known_node k) ≡ k
known_back k h =
    ap (λ (ns : List Node). known_of (name_node k.pin) ns) (list_row (agent_node false k.master ∷ map (agent_node true) k.shadows))
    ∙ ap₂ (λ (n : Name) (ts : List Text). record { pin = n; master = k.master; shadows = ts }) (the_name k.pin h) (agents_back true k.shadows)

all_known_back : (ks : List Known) → AreKnown ks → map known_in (map known_node ks) ≡ ks
all_known_back [] h = refl
all_known_back (k ∷ ks) h = ap₂ (λ (x : Known) (xs : List Known). x ∷ xs) (known_back k h.0) (all_known_back ks h.1)

non_specific_back : (n : NonSpecific) → IsName n.at → non_specific_in (non_specific_node n) ≡ n
non_specific_back n h =
    ap₂ (λ (m : Name) (ts : List Text). record { at = m; agents = ts }) (the_name n.at h)
    (ap (λ (ns : List Node). map agent_in ns) (list_row (map (agent_node false) n.agents)) ∙ agents_back false n.agents)

all_non_specific_back : (ns : List NonSpecific) → AreNonSpecific ns → map non_specific_in (map non_specific_node ns) ≡ ns
all_non_specific_back [] h = refl
all_non_specific_back (n ∷ ns) h =
    ap₂ (λ (x : NonSpecific) (xs : List NonSpecific). x ∷ xs) (non_specific_back n h.0) (all_non_specific_back ns h.1)

-- ---- refreshes

step_back : (s : Step) → IsStep s → step_in (step_node s) ≡ s
step_back (Add e) h = ap Add (entry_back e h)
step_back (Remove n) h = ap Remove (the_name n h)
step_back (Modify e) h = ap Modify (entry_back e h)
step_back (Rename n e) h = ap₂ Rename (the_name n h.0) (entry_back e h.1)

steps_back : (ss : List Step) → AreSteps ss → map step_in (map step_node ss) ≡ ss
steps_back [] h = refl
steps_back (s ∷ ss) h = ap₂ (λ (x : Step) (xs : List Step). x ∷ xs) (step_back s h.0) (steps_back ss h.1)

total_same : (es fs : List Named) (ks ls : List Known) (ns ms : List NonSpecific) → es ≡ fs → ks ≡ ls → ns ≡ ms
    → Total es ks ns ≡ Total fs ls ms
total_same es fs ks ls ns ms e f g = cc

refresh_back : (r : Refresh) → IsRefresh r → refresh_in (refresh_node r) ≡ r
refresh_back Nothing h = refl
refresh_back (Total es ks ns) h =
    total_same _ es _ ks _ ns
    (ap (λ (l : List Node). map entry_in l) (list_row (map entry_node es)) ∙ entries_back es h.0)
    (ap (λ (l : List Node). map known_in l) (list_row (map known_node ks)) ∙ all_known_back ks h.1)
    (ap (λ (l : List Node). map non_specific_in l) (list_row (map non_specific_node ns)) ∙ all_non_specific_back ns h.2)
refresh_back (Steps ss) h =
    ap Steps (ap (λ (l : List Node). map step_in l) (list_row (map step_node ss)) ∙ steps_back ss h)

-- ---- messages

number_back : (o : Option ℕ) → number_in (number_or_vacant o) ≡ o
number_back None = refl
number_back (Some n) = refl

total_back : (total : Bool) → is_total (strategy_node total) ≡ total
total_back true = refl
total_back false = refl

pub shadow_back : ShadowsReadBack
shadow_back id (Request g last total) h =
    ap₂ (λ (o : Option ℕ) (b : Bool). (id, Request g o b)) (number_back last) (total_back total)
shadow_back id (Coordinate g last total) h =
    ap₂ (λ (o : Option ℕ) (b : Bool). (id, Coordinate g o b)) (number_back last) (total_back total)
shadow_back id (Update g stamp refresh) h = ap (λ (r : Refresh). (id, Update g stamp r)) (refresh_back refresh h)
shadow_back id (Done code) h = refl
shadow_back id (Failed problem held given) h =
    ap₂ (λ (a b : Option ℕ). (id, Failed problem a b)) (number_back held) (number_back given)
