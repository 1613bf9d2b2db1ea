-- The names at which a described world's non-specific subordinate references stand are UTF-8: each was read from a
-- text, whose reading takes no others.
use Rattle.std.proofs.Common.{◌≡◌, ℕ, Bool, true, List, [], ◌∷◌, ◌++◌, map, refl, ap, subst, ◌∙◌, Option, Some, None, Result, Ok, Err, codes}
use Rattle.std.specs.List.{list_all, flat_map}
use Rattle.serde_json.specs.Data.{Data, Items}
use Rattle.serde_json.specs.Events.{items_len}
use Rattle.serde_json.specs.Find.{get}
use Rattle.x5_model.specs.Values.{Text, Name, NameValue, key_of}
use Rattle.x5_model.specs.Entries.{Named}
use Rattle.x5_model.specs.Normal.{stored}
use Rattle.x5_model.proofs.Lists.{all_in}
use Rattle.x5_model_tree.specs.World.{Nssr, Context, Agent, World}
use Rattle.x5_model_tree.specs.Described.{most_agents, most_agreements, most_with_copies, most_references}
use Rattle.x5_model_text.specs.NameText.{NameFault, name_of_text}
use Rattle.x5_model_text_laws.proofs.GivenNames.{name_given}
use Rattle.x5_model_world.specs.Reading.{at, needed, if_fit, if_few, members_at, text_at, list_if_any, some_at, if_name, name_at, entry_name_at}
use Rattle.x5_model_world.specs.ContextText.{Nssrs, is_place, counted, nssr_members, nssr_behind, entries_behind, nssrs_behind, Contexts, with_context, with_entries, context_members, context_behind, contexts_behind, agents_behind}
use Rattle.x5_model_world.specs.AgentText.{no_references, references_behind, new_name, agent_if_any, agent_members, agent_with, with_contexts, with_these, Agents, agent_behind, all_behind, names_behind}
use Rattle.x5_model_world.specs.StartText.{start_of}
use Rattle.x5_model_world.specs.WorldFile.{agreements_behind, with_copies, File, format_of, world_members, network_of, world_in, if_known}
use Rattle.x5_know.specs.Moments.{Start}
use Rattle.x5_model_loaded.proofs.Steps.{same_found, bound, fit_is, only_keeps}
use Rattle.x5_model_loaded.proofs.Loops.{Anything, each_anything, loop_keeps}
use Rattle.x5_model_loaded.proofs.Agents.{no_agents}
use Rattle.x5_model_fitting.specs.Names.{Each, are_utf8}
use Rattle.x5_model_limits.specs.Described.{name_is_utf8}
use Rattle.x5_model_limits.proofs.Lists.{each_none, each_one, each_both}
use Rattle.x5_model_within.proofs.Texts.{written_stored}
use Rattle.x5_model_shadowing.specs.Files.{context_nssrs_are_utf8, agent_nssrs_are_utf8, FilesHaveUtf8}

-- ---- names

abbrev NameUtf8 : Name → Type 0
NameUtf8 n = name_is_utf8 n ≡ true

name_by : (path t : Text) (r : Result NameValue NameFault) (n : Name) → name_of_text t ≡ r
    → if_name stored path r ≡ Ok n → NameUtf8 n
name_by path t (Ok m) n e h =
    subst NameUtf8 (same_found (stored m) n h) (ap (list_all are_utf8) (written_stored m) ∙ (name_given t m e).utf8)
name_by path t (Err fault) n e h = absurd (cc h)

name_utf8 : (path name : Text) (d : Data) (n : Name) → name_at path name d ≡ Ok n → NameUtf8 n
name_utf8 path name d n h =
    let v = bound (text_at path name d) _ n h in name_by (at path name) v.0 (name_of_text v.0) n refl v.2

-- ---- references

abbrev NssrUtf8 : Nssr → Type 0
NssrUtf8 n = NameUtf8 n.at

abbrev NssrsUtf8 : Nssrs → Type 0
NssrsUtf8 s = Each NssrUtf8 s.nssrs

nssr_utf8 : (names : List Text) (entries : List Named) (path : Text) (before : Nssrs)
    (d : Data) (after : Nssrs) → NssrsUtf8 before → nssr_behind names path entries before d ≡ Ok after
    → NssrsUtf8 after
nssr_utf8 names entries path before d after each h =
    let members = bound (members_at path d) _ after h in
    let name = bound (name_at path (codes "at") d) _ after members.2 in
    let place =
    bound (if_fit (at path (codes "at")) (is_place entries before.nssrs (key_of name.0)) name.0) _ after name.2 in
    let texts = bound (some_at path (codes "agents") d) _ after place.2 in
    let listed = bound (counted path before.listed texts.0) _ after texts.2 in
    let agents = bound (agents_behind names (at path (codes "agents")) 0 [] texts.0) _ after listed.2 in
    let same =
    fit_is (at path (codes "at")) (is_place entries before.nssrs (key_of name.0)) name.0 place.0 place.1 in
    let n : Nssr = record { at = place.0; agents = agents.0 } in
    only_keeps NssrsUtf8 path nssr_members members.0
    (record { nssrs = before.nssrs ++ n ∷ []; listed = listed.0 }) after agents.2
    (each_both NssrUtf8 before.nssrs (n ∷ []) each
    (each_one NssrUtf8 n (subst NameUtf8 same.1 (name_utf8 path (codes "at") d name.0 name.1))))

nssrs_utf8 : (names : List Text) (entries : List Named) (path : Text)
    (before after : Nssrs) (items : Items) → NssrsUtf8 before
    → nssrs_behind names path 0 entries before items ≡ Ok after → NssrsUtf8 after
nssrs_utf8 names entries path before after items each h =
    loop_keeps (λ (q : Text) (s : Nssrs) (d : Data). nssr_behind names q entries s d) (λ (s t : Nssrs). t)
    (λ (q : Text) (i : ℕ) (s : Nssrs) (ds : Items). nssrs_behind names q i entries s ds)
    (λ q i s. refl) (λ q i s d ds. refl) Anything (λ (n : ℕ) (s : Nssrs). NssrsUtf8 s)
    (λ q n s d t a k l. nssr_utf8 names entries q s d t k l)
    path 0 0 before after items (each_anything items) each h

-- ---- contexts

abbrev ContextUtf8 : Context → Type 0
ContextUtf8 c = Each NssrUtf8 c.nssrs

abbrev ContextsUtf8 : Contexts → Type 0
ContextsUtf8 s = Each ContextUtf8 s.contexts

context_utf8 : (names : List Text) (path : Text) (before : Contexts) (d : Data) (after : Contexts)
    → ContextsUtf8 before → context_behind names path before d ≡ Ok after → ContextsUtf8 after
context_utf8 names path before d after each h =
    let members = bound (members_at path d) _ after h in
    let prefix = bound (entry_name_at path (codes "prefix") d) _ after members.2 in
    let items = bound (some_at path (codes "entries") d) _ after prefix.2 in
    let used = bound (with_entries path before.counts.entries items.0) _ after items.2 in
    let entries = bound (entries_behind (at path (codes "entries")) 0 prefix.0 [] items.0) _ after used.2 in
    let list = bound (list_if_any path (codes "nssr") d) _ after entries.2 in
    let none : Nssrs = record { nssrs = []; listed = before.counts.nssr_agents } in
    let nssrs = bound (nssrs_behind names (at path (codes "nssr")) 0 entries.0 none list.0) _ after list.2 in
    let c : Context = record { prefix = prefix.0; entries = entries.0; nssrs = nssrs.0.nssrs } in
    only_keeps ContextsUtf8 path context_members members.0 (with_context before prefix.0 entries.0 nssrs.0 used.0) after
    nssrs.2
    (each_both ContextUtf8 before.contexts (c ∷ []) each
    (each_one ContextUtf8 c
    (nssrs_utf8 names entries.0 (at path (codes "nssr")) none nssrs.0 list.0 (each_none NssrUtf8) nssrs.1)))

contexts_utf8 : (names : List Text) (path : Text) (before after : Contexts) (items : Items) → ContextsUtf8 before
    → contexts_behind names path 0 before items ≡ Ok after → ContextsUtf8 after
contexts_utf8 names path before after items each h =
    loop_keeps (context_behind names) (λ (s t : Contexts). t) (contexts_behind names)
    (λ p i s. refl) (λ p i s d ds. refl) Anything (λ (n : ℕ) (s : Contexts). ContextsUtf8 s)
    (λ p n s d t a k l. context_utf8 names p s d t k l)
    path 0 0 before after items (each_anything items) each h

-- ---- agents

abbrev AgentUtf8 : Agent → Type 0
AgentUtf8 a = Each ContextUtf8 a.contexts

abbrev AgentsUtf8 : Agents → Type 0
AgentsUtf8 s = Each AgentUtf8 s.agents

agent_utf8 : (names : List Text) (path : Text) (before : Agents) (d : Data) (after : Agents) → AgentsUtf8 before
    → agent_behind names path before d ≡ Ok after → AgentsUtf8 after
agent_utf8 names path before d after each h =
    let members = bound (members_at path d) _ after h in
    let text = bound (text_at path (codes "name") d) _ after members.2 in
    let name =
    bound (new_name (at path (codes "name")) (map (λ (a : Agent). a.name) before.agents) text.0) _ after text.2 in
    let superior =
    bound (agent_if_any names (at path (codes "superior")) (get (codes "superior") d)) _ after name.2 in
    let items = bound (list_if_any path (codes "contexts") d) _ after superior.2 in
    let used = bound (with_these path before.counts.contexts items.0) _ after items.2 in
    let first : Contexts = record { contexts = []; counts = with_contexts before.counts used.0 } in
    let contexts = bound (contexts_behind names (at path (codes "contexts")) 0 first items.0) _ after used.2 in
    let list = bound (list_if_any path (codes "refs") d) _ after contexts.2 in
    let few = bound (if_few (at path (codes "refs")) most_references (items_len list.0) list.0) _ after list.2 in
    let references = bound (references_behind names (at path (codes "refs")) 0 no_references few.0) _ after few.2 in
    let a : Agent = agent_with name.0 superior.0 contexts.0.contexts references.0 in
    only_keeps AgentsUtf8 path agent_members members.0
    (record { agents = before.agents ++ a ∷ []; counts = contexts.0.counts }) after references.2
    (each_both AgentUtf8 before.agents (a ∷ []) each
    (each_one AgentUtf8 a
    (contexts_utf8 names (at path (codes "contexts")) first contexts.0 items.0 (each_none ContextUtf8) contexts.1)))

agents_utf8 : (names : List Text) (path : Text) (before after : Agents) (items : Items) → AgentsUtf8 before
    → all_behind names path 0 before items ≡ Ok after → AgentsUtf8 after
agents_utf8 names path before after items each h =
    loop_keeps (agent_behind names) (λ (s t : Agents). t) (all_behind names)
    (λ p i s. refl) (λ p i s d ds. refl) Anything (λ (n : ℕ) (s : Agents). AgentsUtf8 s)
    (λ p n s d t a k l. agent_utf8 names p s d t k l)
    path 0 0 before after items (each_anything items) each h

-- ---- the world

agents_test : (as' : List Agent) → Each AgentUtf8 as' → list_all agent_nssrs_are_utf8 as' ≡ true
agents_test as' each =
    all_in agent_nssrs_are_utf8 as'
    (λ a i. all_in context_nssrs_are_utf8 a.contexts
    (λ c j. all_in (λ (n : Nssr). name_is_utf8 n.at) c.nssrs (each a i c j)))

abbrev FileUtf8 : File → Type 0
FileUtf8 f = Each AgentUtf8 f.world.agents

world_utf8 : (names : List Text) (has : Bool) (start : Start) (items : Items) (d : Data) (f : File)
    → world_in names has start items d ≡ Ok f → FileUtf8 f
world_utf8 names has start items d f h =
    let members = bound (members_at (codes "") d) _ f h in
    let agents = bound (all_behind names (codes "/agents") 0 no_agents items) _ f members.2 in
    let list = bound (list_if_any (codes "") (codes "agreements") d) _ f agents.2 in
    let few = bound (if_few (codes "/agreements") most_agreements (items_len list.0) list.0) _ f list.2 in
    let agreements = bound (agreements_behind names (codes "/agreements") 0 [] few.0) _ f few.2 in
    let copies : ℕ =
    with_copies (flat_map (λ (a : Agent). a.contexts) agents.0.agents) agents.0.counts.entries
    agreements.0 in
    let all = bound (if_few (codes "/agreements") most_with_copies copies agreements.0) _ f agreements.2 in
    let network = bound (network_of names has d) _ f all.2 in
    let w : World = record { agents = agents.0.agents; agreements = all.0; network = network.0 } in
    only_keeps FileUtf8 (codes "") (world_members has) members.0 (record { start = start; world = w }) f network.2
    (agents_utf8 names (codes "/agents") no_agents agents.0 items (each_none AgentUtf8) agents.1)

known_utf8 : (f g : File) (o : Option Text) → FileUtf8 f → if_known f o ≡ Ok g → FileUtf8 g
known_utf8 f g None h k = subst FileUtf8 (same_found f g k) h
known_utf8 f g (Some path) h k = absurd (cc k)

pub files_have_utf8 : FilesHaveUtf8
files_have_utf8 d f h =
    let members = bound (members_at (codes "") d) _ f h in
    let has = bound (needed (codes "/format") (format_of d)) _ f members.2 in
    let stamp = bound (text_at (codes "") (codes "start") d) _ f has.2 in
    let start = bound (needed (codes "/start") (start_of stamp.0)) _ f stamp.2 in
    let items = bound (some_at (codes "") (codes "agents") d) _ f start.2 in
    let few = bound (if_few (codes "/agents") most_agents (items_len items.0) items.0) _ f items.2 in
    let made = bound (world_in (names_behind [] few.0) has.0 start.0 few.0 d) _ f few.2 in
    agents_test f.world.agents
    (known_utf8 made.0 f _ (world_utf8 (names_behind [] few.0) has.0 start.0 few.0 d made.0 made.1) made.2)
