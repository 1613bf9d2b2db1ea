-- A probe is due where an NSSR stands at the entry above, of whose agents there are others.
use Rattle.std.proofs.Common.{◌≡◌, ℕ, true, List, [], ◌∷◌, map, length, Some, Bor, refl, sym, subst, ap, ◌∙◌}
use Rattle.std.specs.Option.{option_map}
use Rattle.std.proofs.lemmas.List.{length-map}
use Rattle.x5_model.specs.Keys.{parent}
use Rattle.x5_model.specs.Values.{Name, key_of}
use Rattle.x5_model.specs.References.{Reference, NonSpecific}
use Rattle.x5_model_heard.specs.Told.{are_agents, name_agents}
use Rattle.x5_model_tree.proofs.Grown.{above_key}
use Rattle.x5_model_run.specs.Needs.{others, nssr_at, proceeding}
use Rattle.x5_ops.specs.KnowledgeViews.{nssr_view}
use Rattle.x5_ops.specs.ReferenceViews.{access_view}
use Rattle.x5_ops.specs.declared.knowledge.Nssr.{Nssr}
use Rattle.x5_dse.specs.Linked.{AreNumbered, Nodes, id_of, name_in, node_at, node_with}
use Rattle.x5_holdings.specs.State.{held_view, holdings_view}
use Rattle.x5_update.proofs.Nodes.{live_found, no_node}
use Rattle.x5_update.proofs.Wide.{IsAbove, above_long, above_named, asked, asked_known, asked_none, asked_some, by_nssr, no_entry, no_nssr, probe_at_node}
use Rattle.x5_update.proofs.probes.probe_at.Goals as goal

pub returns-in_default : goal.returns-in_default
returns-in_default c =
    let name = c.args.name.now in
    let x = c.args.held.now in
    let h = holdings_view c.args.state.now in
    let k : key_of c.in_ok-above.above ≡ parent (key_of name) = ap key_of c.in_ok-above.ensures ∙ above_key name in
    let f : c.find.result ≡ option_map id_of (node_at x.nodes.nodes (parent (key_of name))) = c.find.ensures
    ∙ (λ i. option_map id_of (node_at (c.tree-tree.ensures.nodes i).nodes (k i))) in
    sym (no_entry h name (held_view x) (no_node x.nodes.nodes (parent (key_of name)) (sym c.in_default.is ∙ f)))

pub returns-in_default-nssr_at : goal.returns-in_default-nssr_at
returns-in_default-nssr_at c =
    let name = c.args.name.now in
    let x = c.args.held.now in
    let h = holdings_view c.args.state.now in
    let k : key_of c.in_ok-above.above ≡ parent (key_of name) = ap key_of c.in_ok-above.ensures ∙ above_key name in
    let f : c.find.result ≡ option_map id_of (node_at x.nodes.nodes (parent (key_of name))) = c.find.ensures
    ∙ (λ i. option_map id_of (node_at (c.tree-tree.ensures.nodes i).nodes (k i))) in
    let at : Some c.in-Some.node ≡ option_map id_of (node_at x.nodes.nodes (parent (key_of name))) = sym c.in-Some.is ∙ f in
    let o : option_map (λ (n : Bor Nssr). nssr_view n.now) c.nssr_at.result ≡ nssr_at (map nssr_view x.nssrs) (parent (key_of name)) =
    c.nssr_at.ensures ∙ ap (nssr_at (map nssr_view x.nssrs)) (ap key_of c.rdns.ensures ∙ k) in
    sym (no_nssr h name (held_view x) x.nodes.nodes refl c.in-Some.node at
    (sym o ∙ ap (option_map (λ (n : Bor Nssr). nssr_view n.now)) c.in_default-nssr_at.is))

pub others-requires-clause-there : goal.others-requires-clause-there
others-requires-clause-there c =
    let name = c.args.name.now in
    let x = c.args.held.now in
    let h = holdings_view c.args.state.now in
    let k : key_of c.in_ok-above.above ≡ parent (key_of name) = ap key_of c.in_ok-above.ensures ∙ above_key name in
    let f : c.find.result ≡ option_map id_of (node_at x.nodes.nodes (parent (key_of name))) = c.find.ensures
    ∙ (λ i. option_map id_of (node_at (c.tree-tree.ensures.nodes i).nodes (k i))) in
    let at : Some c.in-Some.node ≡ option_map id_of (node_at x.nodes.nodes (parent (key_of name))) = sym c.in-Some.is ∙ f in
    let o : option_map (λ (n : Bor Nssr). nssr_view n.now) c.nssr_at.result ≡ nssr_at (map nssr_view x.nssrs) (parent (key_of name)) =
    c.nssr_at.ensures ∙ ap (nssr_at (map nssr_view x.nssrs)) (ap key_of c.rdns.ensures ∙ k) in
    let n = nssr_view c.in-Some-nssr_at.nssr.now in
    let wide : nssr_at (map nssr_view x.nssrs) (parent (key_of name)) ≡ Some n =
    sym o ∙ ap (option_map (λ (m : Bor Nssr). nssr_view m.now)) c.in-Some-nssr_at.is in
    let same : others c.me.result c.as_slice.result.now ≡ others h.me n.agents = (λ i. others (c.me.ensures i) (c.as_slice.ensures i)) in
    let w = probe_at_node h name (held_view x) x.nodes.nodes refl c.in-Some.node at n wide in
    subst (λ (agents : List ℕ). are_agents (length c.args.names.now) agents ≡ true) (sym same)
    (asked_known (length c.args.names.now) name w.0.name (others h.me n.agents)
    (subst (λ (rs : List Reference). name_agents (length c.args.names.now) rs ≡ true) w.2 c.requires.there))

pub returns-then-len-eq0 : goal.returns-then-len-eq0
returns-then-len-eq0 c =
    let name = c.args.name.now in
    let x = c.args.held.now in
    let h = holdings_view c.args.state.now in
    let k : key_of c.in_ok-above.above ≡ parent (key_of name) = ap key_of c.in_ok-above.ensures ∙ above_key name in
    let f : c.find.result ≡ option_map id_of (node_at x.nodes.nodes (parent (key_of name))) = c.find.ensures
    ∙ (λ i. option_map id_of (node_at (c.tree-tree.ensures.nodes i).nodes (k i))) in
    let at : Some c.in-Some.node ≡ option_map id_of (node_at x.nodes.nodes (parent (key_of name))) = sym c.in-Some.is ∙ f in
    let o : option_map (λ (n : Bor Nssr). nssr_view n.now) c.nssr_at.result ≡ nssr_at (map nssr_view x.nssrs) (parent (key_of name)) =
    c.nssr_at.ensures ∙ ap (nssr_at (map nssr_view x.nssrs)) (ap key_of c.rdns.ensures ∙ k) in
    let n = nssr_view c.in-Some-nssr_at.nssr.now in
    let wide : nssr_at (map nssr_view x.nssrs) (parent (key_of name)) ≡ Some n =
    sym o ∙ ap (option_map (λ (m : Bor Nssr). nssr_view m.now)) c.in-Some-nssr_at.is in
    let same : others c.me.result c.as_slice.result.now ≡ others h.me n.agents = (λ i. others (c.me.ensures i) (c.as_slice.ensures i)) in
    let w = probe_at_node h name (held_view x) x.nodes.nodes refl c.in-Some.node at n wide in
    sym (w.2 ∙ asked_none name w.0.name (others h.me n.agents)
    (ap length (sym same ∙ sym c.in_ok-agents.ensures) ∙ length-map c.in_ok-agents.agents (access_view c.args.names.now)
    ∙ sym c.len.ensures ∙ c.if-len-eq0.true))

pub entry-requires : goal.entry-requires
entry-requires c =
    live_found c.tree-tree.result.now.nodes (key_of c.in_ok-above.above) c.in-Some.node (sym c.in-Some.is ∙ c.find.ensures)

pub name-requires : goal.name-requires
name-requires c =
    live_found c.tree-tree.result.now.nodes (key_of c.in_ok-above.above) c.in-Some.node (sym c.in-Some.is ∙ c.find.ensures)

pub probe_to-requires-clause-long : goal.probe_to-requires-clause-long
probe_to-requires-clause-long c =
    let name = c.args.name.now in
    let x = c.args.held.now in
    let h = holdings_view c.args.state.now in
    let k : key_of c.in_ok-above.above ≡ parent (key_of name) = ap key_of c.in_ok-above.ensures ∙ above_key name in
    let f : c.find.result ≡ option_map id_of (node_at x.nodes.nodes (parent (key_of name))) = c.find.ensures
    ∙ (λ i. option_map id_of (node_at (c.tree-tree.ensures.nodes i).nodes (k i))) in
    let at : Some c.in-Some.node ≡ option_map id_of (node_at x.nodes.nodes (parent (key_of name))) = sym c.in-Some.is ∙ f in
    let numbered : AreNumbered x.nodes.nodes = subst (λ (m : Nodes). AreNumbered m.nodes) c.tree-tree.ensures.nodes c.entry.ensures.numbered in
    let a : IsAbove x.nodes.nodes (parent (key_of name)) c.in_ok-kept.kept = above_named x.nodes.nodes (parent (key_of name)) c.in-Some.node
    c.in_ok-kept.kept at numbered
    (subst (λ (m : Nodes). option_map name_in (node_with m.nodes c.in-Some.node) ≡ Some c.in_ok-kept.kept) c.tree-tree.ensures.nodes
    c.in_ok-kept.ensures) in
    above_long x.nodes.nodes name c.in_ok-kept.kept a c.requires.named

pub returns : goal.returns
returns c =
    let name = c.args.name.now in
    let x = c.args.held.now in
    let h = holdings_view c.args.state.now in
    let k : key_of c.in_ok-above.above ≡ parent (key_of name) = ap key_of c.in_ok-above.ensures ∙ above_key name in
    let f : c.find.result ≡ option_map id_of (node_at x.nodes.nodes (parent (key_of name))) = c.find.ensures
    ∙ (λ i. option_map id_of (node_at (c.tree-tree.ensures.nodes i).nodes (k i))) in
    let at : Some c.in-Some.node ≡ option_map id_of (node_at x.nodes.nodes (parent (key_of name))) = sym c.in-Some.is ∙ f in
    let o : option_map (λ (n : Bor Nssr). nssr_view n.now) c.nssr_at.result ≡ nssr_at (map nssr_view x.nssrs) (parent (key_of name)) =
    c.nssr_at.ensures ∙ ap (nssr_at (map nssr_view x.nssrs)) (ap key_of c.rdns.ensures ∙ k) in
    let n = nssr_view c.in-Some-nssr_at.nssr.now in
    let wide : nssr_at (map nssr_view x.nssrs) (parent (key_of name)) ≡ Some n =
    sym o ∙ ap (option_map (λ (m : Bor Nssr). nssr_view m.now)) c.in-Some-nssr_at.is in
    let same : others c.me.result c.as_slice.result.now ≡ others h.me n.agents = (λ i. others (c.me.ensures i) (c.as_slice.ensures i)) in
    let numbered : AreNumbered x.nodes.nodes = subst (λ (m : Nodes). AreNumbered m.nodes) c.tree-tree.ensures.nodes c.entry.ensures.numbered in
    let a : IsAbove x.nodes.nodes (parent (key_of name)) c.in_ok-kept.kept = above_named x.nodes.nodes (parent (key_of name)) c.in-Some.node
    c.in_ok-kept.kept at numbered
    (subst (λ (m : Nodes). option_map name_in (node_with m.nodes c.in-Some.node) ≡ Some c.in_ok-kept.kept) c.tree-tree.ensures.nodes
    c.in_ok-kept.ensures) in
    let kept = c.in_ok-kept.kept in
    ap (λ (r : Reference). r ∷ []) (c.in_ok-probe_to.ensures c.args.names.now
    ∙ ap (λ (agents : List ℕ). proceeding (length name) kept name NonSpecific agents) (c.in_ok-agents.ensures ∙ same))
    ∙ asked_some name kept (others h.me n.agents)
    (λ e. c.if-len-eq0.false (c.len.ensures ∙ sym (length-map c.in_ok-agents.agents (access_view c.args.names.now))
    ∙ ap length (c.in_ok-agents.ensures ∙ same) ∙ e))
    ∙ ap (λ (spelled : Name). asked name spelled (others h.me n.agents)) (sym a.named)
    ∙ sym (by_nssr h name (held_view x) a.entry a.at (Some n) wide)
