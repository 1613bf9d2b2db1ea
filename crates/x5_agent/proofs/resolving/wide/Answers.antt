-- The lowest entry is on the way to the target, and the others are agents of the network.
use Rattle.std.proofs.Common.{◌≡◌, ℕ, ◌+◌, ◌≤◌, true, map, length, refl, sym, subst, ap, ◌∙◌, arith}
use Rattle.std.proofs.lemmas.Result.{IfOk-weaker}
use Rattle.x5_model.specs.References.{NonSpecific}
use Rattle.x5_model_heard.specs.Told.{are_agents}
use Rattle.x5_model_run.specs.Needs.{others, proceeding}
use Rattle.x5_model_serve.specs.Finding as finding
use Rattle.x5_ops.specs.ReferenceViews.{access_view, chained_view, reference_view}
use Rattle.x5_ops.specs.declared.references.Reference.{Reference}
use Rattle.x5_holdings.specs.State.{holdings_view}
use Rattle.x5_agent.proofs.Replying.{proceeding_known, as_spelled}
use Rattle.x5_agent.proofs.resolving.wide.Goals as goal

pub overflow_cast-progress : goal.overflow_cast-progress
overflow_cast-progress c =
    let n = c.requires.found.named in
    let long : c.len.result ≡ length n.name =
    c.len.ensures ∙ ap length (c.in_ok-lowest.ensures n c.requires.found.lowest) in
    let near : length n.name + 1 ≤ 255 = c.requires.near.onward (proceeding (length n.name + 1) n.name
    c.args.message.now.target NonSpecific (others c.args.state.now.me c.args.agents.now)) (length n.name + 1)
    c.requires.found.found refl in
    omega (arith, long, near)

pub others-requires-clause-there : goal.others-requires-clause-there
others-requires-clause-there c =
    let n = c.requires.found.named in
    subst (λ (me : ℕ). are_agents (length c.args.names.now) (others me c.args.agents.now) ≡ true) (sym c.me.ensures)
    (proceeding_known (holdings_view c.args.state.now) (chained_view c.args.names.now c.args.message.now) (length n.name
    + 1) n.name NonSpecific (others c.args.state.now.me c.args.agents.now) c.requires.found.found (length
    c.args.names.now) c.requires.known)

pub returns : goal.returns
returns c =
    let n = c.requires.found.named in
    let spelled = c.in_ok-lowest.ensures n c.requires.found.lowest in
    let long : c.len.result ≡ length n.name = c.len.ensures ∙ ap length spelled in
    IfOk-weaker c.reference.result _
    (λ (r : Reference). finding.find (holdings_view c.args.state.now) (chained_view c.args.names.now
    c.args.message.now) ≡ finding.Onward (reference_view c.args.names.now r))
    (λ r p. as_spelled (holdings_view c.args.state.now) (chained_view c.args.names.now c.args.message.now) (length n.name
    + 1) n.name NonSpecific (others c.args.state.now.me c.args.agents.now) c.requires.found.found (c.len.result + 1) _
    (map (access_view c.args.names.now) c.in_ok-others.others) (ap (λ (l : ℕ). l + 1) (sym long)) (sym spelled)
    (ap (λ (me : ℕ). others me c.args.agents.now) (sym c.me.ensures) ∙ sym c.in_ok-others.ensures)
    ∙ ap finding.Onward (sym (p c.args.names.now)))
    c.reference.ensures
