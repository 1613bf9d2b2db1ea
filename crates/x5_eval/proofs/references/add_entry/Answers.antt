-- Each of the agents, where the entry is in scope.
use Rattle.std.proofs.Common.{arith, ◌≡◌, false, true, ◌++◌, ◌∙◌, List, ap, length, map, subst, sym}
use Rattle.x5_model.specs.References as model
use Rattle.x5_ops.specs.ReferenceViews.{chained_view, reference_view}
use Rattle.x5_ops.specs.RequestViews.{subset_view}
use Rattle.x5_holdings.specs.State.{held_view, holdings_view}
use Rattle.x5_eval.specs.Rest.{AreKnown}
use Rattle.x5_eval.proofs.Adding.{no_more, on_ok}
use Rattle.x5_eval.proofs.Resting.{in_its_scope, out_of_scope}
use Rattle.x5_eval.proofs.references.add_entry.Goals as goal

pub returns-then-not-is_in_scope : goal.returns-then-not-is_in_scope
returns-then-not-is_in_scope c =
    no_more (map (reference_view c.args.names.now) c.args.found.now) _
    (out_of_scope (holdings_view c.args.state.now) (chained_view c.args.names.now c.args.message.now) (subset_view c.args.subset) (held_view c.args.held.now) c.args.agents.now c.args.name.now (sym c.is_in_scope.ensures ∙ (let e : c.is_in_scope.result ≡ false = grind (arith, c.if-not-is_in_scope.true) in e)))

pub add_agents-requires-clause-known : goal.add_agents-requires-clause-known
add_agents-requires-clause-known c =
    subst (λ (l : List model.Reference). AreKnown (length c.args.names.now) l)
    (in_its_scope (holdings_view c.args.state.now) (chained_view c.args.names.now c.args.message.now) (subset_view c.args.subset) (held_view c.args.held.now) c.args.agents.now c.args.name.now c.deref.result.now c.me.result
    (sym c.is_in_scope.ensures ∙ (let e : c.is_in_scope.result ≡ true = grind (arith, c.if-not-is_in_scope.false) in e)) (c.deref.ensures.value ∙ c.in_ok-left_out.ensures) c.me.ensures) c.requires.known

pub returns : goal.returns
returns c =
    on_ok _ _ (λ e. e ∙ ap (λ (l : List model.Reference). map (reference_view c.args.names.now) c.args.found.now ++ l) (sym
    (in_its_scope (holdings_view c.args.state.now) (chained_view c.args.names.now c.args.message.now) (subset_view c.args.subset) (held_view c.args.held.now) c.args.agents.now c.args.name.now c.deref.result.now c.me.result
    (sym c.is_in_scope.ensures ∙ (let e : c.is_in_scope.result ≡ true = grind (arith, c.if-not-is_in_scope.false) in e)) (c.deref.ensures.value ∙ c.in_ok-left_out.ensures) c.me.ensures)))
    c.add_agents.result c.add_agents.ensures
