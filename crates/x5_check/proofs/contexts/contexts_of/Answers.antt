-- The contexts of one agent more.
use Rattle.std.proofs.Common.{◌≡◌, ◌<◌, List, ◌++◌, map, length, get_or, subst, ap, ◌∙◌}
use Rattle.x5_ops.specs.KnowledgeViews.{context_view}
use Rattle.x5_ops.specs.declared.knowledge.ContextSpec.{ContextSpec}
use Rattle.x5_know.specs.declared.described.DescribedAgent.{DescribedAgent}
use Rattle.x5_check.specs.Numbers.{of_agent}
use Rattle.x5_check.proofs.Held.{more_held}
use Rattle.x5_check.proofs.contexts.contexts_of.Goals as goal

pub loop-place-preserved : goal.loop-place-preserved
loop-place-preserved c =
    more_held c.args.world.now.agents c.loop-place.place c.agent-item.result c.loop-place.held.items c.in_ok-held.held.items _ (subst (λ (xs : List DescribedAgent). c.loop-place.place < length xs) c.as_slice-agent-items.ensures c.loop-place-test.true) (subst (λ (xs : List DescribedAgent). c.agent-item.result ≡ get_or xs c.loop-place.place c.agent-item.result) c.as_slice-agent-items.ensures c.agent-item.is)
    (c.in_ok-held.ensures ∙ ap (λ (cs : List ContextSpec). c.loop-place.held.items ++ of_agent c.loop-place.place (map context_view cs)) c.as_slice.ensures)
    c.loop-place.invariant
