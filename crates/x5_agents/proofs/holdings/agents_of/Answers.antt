-- Each agent of the list is one more, until none is left.
use Rattle.std.proofs.Common.{◌≡◌, ℕ, ◌<◌, ◌≤◌, List, length, get_or, sym, ap, subst, ◌∙◌, arith}
use Rattle.std.specs.List.{list_all}
use Rattle.x5_model_tree.specs.World.{Agent}
use Rattle.x5_ops.proofs.Dropping.{all_at}
use Rattle.x5_know.specs.declared.described.DescribedAgent.{DescribedAgent}
use Rattle.x5_know.specs.WorldView.{described_agent_view, world_view}
use Rattle.x5_agents.specs.Growing.{is_whole}
use Rattle.x5_agents.proofs.Described.{all_whole}
use Rattle.x5_agents.specs.Unnoted.{AllUnnoted}
use Rattle.x5_agents.proofs.Each.{one_each}
use Rattle.x5_agents.proofs.Unnoted.{nobody_yet, one_agent_more}
use Rattle.x5_agents.proofs.holdings.agents_of.Goals as goal

at_end : (i n : ℕ) → i ≤ n → n ≤ i → i ≡ n
at_end i n a b = omega arith

within : (m i n : ℕ) → n ≤ i → m < n → m < i
within m i n a b = omega arith

pub loop-place-init : goal.loop-place-init
loop-place-init c = (
  (ap length c.new-all.ensures.items, λ me l. absurd (omega arith)),
  subst AllUnnoted (sym c.new-all.ensures.items) nobody_yet,
)

pub holdings_of-requires : goal.holdings_of-requires
holdings_of-requires c =
    all_at (λ (a : Agent). list_all is_whole a.contexts) described_agent_view c.args.world.now.agents c.loop-place.place
    c.agent-item.result (all_whole (world_view c.args.world.now) c.requires)
    (subst (λ (xs : List DescribedAgent). c.loop-place.place < length xs) c.as_slice-agent-items.ensures c.loop-place-test.true)
    (c.agent-item.is ∙ ap (λ (xs : List DescribedAgent). get_or xs c.loop-place.place c.agent-item.result) c.as_slice-agent-items.ensures)

pub loop-place-preserved : goal.loop-place-preserved
loop-place-preserved c = (
  one_each c.args.world.now c.loop-place.all.items c.push.new.self.items c.loop-place.place c.agent-item.result
      c.in_ok-holdings_of.field-0
      (subst (λ (xs : List DescribedAgent). c.loop-place.place < length xs) c.as_slice-agent-items.ensures c.loop-place-test.true)
      (c.agent-item.is ∙ ap (λ (xs : List DescribedAgent). get_or xs c.loop-place.place c.agent-item.result) c.as_slice-agent-items.ensures)
      c.in_ok-push.ensures.items c.in_ok-holdings_of.ensures.held c.loop-place.invariant.0,
  one_agent_more c.loop-place.all.items c.push.new.self.items c.in_ok-holdings_of.field-0 c.in_ok-push.ensures.items
      c.in_ok-holdings_of.ensures.unnoted c.loop-place.invariant.1,
)

pub returns-clause-count : goal.returns-clause-count
returns-clause-count c =
    c.loop-place.invariant.0.0
    ∙ at_end c.loop-place.place (length c.as_slice-agent-items.result.now) c.loop-place.auto.place-end c.loop-place-test.false
    ∙ ap length c.as_slice-agent-items.ensures

pub returns-clause-each : goal.returns-clause-each
returns-clause-each c me l =
    c.loop-place.invariant.0.1 me
    (within me c.loop-place.place (length c.as_slice-agent-items.result.now) c.loop-place-test.false
    (subst (λ (xs : List DescribedAgent). me < length xs) (sym c.as_slice-agent-items.ensures) l))
