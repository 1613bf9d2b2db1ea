-- Its parts are those that are described.
use Rattle.std.proofs.Common.{◌≡◌, ◌==◌, List, [], map, sym, ap, subst, ◌∙◌}
use Rattle.std.proofs.lemmas.Result.{IfOk-weaker}
use Rattle.std.specs.List.{filter}
use Rattle.x5_model_tree.specs.World as model
use Rattle.x5_model_tree.specs.Masters.{held_contexts}
use Rattle.x5_model_run.specs.History.{first_agreements}
use Rattle.x5_model_held.specs.Beginning.{described_context, described_copy, described_holdings}
use Rattle.x5_holdings.specs.State.{State, holdings_view}
use Rattle.x5_know.specs.WorldView.{described_agent_view, world_view}
use Rattle.x5_ops.specs.declared.knowledge.Cross.{Cross}
use Rattle.x5_ops.specs.KnowledgeViews.{context_view, specific_view, cross_view}
use Rattle.x5_agents.specs.Unnoted.{AreUnnoted}
use Rattle.x5_agents.proofs.Parts.{held_by_parts}
use Rattle.x5_agents.proofs.holdings.holdings_of.Goals as goal

pub returns-clause-held : goal.returns-clause-held
returns-clause-held c =
    IfOk-weaker c.new.result
    (λ (h : State). h ≡ record {
      me = c.args.me;
      moment = 0;
      superior = c.args.agent.now.spec.superior;
      own = c.in_ok-own.own.items;
      copies = c.in_ok-copies.copies.items;
      root = c.in_ok-root.root;
      cross = c.in_ok-cross.cross;
    })
    (λ (h : State). holdings_view h ≡ described_holdings (world_view c.args.world.now) c.args.me (described_agent_view c.args.agent.now))
    (λ h is. held_by_parts (world_view c.args.world.now) c.args.me (described_agent_view c.args.agent.now) h c.in_ok-own.own.items
    c.in_ok-copies.copies.items c.in_ok-root.root c.in_ok-cross.cross is
    (c.in_ok-own.ensures.held
    ∙ (λ i. map (described_context (map specific_view (c.as_slice-2.ensures i))) (held_contexts [] (map context_view (c.as_slice.ensures i)))))
    (c.in_ok-copies.ensures.copies
    ∙ ap (λ (l : List model.Agreement). map described_copy (first_agreements [] (filter (λ (g : model.Agreement). g.consumer == c.args.me) l))) c.as_slice-3.ensures)
    c.in_ok-root.ensures (ap (λ (l : List Cross). map cross_view l) (c.in_ok-cross.ensures ∙ c.as_slice-4.ensures)))
    c.new.ensures

pub returns-clause-unnoted : goal.returns-clause-unnoted
returns-clause-unnoted c =
    IfOk-weaker c.new.result
    (λ (h : State). h ≡ record {
      me = c.args.me;
      moment = 0;
      superior = c.args.agent.now.spec.superior;
      own = c.in_ok-own.own.items;
      copies = c.in_ok-copies.copies.items;
      root = c.in_ok-root.root;
      cross = c.in_ok-cross.cross;
    })
    (λ (h : State). AreUnnoted h.own)
    (λ h is. subst (λ (s : State). AreUnnoted s.own) (sym is) c.in_ok-own.ensures.unnoted)
    c.new.ensures
