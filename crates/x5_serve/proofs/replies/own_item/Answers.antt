-- The item is the agent's own, since its name stands once among the names.
use Rattle.std.proofs.Common.{◌≡◌, sym, ap, subst, ◌∙◌}
use Rattle.x5_ops.specs.AgentNames.{agent_of}
use Rattle.x5_ops.specs.ReferenceViews.{progress_view}
use Rattle.x5_trace.specs.Items.{IsNamed}
use Rattle.x5_serve.proofs.Values.{own_place, own_named}
use Rattle.x5_serve.proofs.replies.own_item.Goals as goal

pub returns-clause-item : goal.returns-clause-item
returns-clause-item c =
    let agent : agent_of c.args.names.now c.in_ok-clone.field-0 ≡ c.args.me =
    ap (agent_of c.args.names.now) c.in_ok-clone.ensures.cases
    ∙ own_place c.args.names.now c.args.me c.name.result.now c.requires.apart c.name.ensures in
    λ i. record {
      agent = agent i;
      target = c.in_ok-clone-2.ensures.cases i;
      progress = progress_view c.args.message.now.progress;
      wide = c.is_wide.ensures i;
    }

pub returns-clause-named : goal.returns-clause-named
returns-clause-named c =
    subst (IsNamed c.args.names.now) (sym c.in_ok-clone.ensures.cases)
    (own_named c.args.names.now c.args.me c.name.result.now c.name.ensures)
