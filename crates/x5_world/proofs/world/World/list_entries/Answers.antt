-- It is the same network: of what its supplier holds only a list is made that no contract sees.
use Rattle.std.proofs.Common.{◌≡◌, ◌<◌, length, map, ap, arith, ◌∙◌}
use Rattle.std.proofs.lemmas.List.{length-map}
use Rattle.x5_model_tree.specs.World.{Agreement}
use Rattle.x5_holdings.specs.State.{State, holdings_view}
use Rattle.x5_world.specs.LogViews.{logs_view}
use Rattle.x5_world.specs.State.{Net}
use Rattle.x5_world.proofs.Agents.{net_same, same_with}
use Rattle.x5_world.proofs.Changing.{unchanged}
use Rattle.x5_world.proofs.Holders.{got_place}
use Rattle.x5_world.proofs.world.World.list_entries.Goals as goal

pub invariant_of-self : goal.invariant_of-self
invariant_of-self c =
    let at : c.agent.inside.0 ≡ c.args.agreement.now.supplier =
    c.agent.view_is ∙ ap (λ (g : Agreement). g.supplier) c.agreement.view_is in
    let names = ap (λ (n : Net). length n.names) c.self.view_is in
    let there : c.agent.inside.0 < length c.self.inside.names = omega (arith, at, names, c.requires) in
    let few : c.agent.inside.0 < length c.self.inside.agents.items =
    (omega (arith, there, c.self.invariant.count, length-map c.self.inside.agents.items holdings_view)) in
    let n : Net = record {
      names = c.self.inside.names;
      agents = map holdings_view c.self.inside.agents.items;
      logs = map logs_view c.self.inside.agents.items;
      network = c.self.inside.links;
      sent = c.self.inside.sent;
      contexts = c.self.inside.contexts;
      pairs = c.self.inside.pairs;
      agreements = c.self.inside.agreements;
      acked = c.self.inside.acked.items;
      line = c.self.inside.line;
    } in
    net_same n c.self.inside.agents.items c.agent.inside.0 c.index_mut.result.now
    (got_place c.self.inside.agents.items c.agent.inside.0 c.index_mut.result.now few c.index_mut.ensures.value)
    c.list_entries.new.state c.self.invariant (unchanged c.index_mut.result.now c.list_entries.new.state c.list_entries.ensures)

pub returns : goal.returns
returns c =
    let at : c.agent.inside.0 ≡ c.args.agreement.now.supplier =
    c.agent.view_is ∙ ap (λ (g : Agreement). g.supplier) c.agreement.view_is in
    let names = ap (λ (n : Net). length n.names) c.self.view_is in
    let there : c.agent.inside.0 < length c.self.inside.names = omega (arith, at, names, c.requires) in
    let few : c.agent.inside.0 < length c.self.inside.agents.items =
    (omega (arith, there, c.self.invariant.count, length-map c.self.inside.agents.items holdings_view)) in
    let n : Net = record {
      names = c.self.inside.names;
      agents = map holdings_view c.self.inside.agents.items;
      logs = map logs_view c.self.inside.agents.items;
      network = c.self.inside.links;
      sent = c.self.inside.sent;
      contexts = c.self.inside.contexts;
      pairs = c.self.inside.pairs;
      agreements = c.self.inside.agreements;
      acked = c.self.inside.acked.items;
      line = c.self.inside.line;
    } in
    same_with n c.self.inside.agents.items c.agent.inside.0 c.index_mut.result.now
    (got_place c.self.inside.agents.items c.agent.inside.0 c.index_mut.result.now few c.index_mut.ensures.value)
    c.list_entries.new.state (unchanged c.index_mut.result.now c.list_entries.new.state c.list_entries.ensures)
    ∙ c.self.view_is
