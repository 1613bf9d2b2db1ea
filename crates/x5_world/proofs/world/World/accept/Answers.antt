-- What the agreement's consumer takes becomes its copy, and it's a network as before.
use Rattle.std.proofs.Common.{◌≡◌, ℕ, ◌<◌, length, map, subst, sym, ap, ◌∙◌, arith, true}
use Rattle.std.proofs.lemmas.List.{length-map}
use Rattle.x5_model.specs.Values.{key_of}
use Rattle.x5_model_tree.specs.World.{Agreement}
use Rattle.x5_holdings.specs.State.{holdings_view}
use Rattle.x5_consume.specs.Taken.{IsTaken}
use Rattle.x5_refresh.specs.Sent.{IsRefreshed}
use Rattle.x5_world.specs.LogViews.{logs_view}
use Rattle.x5_world.specs.Refreshing.{is_known_in}
use Rattle.x5_world.specs.State.{Net}
use Rattle.x5_world.proofs.Agents.{is_taken, taken_net, when_ok}
use Rattle.x5_world.proofs.Changing.{later}
use Rattle.x5_world.proofs.Holders.{got_place}
use Rattle.x5_world.proofs.world.World.accept.Goals as goal

pub invariant_of-self : goal.invariant_of-self
invariant_of-self c =
    let at : c.agent.inside.0 ≡ c.args.agreement.now.consumer =
    c.agent.view_is ∙ ap (λ (g : Agreement). g.consumer) c.agreement.view_is in
    let names = ap (λ (n : Net). length n.names) c.self.view_is in
    let there : c.agent.inside.0 < length c.self.inside.names = omega (arith, at, names, c.requires.there) in
    let few : c.agent.inside.0 < length c.self.inside.agents.items =
    (omega (arith, there, c.self.invariant.count, length-map c.self.inside.agents.items holdings_view)) in
    let n : Net = record {
      names = c.self.inside.names;
      agents = map holdings_view c.self.inside.agents.items;
      logs = map logs_view c.self.inside.agents.items;
      network = c.self.inside.links;
      sent = c.self.inside.sent;
      contexts = c.self.inside.contexts;
      pairs = c.self.inside.pairs;
      agreements = c.self.inside.agreements;
      acked = c.self.inside.acked.items;
      line = c.self.inside.line;
    } in
    let taken = when_ok (IsTaken c.set_moment.new.self (key_of c.agreement.inside.context)
    (IsRefreshed c.args.brought c.args.stamp) c.accept.new.consumer) c.accept.result _ c.in-Ok.is c.accept.ensures.ok in
    taken_net n c.self.inside.agents.items c.agent.inside.0 c.index_mut-held.result.now
    (got_place c.self.inside.agents.items c.agent.inside.0 c.index_mut-held.result.now few c.index_mut-held.ensures.value)
    (key_of c.agreement.inside.context) c.args.stamp c.args.brought c.set_moment.new.self c.accept.new.consumer
    c.self.invariant (later c.index_mut-held.result.now c.set_moment.new.self _ c.set_moment.ensures)
    (subst (λ (k : ℕ). is_known_in k c.args.brought ≡ true) (sym names) c.requires.known)
    c.requires.stamped c.requires.bounded taken

pub returns-clause-taken : goal.returns-clause-taken
returns-clause-taken c =
    let at : c.agent.inside.0 ≡ c.args.agreement.now.consumer =
    c.agent.view_is ∙ ap (λ (g : Agreement). g.consumer) c.agreement.view_is in
    let names = ap (λ (n : Net). length n.names) c.self.view_is in
    let there : c.agent.inside.0 < length c.self.inside.names = omega (arith, at, names, c.requires.there) in
    let few : c.agent.inside.0 < length c.self.inside.agents.items =
    (omega (arith, there, c.self.invariant.count, length-map c.self.inside.agents.items holdings_view)) in
    let n : Net = record {
      names = c.self.inside.names;
      agents = map holdings_view c.self.inside.agents.items;
      logs = map logs_view c.self.inside.agents.items;
      network = c.self.inside.links;
      sent = c.self.inside.sent;
      contexts = c.self.inside.contexts;
      pairs = c.self.inside.pairs;
      agreements = c.self.inside.agreements;
      acked = c.self.inside.acked.items;
      line = c.self.inside.line;
    } in
    let taken = when_ok (IsTaken c.set_moment.new.self (key_of c.agreement.inside.context)
    (IsRefreshed c.args.brought c.args.stamp) c.accept.new.consumer) c.accept.result _ c.in-Ok.is c.accept.ensures.ok in
    is_taken n c.self.inside.agents.items c.agent.inside.0 c.index_mut-held.result.now
    (got_place c.self.inside.agents.items c.agent.inside.0 c.index_mut-held.result.now few c.index_mut-held.ensures.value)
    c.args.agreement.now c.args.stamp c.args.brought c.set_moment.new.self c.accept.new.consumer c.args.self.now
    c.self.view_is (sym at) (later c.index_mut-held.result.now c.set_moment.new.self _ c.set_moment.ensures)
    (subst (λ (g : Agreement). IsTaken c.set_moment.new.self (key_of g.context) (IsRefreshed c.args.brought c.args.stamp)
    c.accept.new.consumer) c.agreement.view_is taken)
