-- What is held at a place is its agent's, by what is so of the network.
use Rattle.std.proofs.Common.{◌≡◌, ℕ, ◌<◌, List, length, ap, subst, arith}
use Rattle.std.proofs.lemmas.List.{length-map}
use Rattle.x5_model_run.specs.Holdings.{Holdings}
use Rattle.x5_holdings.specs.State.{holdings_view}
use Rattle.x5_world.specs.State.{Net}
use Rattle.x5_world.specs.Sent.{IsHolder}
use Rattle.x5_world.proofs.Holders.{at_place}
use Rattle.x5_world.proofs.world.World.held.Goals as goal

pub returns-clause-holder : goal.returns-clause-holder
returns-clause-holder c =
    let at : c.agent.inside.0 ≡ c.args.agent = c.agent.view_is in
    let names = ap (λ (n : Net). length n.names) c.self.view_is in
    let few : c.agent.inside.0 < length c.self.inside.agents.items =
    (omega (arith, at, names, c.requires, c.self.invariant.count, length-map c.self.inside.agents.items holdings_view)) in
    let held : Holdings = holdings_view c.index.result.now in
    subst (λ (ns : List (List ℕ)). IsHolder ns c.args.agent held) (ap (λ (n : Net). n.names) c.self.view_is)
    (subst (λ (a : ℕ). IsHolder c.self.inside.names a held) at
    (c.self.invariant.each c.agent.inside.0 held
    (at_place holdings_view c.self.inside.agents.items c.agent.inside.0 c.index.result.now few c.index.ensures)))
