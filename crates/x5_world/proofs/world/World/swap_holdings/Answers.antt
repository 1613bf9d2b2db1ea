-- The agent holds what it's given, and gives back what it held, with what it kept of changes; it's a network as before.
use Rattle.std.proofs.Common.{◌≡◌, ℕ, ◌<◌, length, map, slice_get, slice_set, subst, sym, ap, ◌∙◌, arith, Some}
use Rattle.std.proofs.lemmas.List.{length-map}
use Rattle.x5_holdings.specs.State.{State, holdings_view}
use Rattle.x5_world.specs.LogViews.{logs_view}
use Rattle.x5_world.specs.Places.{FitsPlace}
use Rattle.x5_world.specs.State.{Net}
use Rattle.x5_world.proofs.Agents.{fits, held_there, kept_there, net_put, put_is}
use Rattle.x5_world.proofs.Holders.{got_place}
use Rattle.x5_world.proofs.world.World.swap_holdings.Goals as goal

pub invariant_of-self : goal.invariant_of-self
invariant_of-self c =
    let at : c.agent.inside.0 ≡ c.args.agent = c.agent.view_is in
    let names = ap (λ (n : Net). length n.names) c.self.view_is in
    let there : c.agent.inside.0 < length c.self.inside.names = omega (arith, at, names, c.requires.there) in
    let few : c.agent.inside.0 < length c.self.inside.agents.items =
    (omega (arith, there, c.self.invariant.count, length-map c.self.inside.agents.items holdings_view)) in
    let n : Net = record {
      names = c.self.inside.names;
      agents = map holdings_view c.self.inside.agents.items;
      logs = map logs_view c.self.inside.agents.items;
      network = c.self.inside.links;
      sent = c.self.inside.sent;
      contexts = c.self.inside.contexts;
      pairs = c.self.inside.pairs;
      agreements = c.self.inside.agreements;
      acked = c.self.inside.acked.items;
      line = c.self.inside.line;
    } in
    let it = got_place c.self.inside.agents.items c.agent.inside.0 c.index_mut.result.now few c.index_mut.ensures.value in
    net_put n c.self.inside.agents.items c.agent.inside.0 c.index_mut.result.now it c.replace.new.dest c.self.invariant
    (subst (λ (s : State). FitsPlace (length c.self.inside.names) c.agent.inside.0 s) (sym c.replace.ensures.after)
    (subst (λ (a : ℕ). FitsPlace (length c.self.inside.names) a c.args.holdings) (sym at)
    (subst (λ (k : ℕ). FitsPlace k c.args.agent c.args.holdings) (sym names) c.requires.fits)))

pub returns-clause-fits : goal.returns-clause-fits
returns-clause-fits c =
    let at : c.agent.inside.0 ≡ c.args.agent = c.agent.view_is in
    let names = ap (λ (n : Net). length n.names) c.self.view_is in
    let there : c.agent.inside.0 < length c.self.inside.names = omega (arith, at, names, c.requires.there) in
    let few : c.agent.inside.0 < length c.self.inside.agents.items =
    (omega (arith, there, c.self.invariant.count, length-map c.self.inside.agents.items holdings_view)) in
    let n : Net = record {
      names = c.self.inside.names;
      agents = map holdings_view c.self.inside.agents.items;
      logs = map logs_view c.self.inside.agents.items;
      network = c.self.inside.links;
      sent = c.self.inside.sent;
      contexts = c.self.inside.contexts;
      pairs = c.self.inside.pairs;
      agreements = c.self.inside.agreements;
      acked = c.self.inside.acked.items;
      line = c.self.inside.line;
    } in
    let it = got_place c.self.inside.agents.items c.agent.inside.0 c.index_mut.result.now few c.index_mut.ensures.value in
    subst (λ (k : ℕ). FitsPlace k c.args.agent c.replace.result) names
    (subst (λ (a : ℕ). FitsPlace (length c.self.inside.names) a c.replace.result) at
    (subst (λ (s : State). FitsPlace (length c.self.inside.names) c.agent.inside.0 s) (sym c.replace.ensures.value)
    (fits n c.self.inside.agents.items c.agent.inside.0 c.index_mut.result.now it c.self.invariant)))

pub returns-clause-held : goal.returns-clause-held
returns-clause-held c =
    let at : c.agent.inside.0 ≡ c.args.agent = c.agent.view_is in
    let names = ap (λ (n : Net). length n.names) c.self.view_is in
    let there : c.agent.inside.0 < length c.self.inside.names = omega (arith, at, names, c.requires.there) in
    let few : c.agent.inside.0 < length c.self.inside.agents.items =
    (omega (arith, there, c.self.invariant.count, length-map c.self.inside.agents.items holdings_view)) in
    let n : Net = record {
      names = c.self.inside.names;
      agents = map holdings_view c.self.inside.agents.items;
      logs = map logs_view c.self.inside.agents.items;
      network = c.self.inside.links;
      sent = c.self.inside.sent;
      contexts = c.self.inside.contexts;
      pairs = c.self.inside.pairs;
      agreements = c.self.inside.agreements;
      acked = c.self.inside.acked.items;
      line = c.self.inside.line;
    } in
    let it = got_place c.self.inside.agents.items c.agent.inside.0 c.index_mut.result.now few c.index_mut.ensures.value in
    sym (ap (λ (x : Net). slice_get x.agents c.args.agent) c.self.view_is)
    ∙ ap (slice_get (map holdings_view c.self.inside.agents.items)) (sym at)
    ∙ held_there n c.self.inside.agents.items c.agent.inside.0 c.index_mut.result.now it
    ∙ ap (λ (s : State). Some (holdings_view s)) (sym c.replace.ensures.value)

pub returns-clause-kept : goal.returns-clause-kept
returns-clause-kept c =
    let at : c.agent.inside.0 ≡ c.args.agent = c.agent.view_is in
    let names = ap (λ (n : Net). length n.names) c.self.view_is in
    let there : c.agent.inside.0 < length c.self.inside.names = omega (arith, at, names, c.requires.there) in
    let few : c.agent.inside.0 < length c.self.inside.agents.items =
    (omega (arith, there, c.self.invariant.count, length-map c.self.inside.agents.items holdings_view)) in
    let n : Net = record {
      names = c.self.inside.names;
      agents = map holdings_view c.self.inside.agents.items;
      logs = map logs_view c.self.inside.agents.items;
      network = c.self.inside.links;
      sent = c.self.inside.sent;
      contexts = c.self.inside.contexts;
      pairs = c.self.inside.pairs;
      agreements = c.self.inside.agreements;
      acked = c.self.inside.acked.items;
      line = c.self.inside.line;
    } in
    let it = got_place c.self.inside.agents.items c.agent.inside.0 c.index_mut.result.now few c.index_mut.ensures.value in
    sym (ap (λ (x : Net). slice_get x.logs c.args.agent) c.self.view_is)
    ∙ ap (slice_get (map logs_view c.self.inside.agents.items)) (sym at)
    ∙ kept_there n c.self.inside.agents.items c.agent.inside.0 c.index_mut.result.now it
    ∙ ap (λ (s : State). Some (logs_view s)) (sym c.replace.ensures.value)

pub returns-clause-swapped : goal.returns-clause-swapped
returns-clause-swapped c =
    let at : c.agent.inside.0 ≡ c.args.agent = c.agent.view_is in
    let names = ap (λ (n : Net). length n.names) c.self.view_is in
    let there : c.agent.inside.0 < length c.self.inside.names = omega (arith, at, names, c.requires.there) in
    let few : c.agent.inside.0 < length c.self.inside.agents.items =
    (omega (arith, there, c.self.invariant.count, length-map c.self.inside.agents.items holdings_view)) in
    let n : Net = record {
      names = c.self.inside.names;
      agents = map holdings_view c.self.inside.agents.items;
      logs = map logs_view c.self.inside.agents.items;
      network = c.self.inside.links;
      sent = c.self.inside.sent;
      contexts = c.self.inside.contexts;
      pairs = c.self.inside.pairs;
      agreements = c.self.inside.agreements;
      acked = c.self.inside.acked.items;
      line = c.self.inside.line;
    } in
    let it = got_place c.self.inside.agents.items c.agent.inside.0 c.index_mut.result.now few c.index_mut.ensures.value in
    let now : Net = c.args.self.now in
    put_is n c.self.inside.agents.items c.agent.inside.0 c.index_mut.result.now it c.replace.new.dest now c.self.view_is
    ∙ ap (λ (a : ℕ). record now {
      agents = slice_set now.agents a (holdings_view c.replace.new.dest);
      logs = slice_set now.logs a (logs_view c.replace.new.dest);
    }) at
    ∙ ap (λ (s : State). record now {
      agents = slice_set now.agents c.args.agent (holdings_view s);
      logs = slice_set now.logs c.args.agent (logs_view s);
    }) c.replace.ensures.after
