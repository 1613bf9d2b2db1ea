-- What the agreement's supplier sends is by what it holds at the line's moment, and it's the same network.
use Rattle.std.proofs.Common.{◌≡◌, ℕ, ◌<◌, ◌+◌, length, map, subst, sym, ap, ◌∙◌, arith, Result, Err, IfOk, true}
use Rattle.std.proofs.lemmas.List.{length-map}
use Rattle.x5_model.specs.Values.{key_of}
use Rattle.x5_model_tree.specs.World.{Agreement}
use Rattle.x5_holdings.specs.State.{State, holdings_view}
use Rattle.x5_supply.specs.Answers.{Answers}
use Rattle.x5_supply.specs.declared.fault.SupplyFault.{SupplyFault}
use Rattle.x5_refresh.specs.Sent.{supply_of}
use Rattle.x5_world.specs.LogViews.{logs_view}
use Rattle.x5_world.specs.Refreshing.{IsBounded, IsKnown, IsSupplied, is_known_in}
use Rattle.x5_world.specs.State.{Net}
use Rattle.x5_world.specs.declared.refreshing.Supplied.{Supplied}
use Rattle.x5_world.specs.declared.refreshing.Supplied.TheVariants.{Sent, Refused}
use Rattle.x5_world.proofs.Agents.{is_bounded, is_known, is_supplied, net_same, same_with}
use Rattle.x5_world.proofs.Changing.{later}
use Rattle.x5_world.proofs.Holders.{got_place}
use Rattle.x5_world.proofs.world.World.sent_by.Goals.{in-Ok, in-Err-Shadow, in-Err-NoMemory}
use Rattle.x5_world.proofs.world.World.sent_by.Goals as goal

carried : {T E : Type 0} (P : T → Type 0) (r q : Result T E) → r ≡ q → IfOk q P → IfOk r P
carried {T} {E} P r q e h = subst (λ (x : Result T E). IfOk x P) (sym e) h

pub invariant_of-self : goal.invariant_of-self
invariant_of-self c =
    let at : c.agent.inside.0 ≡ c.args.agreement.now.supplier =
    c.agent.view_is ∙ ap (λ (g : Agreement). g.supplier) c.agreement.view_is in
    let names = ap (λ (n : Net). length n.names) c.self.view_is in
    let there : c.agent.inside.0 < length c.self.inside.names = omega (arith, at, names, c.requires) in
    let few : c.agent.inside.0 < length c.self.inside.agents.items =
    (omega (arith, there, c.self.invariant.count, length-map c.self.inside.agents.items holdings_view)) in
    let n : Net = record {
      names = c.self.inside.names;
      agents = map holdings_view c.self.inside.agents.items;
      logs = map logs_view c.self.inside.agents.items;
      network = c.self.inside.links;
      sent = c.self.inside.sent;
      contexts = c.self.inside.contexts;
      pairs = c.self.inside.pairs;
      agreements = c.self.inside.agreements;
      acked = c.self.inside.acked.items;
      line = c.self.inside.line;
    } in
    net_same n c.self.inside.agents.items c.agent.inside.0 c.index_mut-held.result.now
    (got_place c.self.inside.agents.items c.agent.inside.0 c.index_mut-held.result.now few c.index_mut-held.ensures.value)
    c.set_moment.new.self c.self.invariant (later c.index_mut-held.result.now c.set_moment.new.self _ c.set_moment.ensures)

pub returns-clause-same : goal.returns-clause-same
returns-clause-same c =
    let at : c.agent.inside.0 ≡ c.args.agreement.now.supplier =
    c.agent.view_is ∙ ap (λ (g : Agreement). g.supplier) c.agreement.view_is in
    let names = ap (λ (n : Net). length n.names) c.self.view_is in
    let there : c.agent.inside.0 < length c.self.inside.names = omega (arith, at, names, c.requires) in
    let few : c.agent.inside.0 < length c.self.inside.agents.items =
    (omega (arith, there, c.self.invariant.count, length-map c.self.inside.agents.items holdings_view)) in
    let n : Net = record {
      names = c.self.inside.names;
      agents = map holdings_view c.self.inside.agents.items;
      logs = map logs_view c.self.inside.agents.items;
      network = c.self.inside.links;
      sent = c.self.inside.sent;
      contexts = c.self.inside.contexts;
      pairs = c.self.inside.pairs;
      agreements = c.self.inside.agreements;
      acked = c.self.inside.acked.items;
      line = c.self.inside.line;
    } in
    same_with n c.self.inside.agents.items c.agent.inside.0 c.index_mut-held.result.now
    (got_place c.self.inside.agents.items c.agent.inside.0 c.index_mut-held.result.now few c.index_mut-held.ensures.value)
    c.set_moment.new.self (later c.index_mut-held.result.now c.set_moment.new.self _ c.set_moment.ensures)
    ∙ c.self.view_is

pub returns-clause-supplied : goal.returns-clause-supplied
returns-clause-supplied c =
    let at : c.agent.inside.0 ≡ c.args.agreement.now.supplier =
    c.agent.view_is ∙ ap (λ (g : Agreement). g.supplier) c.agreement.view_is in
    let names = ap (λ (n : Net). length n.names) c.self.view_is in
    let there : c.agent.inside.0 < length c.self.inside.names = omega (arith, at, names, c.requires) in
    let few : c.agent.inside.0 < length c.self.inside.agents.items =
    (omega (arith, there, c.self.invariant.count, length-map c.self.inside.agents.items holdings_view)) in
    let n : Net = record {
      names = c.self.inside.names;
      agents = map holdings_view c.self.inside.agents.items;
      logs = map logs_view c.self.inside.agents.items;
      network = c.self.inside.links;
      sent = c.self.inside.sent;
      contexts = c.self.inside.contexts;
      pairs = c.self.inside.pairs;
      agreements = c.self.inside.agreements;
      acked = c.self.inside.acked.items;
      line = c.self.inside.line;
    } in
    let u : State = c.set_moment.new.self in
    let key = sym (ap (λ (g : Agreement). supply_of u (key_of g.context) c.args.total c.args.last) c.agreement.view_is) in
    let moment : u.moment ≡ c.self.inside.line + 1 = ap (λ (s : State). s.moment) c.set_moment.ensures in
    let sends : Supplied → Type 0 = (λ sent. IsSupplied c.args.self.now c.args.agreement.now c.args.total c.args.last sent) in
    elim c.match-supply.branch [
      | in-Ok w ↦
          carried sends c.match-supply.result _ w.result-is
          (is_supplied n c.self.inside.agents.items c.agent.inside.0 c.index_mut-held.result.now
          (got_place c.self.inside.agents.items c.agent.inside.0 c.index_mut-held.result.now few c.index_mut-held.ensures.value)
          c.args.agreement.now c.args.total c.args.last (Sent w.in-Ok.sent.0 w.in-Ok.sent.1) u c.args.self.now
          (sym c.self.view_is) (sym at) (later c.index_mut-held.result.now c.set_moment.new.self _ c.set_moment.ensures) moment
          (key ∙ subst (Answers (supply_of u (key_of c.agreement.inside.context) c.args.total c.args.last)) w.in-Ok.is
          c.supply.ensures.sent))
      | in-Err-Shadow w ↦
          carried sends c.match-supply.result _ w.result-is
          (is_supplied n c.self.inside.agents.items c.agent.inside.0 c.index_mut-held.result.now
          (got_place c.self.inside.agents.items c.agent.inside.0 c.index_mut-held.result.now few c.index_mut-held.ensures.value)
          c.args.agreement.now c.args.total c.args.last (Refused w.in-Err-Shadow.problem) u c.args.self.now (sym c.self.view_is)
          (sym at) (later c.index_mut-held.result.now c.set_moment.new.self _ c.set_moment.ensures) moment
          (key
          ∙ subst (λ (f : SupplyFault). Answers (supply_of u (key_of c.agreement.inside.context) c.args.total c.args.last)
          (Err f)) w.in-Err-Shadow.field-0-is
          (subst (Answers (supply_of u (key_of c.agreement.inside.context) c.args.total c.args.last)) w.in-Err-Shadow.is
          c.supply.ensures.sent)))
      | in-Err-NoMemory w ↦ carried sends c.match-supply.result _ w.result-is tt
    ]

pub returns-clause-known : goal.returns-clause-known
returns-clause-known c =
    let at : c.agent.inside.0 ≡ c.args.agreement.now.supplier =
    c.agent.view_is ∙ ap (λ (g : Agreement). g.supplier) c.agreement.view_is in
    let names = ap (λ (n : Net). length n.names) c.self.view_is in
    let there : c.agent.inside.0 < length c.self.inside.names = omega (arith, at, names, c.requires) in
    let few : c.agent.inside.0 < length c.self.inside.agents.items =
    (omega (arith, there, c.self.invariant.count, length-map c.self.inside.agents.items holdings_view)) in
    let n : Net = record {
      names = c.self.inside.names;
      agents = map holdings_view c.self.inside.agents.items;
      logs = map logs_view c.self.inside.agents.items;
      network = c.self.inside.links;
      sent = c.self.inside.sent;
      contexts = c.self.inside.contexts;
      pairs = c.self.inside.pairs;
      agreements = c.self.inside.agreements;
      acked = c.self.inside.acked.items;
      line = c.self.inside.line;
    } in
    let u : State = c.set_moment.new.self in
    let knows : Supplied → Type 0 = (λ sent. IsKnown (length c.args.self.now.names) sent) in
    elim c.match-supply.branch [
      | in-Ok w ↦
          carried knows c.match-supply.result _ w.result-is
          (subst (λ (k : ℕ). is_known_in k w.in-Ok.sent.1 ≡ true) names
          (is_known n c.self.inside.agents.items c.agent.inside.0 c.index_mut-held.result.now
          (got_place c.self.inside.agents.items c.agent.inside.0 c.index_mut-held.result.now few c.index_mut-held.ensures.value)
          (key_of c.agreement.inside.context) c.args.total c.args.last w.in-Ok.sent.0 w.in-Ok.sent.1 u c.self.invariant there
          (later c.index_mut-held.result.now c.set_moment.new.self _ c.set_moment.ensures)
          (subst (Answers (supply_of u (key_of c.agreement.inside.context) c.args.total c.args.last)) w.in-Ok.is
          c.supply.ensures.sent)))
      | in-Err-Shadow w ↦ carried knows c.match-supply.result _ w.result-is tt
      | in-Err-NoMemory w ↦ carried knows c.match-supply.result _ w.result-is tt
    ]

pub returns-clause-bounded : goal.returns-clause-bounded
returns-clause-bounded c =
    let at : c.agent.inside.0 ≡ c.args.agreement.now.supplier =
    c.agent.view_is ∙ ap (λ (g : Agreement). g.supplier) c.agreement.view_is in
    let names = ap (λ (n : Net). length n.names) c.self.view_is in
    let there : c.agent.inside.0 < length c.self.inside.names = omega (arith, at, names, c.requires) in
    let few : c.agent.inside.0 < length c.self.inside.agents.items =
    (omega (arith, there, c.self.invariant.count, length-map c.self.inside.agents.items holdings_view)) in
    let n : Net = record {
      names = c.self.inside.names;
      agents = map holdings_view c.self.inside.agents.items;
      logs = map logs_view c.self.inside.agents.items;
      network = c.self.inside.links;
      sent = c.self.inside.sent;
      contexts = c.self.inside.contexts;
      pairs = c.self.inside.pairs;
      agreements = c.self.inside.agreements;
      acked = c.self.inside.acked.items;
      line = c.self.inside.line;
    } in
    let u : State = c.set_moment.new.self in
    let moment : u.moment ≡ c.self.inside.line + 1 = ap (λ (s : State). s.moment) c.set_moment.ensures in
    let within : Supplied → Type 0 = (λ sent. IsBounded sent) in
    elim c.match-supply.branch [
      | in-Ok w ↦
          carried within c.match-supply.result _ w.result-is
          (is_bounded n c.self.inside.agents.items c.agent.inside.0 c.index_mut-held.result.now
          (got_place c.self.inside.agents.items c.agent.inside.0 c.index_mut-held.result.now few c.index_mut-held.ensures.value)
          (key_of c.agreement.inside.context) c.args.total c.args.last w.in-Ok.sent.0 w.in-Ok.sent.1 u c.self.invariant
          (later c.index_mut-held.result.now c.set_moment.new.self _ c.set_moment.ensures) moment
          (subst (Answers (supply_of u (key_of c.agreement.inside.context) c.args.total c.args.last)) w.in-Ok.is
          c.supply.ensures.sent))
      | in-Err-Shadow w ↦ carried within c.match-supply.result _ w.result-is tt
      | in-Err-NoMemory w ↦ carried within c.match-supply.result _ w.result-is tt
    ]
