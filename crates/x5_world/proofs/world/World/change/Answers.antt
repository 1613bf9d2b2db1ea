-- An outage or its end changes the links, and nothing that is held.
use Rattle.std.proofs.Common.{◌≡◌, ◌+◌, ◌≤◌, length, map, sym, ap, subst, ◌∙◌, arith}
use Rattle.x5_holdings.specs.State.{holdings_view}
use Rattle.x5_model_run.specs.Network.{after_outage}
use Rattle.x5_model_tree.specs.World.{Network}
use Rattle.x5_ops.specs.JournalViews.{outage_view}
use Rattle.x5_world.specs.LogViews.{logs_view}
use Rattle.x5_world.specs.State.{Net, StandsAt, HasRoom}
use Rattle.x5_world.proofs.Standing.{after_change, as_before}
use Rattle.x5_world.proofs.Worlds.{few_lines, kept_losses, room_next}
use Rattle.x5_world.proofs.world.World.change.Goals as goal

pub count_line-requires : goal.count_line-requires
count_line-requires c =
    let e = ap (λ (n : Net). n.line) c.self.view_is in
    let f = few_lines c.args.self.now c.requires.room in
    omega (arith, e, f)

pub returns-clause-stands : goal.returns-clause-stands
returns-clause-stands c =
    let n : Net = record {
      names = c.self.inside.names;
      agents = map holdings_view c.self.inside.agents.items;
      logs = map logs_view c.self.inside.agents.items;
      network = c.self.inside.links;
      sent = c.self.inside.sent;
      contexts = c.self.inside.contexts;
      pairs = c.self.inside.pairs;
      agreements = c.self.inside.agreements;
      acked = c.self.inside.acked.items;
      line = c.self.inside.line;
    } in
    let links : Network = after_outage (outage_view c.args.outage) n.network in
    λ p s. after_change n c.count_line.new.self p (outage_view c.args.outage)
    (subst (λ (k : Net). StandsAt k p) (sym c.self.view_is) s)
    (as_before n c.count_line.new.self links
    (c.count_line.ensures ∙ ap (λ (k : Network). record n { network = k; line = n.line + 1 }) c.in_ok-change.ensures.ok))

pub returns-clause-room_after : goal.returns-clause-room_after
returns-clause-room_after c =
    let n : Net = record {
      names = c.self.inside.names;
      agents = map holdings_view c.self.inside.agents.items;
      logs = map logs_view c.self.inside.agents.items;
      network = c.self.inside.links;
      sent = c.self.inside.sent;
      contexts = c.self.inside.contexts;
      pairs = c.self.inside.pairs;
      agreements = c.self.inside.agreements;
      acked = c.self.inside.acked.items;
      line = c.self.inside.line;
    } in
    let links : Network = after_outage (outage_view c.args.outage) n.network in
    let lost : length links.lost_replies ≤ length n.network.lost_replies + 1 =
    (let e = ap length (kept_losses (outage_view c.args.outage) n.network) in omega (arith, e)) in
    λ lines h. room_next n c.count_line.new.self links lines
    (c.count_line.ensures ∙ ap (λ (k : Network). record n { network = k; line = n.line + 1 }) c.in_ok-change.ensures.ok) lost
    (subst (λ (k : Net). HasRoom k lines) (sym c.self.view_is) h)
