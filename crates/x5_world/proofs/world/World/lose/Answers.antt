-- A message or reply that is to be lost changes the links, and nothing that is held.
use Rattle.std.proofs.Common.{◌≡◌, ℕ, ◌+◌, map, sym, ap, subst, ◌∙◌, arith}
use Rattle.x5_model_run.specs.Network.{after_loss}
use Rattle.x5_model_tree.specs.World.{Network}
use Rattle.x5_holdings.specs.State.{holdings_view}
use Rattle.x5_world.specs.LogViews.{logs_view}
use Rattle.x5_world.specs.State.{Net, StandsAt, HasRoom}
use Rattle.x5_world.proofs.Standing.{after_drop, as_before}
use Rattle.x5_world.proofs.Worlds.{few_lines, one_loss, room_next}
use Rattle.x5_world.proofs.world.World.lose.Goals as goal

pub count_line-requires : goal.count_line-requires
count_line-requires c =
    let e = ap (λ (n : Net). n.line) c.self.view_is in
    let f = few_lines c.args.self.now c.requires.room in
    omega (arith, e, f)

pub returns-clause-stands : goal.returns-clause-stands
returns-clause-stands c =
    let n : Net = record {
      names = c.self.inside.names;
      agents = map holdings_view c.self.inside.agents.items;
      logs = map logs_view c.self.inside.agents.items;
      network = c.self.inside.links;
      sent = c.self.inside.sent;
      contexts = c.self.inside.contexts;
      pairs = c.self.inside.pairs;
      agreements = c.self.inside.agreements;
      acked = c.self.inside.acked.items;
      line = c.self.inside.line;
    } in
    let links : Network = after_loss c.args.reply (n.sent + c.args.number) n.network in
    let now : c.lose.new.self ≡ links =
    c.in_ok-lose.ensures.ok ∙ ap (λ (k : ℕ). after_loss c.args.reply (n.sent + k) n.network) c.from.ensures in
    let e : c.count_line.new.self ≡ record n { network = links; line = n.line + 1 } =
    c.count_line.ensures ∙ ap (λ (k : Network). record n { network = k; line = n.line + 1 }) now in
    λ p s. after_drop n c.count_line.new.self p c.args.reply c.args.number
    (subst (λ (k : Net). StandsAt k p) (sym c.self.view_is) s) (as_before n c.count_line.new.self links e)

pub returns-clause-room_after : goal.returns-clause-room_after
returns-clause-room_after c =
    let n : Net = record {
      names = c.self.inside.names;
      agents = map holdings_view c.self.inside.agents.items;
      logs = map logs_view c.self.inside.agents.items;
      network = c.self.inside.links;
      sent = c.self.inside.sent;
      contexts = c.self.inside.contexts;
      pairs = c.self.inside.pairs;
      agreements = c.self.inside.agreements;
      acked = c.self.inside.acked.items;
      line = c.self.inside.line;
    } in
    let links : Network = after_loss c.args.reply (n.sent + c.args.number) n.network in
    let now : c.lose.new.self ≡ links =
    c.in_ok-lose.ensures.ok ∙ ap (λ (k : ℕ). after_loss c.args.reply (n.sent + k) n.network) c.from.ensures in
    let e : c.count_line.new.self ≡ record n { network = links; line = n.line + 1 } =
    c.count_line.ensures ∙ ap (λ (k : Network). record n { network = k; line = n.line + 1 }) now in
    λ lines h. room_next n c.count_line.new.self links lines e (one_loss c.args.reply (n.sent + c.args.number) n.network)
    (subst (λ (k : Net). HasRoom k lines) (sym c.self.view_is) h)
