-- The new name is as short as the object's, and isn't the root.
use Rattle.std.proofs.Common.{◌≡◌, true, Option, length, sym, subst, ◌∙◌}
use Rattle.x5_model.specs.Values.{Name}
use Rattle.x5_model_heard.specs.Told.{name_agents}
use Rattle.x5_ops.specs.RequestViews.{body_view}
use Rattle.x5_holdings.specs.State.{held_view, holdings_view}
use Rattle.x5_update.specs.Judging.{probes_from}
use Rattle.x5_update.proofs.Preparing.{new_named, new_short}
use Rattle.x5_update.proofs.probes.probe.Goals as goal

pub probe_at-requires-clause-there : goal.probe_at-requires-clause-there
probe_at-requires-clause-there c =
    subst (λ (o : Option Name). name_agents (length c.args.names.now) (probes_from (holdings_view c.args.state.now) (held_view c.args.held.now) o)
    ≡ true) (sym c.in_ok-new_name_of.ensures ∙ c.in-Some.is) c.requires.there

pub probe_at-requires-clause-short : goal.probe_at-requires-clause-short
probe_at-requires-clause-short c =
    new_short (body_view c.args.body.now) c.in-Some.name (sym c.in_ok-new_name_of.ensures ∙ c.in-Some.is) c.requires.short

pub probe_at-requires-clause-named : goal.probe_at-requires-clause-named
probe_at-requires-clause-named c =
    new_named (body_view c.args.body.now) c.in-Some.name (sym c.in_ok-new_name_of.ensures ∙ c.in-Some.is) c.requires.named
