-- Each way that name resolution ends, with what is made of it, is told as what is found; the root is asked for by a list
-- or search alone.
use Rattle.std.proofs.Common.{length, inl, inr, sym, ap, subst, ◌∙◌}
use Rattle.x5_ops.specs.ReferenceViews.{chained_view}
use Rattle.x5_holdings.specs.State.{holdings_view}
use Rattle.x5_model_serve.specs.Finding as finding
use Rattle.x5_find.specs.Finds.{Finds, IsNowhere}
use Rattle.x5_find.specs.declared.found.Found.TheVariants as place
use Rattle.x5_agent.proofs.Alone.{root_query}
use Rattle.x5_agent.proofs.Queries.{begins_at_root}
use Rattle.x5_agent.proofs.Saying.{asked_known, nowhere_by}
use Rattle.x5_agent.proofs.resolving.at_name.Goals as goal

pub part-requires-clause-query : goal.part-requires-clause-query
part-requires-clause-query c =
    root_query (holdings_view c.args.state.now) (chained_view c.args.names.now c.args.message.now) c.requires.unrefused
    c.requires.fit (subst (Finds c.args.state.now (chained_view c.args.names.now c.args.message.now)) c.in-Root.is
    (c.find.ensures c.args.names.now))

pub part-requires-clause-begins : goal.part-requires-clause-begins
part-requires-clause-begins c =
    begins_at_root (holdings_view c.args.state.now) (chained_view c.args.names.now c.args.message.now)
    (part-requires-clause-query c) (subst (Finds c.args.state.now (chained_view c.args.names.now c.args.message.now))
    c.in-Root.is (c.find.ensures c.args.names.now))

pub asked-requires-clause-there : goal.asked-requires-clause-there
asked-requires-clause-there c =
    asked_known c.args.state.now (chained_view c.args.names.now c.args.message.now) c.in-Go.kind c.in-Go.progress
    c.in-Go.known c.in-Go.to
    (subst (Finds c.args.state.now (chained_view c.args.names.now c.args.message.now)) c.in-Go.is
    (c.find.ensures c.args.names.now)) (length c.args.names.now) c.requires.known

pub name_at-requires : goal.name_at-requires
name_at-requires c =
    let e : IsNowhere c.args.state.now (chained_view c.args.names.now c.args.message.now) c.in-NoSuchObject-Some.own
    c.in-NoSuchObject-Some.node = subst (Finds c.args.state.now (chained_view c.args.names.now c.args.message.now))
    (c.in-NoSuchObject-Some.is ∙ ap place.NoSuchObject c.in-NoSuchObject-Some.at-is)
    (c.find.ensures c.args.names.now) in
    (e.named, e.lowest)

pub returns-in-NoSuchObject-None : goal.returns-in-NoSuchObject-None
returns-in-NoSuchObject-None c =
    (subst (Finds c.args.state.now (chained_view c.args.names.now c.args.message.now))
    (c.in-NoSuchObject-None.is ∙ ap place.NoSuchObject c.in-NoSuchObject-None.at-is) (c.find.ensures
    c.args.names.now) ∙ ap finding.Nowhere (sym c.root.ensures))

pub returns-in_ok-name_at-in-NoSuchObject-Some : goal.returns-in_ok-name_at-in-NoSuchObject-Some
returns-in_ok-name_at-in-NoSuchObject-Some c =
    nowhere_by c.args.state.now (chained_view c.args.names.now c.args.message.now) c.in-NoSuchObject-Some.own
    c.in-NoSuchObject-Some.node c.in_ok-name_at-in-NoSuchObject-Some.field-0
    (subst (Finds c.args.state.now (chained_view c.args.names.now c.args.message.now))
    (c.in-NoSuchObject-Some.is ∙ ap place.NoSuchObject c.in-NoSuchObject-Some.at-is) (c.find.ensures
    c.args.names.now)) c.in_ok-name_at-in-NoSuchObject-Some.ensures

pub returns-in-UnableToProceed : goal.returns-in-UnableToProceed
returns-in-UnableToProceed c =
    elim c.in-UnableToProceed.is [
      | inl e ↦ (subst (Finds c.args.state.now (chained_view c.args.names.now c.args.message.now)) e
          (c.find.ensures c.args.names.now)).0
      | inr e ↦ (subst (Finds c.args.state.now (chained_view c.args.names.now c.args.message.now)) e
          (c.find.ensures c.args.names.now)).0
    ]
