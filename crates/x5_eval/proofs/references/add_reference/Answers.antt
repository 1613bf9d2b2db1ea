-- Whom the reference names where it is due.
use Rattle.std.proofs.Common.{◌∙◌, length, sym}
use Rattle.x5_ops.specs.KnowledgeViews.{specific_view}
use Rattle.x5_ops.specs.ReferenceViews.{chained_view}
use Rattle.x5_ops.specs.RequestViews.{subset_view}
use Rattle.x5_holdings.specs.State.{holdings_view}
use Rattle.x5_eval.proofs.Resting.{pin_there}
use Rattle.x5_eval.proofs.references.add_reference.Goals as goal

pub to_pin-requires-clause-known : goal.to_pin-requires-clause-known
to_pin-requires-clause-known c =
    pin_there (length c.args.names.now) (holdings_view c.args.state.now) (chained_view c.args.names.now c.args.message.now) (subset_view c.args.subset) (specific_view c.args.reference.now)
    (sym c.is_due.ensures ∙ c.if-is_due.true) c.requires.known
