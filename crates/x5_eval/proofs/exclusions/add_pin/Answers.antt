-- Nothing stands at the place.
use Rattle.x5_ops.specs.KnowledgeViews.{specific_view}
use Rattle.x5_holdings.proofs.Holding.{none_got}
use Rattle.x5_eval.specs.Rest.{pin_last}
use Rattle.x5_eval.proofs.Adding.{no_more, none_at}
use Rattle.x5_eval.proofs.exclusions.add_pin.Goals as goal

pub returns-in-None : goal.returns-in-None
returns-in-None c =
    no_more c.args.rdns.now.items _ (none_at pin_last specific_view c.args.references.now c.args.place
    (none_got c.args.references.now c.args.place c.get.result c.get.ensures.lookup c.in-None.is))
