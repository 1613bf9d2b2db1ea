-- With their keys RDNs are sorted as without.
use Rattle.std.proofs.Common.{ap, ◌∙◌}
use Rattle.x5_model.specs.Words.{sorted}
use Rattle.x5_report.specs.Order.{keyed_below}
use Rattle.x5_report.proofs.Comparing.{keyed_sorted}
use Rattle.x5_report.proofs.order.sorted_rdns.Goals as goal

pub returns : goal.returns
returns c =
    c.in_ok-put_in_order.ensures ∙ ap (sorted keyed_below) c.in_ok-keyed.ensures ∙ keyed_sorted c.args.rdns.now
