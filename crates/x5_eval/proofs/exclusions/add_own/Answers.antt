-- Nothing stands at the place.
use Rattle.std.proofs.Common.{◌∙◌, List, ap, sym}
use Rattle.std.specs.List.{slice_get}
use Rattle.x5_holdings.specs.State.{Kept, held_view}
use Rattle.x5_holdings.proofs.Holding.{none_got}
use Rattle.x5_eval.specs.Rest.{own_last}
use Rattle.x5_eval.proofs.Adding.{no_more, none_at}
use Rattle.x5_eval.proofs.exclusions.add_own.Goals as goal

pub returns-in-None : goal.returns-in-None
returns-in-None c =
    no_more c.args.rdns.now.items _ (none_at own_last held_view c.args.state.now.own c.args.place
    (ap (λ (l : List Kept). slice_get l c.args.place) (sym c.own.ensures.own)
    ∙ none_got c.own.result.now c.args.place c.get.result c.get.ensures.lookup c.in-None.is))
