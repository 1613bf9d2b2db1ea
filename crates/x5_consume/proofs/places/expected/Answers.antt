-- What stands at the place that the table gives is the copy.
use Rattle.std.proofs.Common.{List, subst, ap, ◌∙◌}
use Rattle.std.specs.Slice.{IsItemAt}
use Rattle.x5_model.specs.Values.{Name, key_of}
use Rattle.x5_holdings.specs.State.{CopyKept, holdings_view}
use Rattle.x5_holdings.proofs.Holding.{none_got, some_got}
use Rattle.x5_consume.specs.Taken.{stamp_at}
use Rattle.x5_consume.proofs.Placing.{its_stamp, never_lacking, no_stamp}
use Rattle.x5_consume.proofs.places.expected.Goals as goal

pub returns-in_err-place : goal.returns-in_err-place
returns-in_err-place c =
    c.from_residual.ensures
    ∙ no_stamp (holdings_view c.args.state.now) (key_of c.rdns.result.now) c.in_err-place.ensures
    ∙ ap (λ (n : Name). stamp_at (holdings_view c.args.state.now) (key_of n)) c.rdns.ensures

pub returns-in_err-copy : goal.returns-in_err-copy
returns-in_err-copy c =
    absurd (never_lacking c.args.state.now (key_of c.rdns.result.now) c.in_ok-place.place c.in_ok-place.ensures
    (none_got c.args.state.now.copies c.in_ok-place.place c.get.result
    (subst (λ (l : List CopyKept). IsItemAt l c.in_ok-place.place c.get.result) c.copies.ensures.copies c.get.ensures.lookup)
    c.in_err-copy.was))

pub returns : goal.returns
returns c =
    c.stamp.ensures
    ∙ its_stamp c.args.state.now (key_of c.rdns.result.now) c.in_ok-place.place c.in_ok-copy.copy.now c.in_ok-place.ensures
    (some_got c.args.state.now.copies c.in_ok-place.place c.get.result c.in_ok-copy.copy
    (subst (λ (l : List CopyKept). IsItemAt l c.in_ok-place.place c.get.result) c.copies.ensures.copies c.get.ensures.lookup)
    c.in_ok-copy.was)
    ∙ ap (λ (n : Name). stamp_at (holdings_view c.args.state.now) (key_of n)) c.rdns.ensures
