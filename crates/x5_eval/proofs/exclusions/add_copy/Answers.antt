-- Nothing stands at the place, or a copy from which the request may not be answered.
use Rattle.std.proofs.Common.{arith, ◌≡◌, ◌∙◌, [], Bool, false, List, ap, cond, sym}
use Rattle.std.specs.List.{slice_get}
use Rattle.x5_ops.specs.RequestViews.{request_view}
use Rattle.x5_holdings.specs.State.{CopyKept, copy_view, holdings_view}
use Rattle.x5_holdings.proofs.Holding.{none_got, some_got}
use Rattle.x5_eval.specs.Rest.{copy_last, last_in}
use Rattle.x5_eval.proofs.Adding.{no_more, none_at, some_at}
use Rattle.x5_eval.proofs.exclusions.add_copy.Goals as goal

pub returns-then-not-is_counted : goal.returns-then-not-is_counted
returns-then-not-is_counted c =
    let e : c.is_counted.result ≡ false = grind (arith, c.if-not-is_counted.true) in
    no_more c.args.rdns.now.items _ (some_at (copy_last (request_view c.args.request.now) (holdings_view c.args.state.now)) copy_view c.args.state.now.copies c.args.place c.in-Some.copied.now
    (ap (λ (l : List CopyKept). slice_get l c.args.place) (sym c.copies.ensures.copies)
    ∙ some_got c.copies.result.now c.args.place c.get.result c.in-Some.copied c.get.ensures.lookup c.in-Some.is)
    ∙ ap (λ (b : Bool). cond b (last_in c.in-Some.copied.now.prefix) []) (sym c.is_counted.ensures ∙ e))

pub returns-in_default : goal.returns-in_default
returns-in_default c =
    no_more c.args.rdns.now.items _ (none_at (copy_last (request_view c.args.request.now) (holdings_view c.args.state.now)) copy_view c.args.state.now.copies c.args.place
    (ap (λ (l : List CopyKept). slice_get l c.args.place) (sym c.copies.ensures.copies)
    ∙ none_got c.copies.result.now c.args.place c.get.result c.get.ensures.lookup c.in_default.is))
