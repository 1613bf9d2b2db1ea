-- The copy at the place is the one of its number.
use Rattle.std.proofs.Common.{◌≡◌, List, Bor, sym, subst, ap, ◌∙◌, Option, Some, None}
use Rattle.std.specs.List.{slice_get}
use Rattle.std.specs.Slice.{IsItemAt}
use Rattle.x5_ops.specs.RequestViews.{request_view}
use Rattle.x5_holdings.specs.State.{CopyKept}
use Rattle.x5_holdings.proofs.Holding.{item_got}
use Rattle.x5_eval.proofs.Numbered.{counts_copy, counts_nothing}
use Rattle.x5_eval.proofs.numbers.is_counted_at.Goals as goal

pub returns-in-Some : goal.returns-in-Some
returns-in-Some c =
    let at : slice_get c.args.state.now.copies c.args.place ≡ Some c.in-Some.copied.now =
    ap (λ (l : List CopyKept). slice_get l c.args.place) (sym c.copies.ensures.copies)
    ∙ sym (item_got c.copies.result.now c.args.place (Some c.in-Some.copied)
    (subst (λ (o : Option (Bor CopyKept)). IsItemAt c.copies.result.now c.args.place o) c.in-Some.is c.get.ensures.lookup)) in
    c.is_counted.ensures ∙ counts_copy (request_view c.args.request.now) c.args.state.now c.args.place c.in-Some.copied.now at

pub returns-in-None : goal.returns-in-None
returns-in-None c =
    let at : slice_get c.args.state.now.copies c.args.place ≡ None =
    ap (λ (l : List CopyKept). slice_get l c.args.place) (sym c.copies.ensures.copies)
    ∙ sym (item_got c.copies.result.now c.args.place None
    (subst (λ (o : Option (Bor CopyKept)). IsItemAt c.copies.result.now c.args.place o) c.in-None.is c.get.ensures.lookup)) in
    counts_nothing (request_view c.args.request.now) c.args.state.now c.args.place at
