-- What stands just under the context begins with its prefix, so it's among those that are looked for.
use Rattle.std.proofs.Common.{ℕ, List, sym, subst, ap, ◌∙◌}
use Rattle.std.specs.List.{filter}
use Rattle.x5_model.specs.Words.{sorted}
use Rattle.x5_model.specs.Members.{In}
use Rattle.x5_model.specs.Keys.{IsPrefix}
use Rattle.x5_model.specs.Values.{Name, key_of}
use Rattle.x5_ops.specs.RequestViews.{request_view, subset_view}
use Rattle.x5_dse.specs.Linked.{Nodes, IsLinked}
use Rattle.x5_holdings.specs.State.{holdings_view}
use Rattle.x5_eval.specs.Numbers.{held_number, is_under, number_below, pin_number}
use Rattle.x5_eval.proofs.Choosing.{under_found, under_is}
use Rattle.x5_eval.proofs.Telling.{ok_by}
use Rattle.x5_eval.proofs.Unders.{none_under, under_begins, under_in, under_longer}
use Rattle.x5_eval.proofs.numbers.numbers_under.Goals as goal

pub returns-in_default-clause-numbers : goal.returns-in_default-clause-numbers
returns-in_default-clause-numbers c =
    c.new.ensures.items
    ∙ none_under (holdings_view c.args.state.now) (key_of c.args.base.now) (subset_view c.args.subset) (request_view c.args.request.now)
    c.args.above c.in_default.ensures.1

pub returns-clause-numbers : goal.returns-clause-numbers
returns-clause-numbers c =
    let h = holdings_view c.args.state.now in
    let r = request_view c.args.request.now in
    let base = key_of c.args.base.now in
    let subset = subset_view c.args.subset in
    let linked = subst (λ (ns : Nodes). IsLinked ns.nodes) c.tree.ensures.nodes c.len.ensures.linked in
    ok_by _ _ (λ all e. e
    ∙ ap (sorted (number_below h)) (c.in_ok-found.ensures ∙ ap (filter (is_under h base subset (held_number h c.args.above))) c.deref.ensures.value)
    ∙ under_found h r base subset c.args.above (key_of c.reach-depth.result.0.now) c.reach-depth.result.1 c.in_ok-numbers.numbers.items
    c.in_ok-numbers.ensures
    (λ n u. c.reach-depth.ensures (pin_number h n)
    (under_in h base subset c.args.above c.in-Some.held.now c.in-Some.ensures c.prefix.ensures.kept linked n u)
    (subst (λ (p : Name). IsPrefix (key_of p) (pin_number h n)) (sym c.prefix.ensures.prefix)
    (under_begins h base subset c.args.above c.in-Some.held.now c.in-Some.ensures c.prefix.ensures.kept linked n u))))
    c.in_order.result c.in_order.ensures

pub returns-clause-rising : goal.returns-clause-rising
returns-clause-rising c =
    let h = holdings_view c.args.state.now in
    let r = request_view c.args.request.now in
    let base = key_of c.args.base.now in
    let subset = subset_view c.args.subset in
    let linked = subst (λ (ns : Nodes). IsLinked ns.nodes) c.tree.ensures.nodes c.len.ensures.linked in
    ok_by _ _ (λ all e n i.
    under_longer h base subset c.args.above c.in-Some.held.now c.in-Some.ensures c.prefix.ensures.kept linked n
    (under_is h r base subset c.args.above n (subst (λ (l : List ℕ). In n l) e i)))
    c.in_order.result (returns-clause-numbers c)
