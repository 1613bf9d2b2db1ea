-- The copy is at the place that the table gives, and what was sent is there then.
use Rattle.std.proofs.Common.{sym, subst}
use Rattle.x5_model.specs.Keys.{Key}
use Rattle.x5_model.specs.Values.{key_of}
use Rattle.x5_model_refreshed.specs.Doable.{AreWhole}
use Rattle.x5_holdings.proofs.Holding.{some_within}
use Rattle.x5_consume.proofs.Placing.{at_place}
use Rattle.x5_consume.proofs.Taking.{on_ok, taken}
use Rattle.x5_consume.proofs.total.accept_total.Goals as goal

pub has_entries-requires : goal.has_entries-requires
has_entries-requires c =
    let at = at_place c.args.state.now (key_of c.args.context.now) c.place_of-place.result c.place_of-place.ensures in
    some_within c.args.state.now.copies c.place_of-place.result at.copy at.got

pub replace-requires : goal.replace-requires
replace-requires c =
    let at = at_place c.args.state.now (key_of c.args.context.now) c.place_of-place.result c.place_of-place.ensures in
    (at.copy, at.got, subst (λ (k : Key). AreWhole k c.args.content.entries) (sym at.key) c.requires.whole)

pub returns-then-has_entries-clause-ok : goal.returns-then-has_entries-clause-ok
returns-then-has_entries-clause-ok c =
    let at = at_place c.args.state.now (key_of c.args.context.now) c.place_of-place.result c.place_of-place.ensures in
    on_ok c.renew.result
    (taken c.args.state.now c.renew.new.state (key_of c.args.context.now) c.place_of-place.result at c.args.content c.args.stamp)
    c.renew.ensures.ok

pub returns-else-has_entries-clause-ok : goal.returns-else-has_entries-clause-ok
returns-else-has_entries-clause-ok c =
    let at = at_place c.args.state.now (key_of c.args.context.now) c.place_of-place.result c.place_of-place.ensures in
    on_ok c.replace.result
    (taken c.args.state.now c.replace.new.state (key_of c.args.context.now) c.place_of-place.result at c.args.content c.args.stamp)
    c.replace.ensures.ok
