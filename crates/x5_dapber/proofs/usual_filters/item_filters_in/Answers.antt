-- Each filter that is read stands before those that are left.
use Rattle.std.proofs.Common.{List, map, refl, sym, subst, ◌∙◌}
use Rattle.x5_match.specs.FilterView.{filter_view}
use Rattle.x5_model.specs.Filters.{Filter}
use Rattle.x5_model_messages.specs.FilterTerms.{filter_in}
use Rattle.x5_model_typed.specs.Named as named
use Rattle.x5_direct.proofs.Heads.{nothing}
use Rattle.x5_direct.proofs.Spelling.{Goes, all_done, mapped_end, one_done}
use Rattle.x5_dapber.proofs.usual_filters.item_filters_in.Goals as goal

pub loop-left-preserved : goal.loop-left-preserved
loop-left-preserved c =
    let octets = c.args.octets.now in
    let left = c.loop-left.left.now in
    let rest = c.in_ok-filter.rest.now in
    let before = c.loop-left.members.items in
    let f = c.in_ok-filter.filter in
    subst (λ (l : List Filter). Goes 6 (named.Filter 15) filter_in octets l rest)
    (sym (mapped_end filter_view before f c.push.new.self.items c.in_ok-push.ensures.items))
    (one_done 6 (named.Filter 15) filter_in octets left rest (map filter_view before) (filter_view f)
    c.loop-left.invariant (c.in_ok-filter.ensures.reads 15 refl))

pub returns : goal.returns
returns c =
    all_done 6 (named.Filter 15) filter_in c.args.octets.now c.loop-left.left.now
    (map filter_view c.loop-left.members.items) c.loop-left.invariant
    (nothing c.loop-left.left.now (sym c.is_empty.ensures ∙ c.loop-left-test.false))
