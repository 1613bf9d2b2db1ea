-- Nothing stands behind the filter.
use Rattle.std.proofs.Common.{List, ℕ, [], lit≤, refl, sym, subst, ◌∙◌}
use Rattle.x5_match.specs.FilterView.{filter_view}
use Rattle.x5_model_messages.specs.FilterTerms.{filter_in}
use Rattle.x5_model_typed.specs.Named as named
use Rattle.x5_direct.specs.Spelled.{Reads}
use Rattle.x5_direct.proofs.Heads.{nothing}
use Rattle.x5_dapber.proofs.Sets.{reads_higher}
use Rattle.x5_dapber.proofs.usual_filters.one_item_in.Goals as goal

pub returns : goal.returns
returns c =
    let f = filter_view c.in_ok-filter.filter in
    let octets = c.args.octets.now in
    reads_higher 6 48 (named.Filter 16) filter_in f octets [] (lit≤ tt)
    (subst (λ (l : List ℕ). Reads 6 (named.Filter 16) filter_in f octets l)
    (nothing c.in_ok-filter.rest.now (sym c.is_empty.ensures ∙ c.if-not-is_empty.false))
    (c.in_ok-filter.ensures.reads 16 refl))
