-- The content is the assertion.
use Rattle.std.proofs.Common.{[], sym, subst}
use Rattle.x5_model.specs.Assertions.{assertion_of}
use Rattle.x5_model.specs.Filters as model
use Rattle.x5_model_messages.specs.FilterTerms.{item_in}
use Rattle.x5_model_typed.specs.Named as named
use Rattle.x5_syntax.specs.TypeView.{type_view}
use Rattle.x5_syntax.specs.ValueView.{value_view}
use Rattle.x5_direct.specs.Spelled.{Reads}
use Rattle.x5_dapber.proofs.UsualFilters.{equality_reads}
use Rattle.x5_dapber.proofs.usual_filters.equality_in.Goals as goal

pub returns : goal.returns
returns c =
    let content = c.in_ok-content.content.now in
    let octets = c.args.octets.now in
    subst (λ (a : model.Assertion). Reads 5 named.Item item_in (model.Equality a) octets []) (sym c.in_ok-new.ensures)
    (equality_reads (assertion_of (type_view c.in_ok-kind.kind) (value_view c.in_ok-kind.value)) content octets
    c.in_ok-content.ensures c.in_ok-kind.ensures)
