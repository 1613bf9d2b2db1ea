-- The members that the code goes over are the filter's.
use Rattle.std.proofs.Common.{sym, ap, ◌∙◌}
use Rattle.x5_match.specs.FilterView.{filter_view, filters_of}
use Rattle.x5_match.proofs.CopyLemmas.{and_of_items}
use Rattle.x5_index.specs.Lookup as model
use Rattle.x5_index.proofs.lookup.assertion_of.Goals as goal

pub returns-in-And : goal.returns-in-And
returns-in-And c =
    c.first_equality.ensures
    ∙ ap (λ fs. model.first_equality (filters_of fs)) c.deref.ensures.value
    ∙ ap model.looked_up (and_of_items c.in-And.members ∙ ap filter_view (sym c.in-And.is))
