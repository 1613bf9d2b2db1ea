-- The first arc, then a dot and an arc for each other.
use Rattle.std.proofs.Common.{◌++◌, sym, ◌∙◌, ap, flat_map}
use Rattle.x5_model_text.specs.TypeText.{text_of_oid}
use Rattle.x5_syntax.specs.Dotted.{dot_and_arc}
use Rattle.x5_syntax.proofs.OidLemmas.{text_of_oid-cons}
use Rattle.x5_syntax.proofs.oid.text_of_arcs.Goals as goal

pub returns : goal.returns
returns c =
    c.in_ok-add_arcs.ensures
    ∙ ap (λ t. t ++ flat_map dot_and_arc c.in-Some.others.now) c.in_ok-text.ensures.ok
    ∙ sym (text_of_oid-cons c.in-Some.first.now c.in-Some.others.now)
    ∙ ap text_of_oid (sym c.in-Some.ensures.cases.0)
