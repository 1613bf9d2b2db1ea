-- The first pair, then a `+` and a pair for each other.
use Rattle.std.proofs.Common.{◌++◌, flat_map, string_bytes, sym, ◌∙◌, ap, append_assoc}
use Rattle.std.proofs.lemmas.Result.{on_ok_weaker}
use Rattle.x5_model_text.specs.NameText as text_of
use Rattle.x5_syntax.specs.Dotted.{plus_and_pair}
use Rattle.x5_syntax.proofs.NameLemmas.{text_of_pairs-cons}
use Rattle.x5_syntax.proofs.names.add_pairs.Goals as goal

pub returns : goal.returns
returns c =
    let old = string_bytes c.args.out.now in
    let first = c.in-Some.first.now in
    let others = c.in-Some.others.now in
    on_ok_weaker c.add_others.result
    (λ h.
    h
    ∙ ap (λ t. t ++ flat_map plus_and_pair others) c.in_ok-add_pair.ensures
    ∙ append_assoc old (text_of.text_of_pair first) (flat_map plus_and_pair others)
    ∙ ap (λ t. old ++ t) (sym (text_of_pairs-cons first others))
    ∙ ap (λ ps. old ++ text_of.text_of_pairs ps) (sym c.in-Some.ensures.cases.0))
    c.add_others.ensures
