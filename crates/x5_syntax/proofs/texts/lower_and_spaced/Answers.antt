-- What is lent is the spaced text, and is put back in small letters.
use Rattle.std.proofs.Common.{◌≡◌, length, map, sym, ap, ◌∙◌}
use Rattle.std.specs.Char.{to_ascii_lowercase}
use Rattle.std.proofs.lemmas.List.{length-map, take_at}
use Rattle.x5_model.specs.Normal.{spaced}
use Rattle.x5_syntax.proofs.TextLemmas.{folded_spaced_ascii}
use Rattle.x5_syntax.proofs.texts.lower_and_spaced.Goals as goal

pub returns : goal.returns
returns c =
    let lent = c.deref_mut.result.now in
    let after = c.make_ascii_lowercase.ensures.after in
    let long : length c.make_ascii_lowercase.new.self ≡ c.in_ok-kept.kept.len = ap length after ∙ length-map lent to_ascii_lowercase ∙ c.deref_mut.ensures.len in
    take_at _ _ _ long ∙ after
    ∙ ap (map to_ascii_lowercase) (c.deref_mut.ensures.value ∙ c.in_ok-kept.ensures ∙ ap (spaced c.args.first c.args.last) c.as_bytes.ensures.value)
    ∙ sym (folded_spaced_ascii c.args.first c.args.last c.args.text.now c.requires)
