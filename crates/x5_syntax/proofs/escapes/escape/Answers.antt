-- A text with escapes is UTF-8.
use Rattle.std.proofs.Common.{IsUtf8, sym, ◌∙◌, ap, subst}
use Rattle.x5_model_text.specs.ValueText.{escaped}
use Rattle.x5_model_text.proofs.EscapeLaws.{IsUtf8-escaped}
use Rattle.x5_syntax.proofs.escapes.escape.Goals as goal

pub unwrap-requires : goal.unwrap-requires
unwrap-requires c = c.from_utf8.ensures.succeeds (subst IsUtf8 (sym (c.in_ok-octets.ensures ∙ ap escaped c.as_bytes.ensures.value)) (IsUtf8-escaped c.args.text.now c.utf8.text))
