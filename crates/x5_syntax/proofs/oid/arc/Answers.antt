-- What `parse` gives is the arc.
use Rattle.std.proofs.Common.{sym, ◌∙◌, ap}
use Rattle.x5_model_text.specs.TypeText.{is_numeral}
use Rattle.x5_syntax.proofs.OidLemmas.{arc_gives}
use Rattle.x5_syntax.proofs.oid.arc.Goals as goal

pub returns : goal.returns
returns c = c.ok.ensures.value ∙ arc_gives c.args.text.now c.parse.result (ap is_numeral (sym c.as_bytes.ensures.value) ∙ sym c.if-not-is_numeral.ensures) c.parse.ensures.value.0
