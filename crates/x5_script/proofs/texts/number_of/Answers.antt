-- What `parse` gives is the number.
use Rattle.std.proofs.Common.{sym, ◌∙◌, ap}
use Rattle.x5_model_script.specs.Texts.{is_numeral}
use Rattle.x5_script.proofs.NumberLaws.{number_gives}
use Rattle.x5_script.proofs.texts.number_of.Goals as goal

pub returns : goal.returns
returns c = c.ok.ensures.value ∙ number_gives c.args.most c.args.text.now c.parse.result (ap (is_numeral c.args.most) (sym c.as_bytes.ensures.value) ∙ sym c.if-not-is_numeral.ensures) c.parse.ensures.value.0
