-- What `parse` gives is the number.
use Rattle.std.proofs.Common.{refl, sym, ◌∙◌, ap, length}
use Rattle.x5_words.specs.Forms.{are_digits}
use Rattle.x5_words.proofs.Numbers.{some_digits, number_is}
use Rattle.x5_words.proofs.words.number.Goals as goal

pub returns : goal.returns
returns c =
    number_is c.args.text.now c.args.text.now c.parse.result c.ok.result refl
    (ap are_digits (sym c.as_bytes.ensures.value) ∙ sym c.if-not-are_digits.ensures)
    (some_digits (length c.args.text.now) c.if-is_empty.ensures) c.if-text-gt10.false c.parse.ensures.value.0 c.ok.ensures.value
