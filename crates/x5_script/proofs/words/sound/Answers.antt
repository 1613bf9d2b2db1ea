-- A part that isn't empty is a text just where it's UTF-8.
use Rattle.std.proofs.Common.{◌∙◌}
use Rattle.std.proofs.lemmas.Str.{is_utf8-from_IsUtf8}
use Rattle.x5_syntax.proofs.EscapeLemmas.{not_utf8}
use Rattle.x5_script.proofs.WordLaws.{some_octets, sound_word, unsound_word}
use Rattle.x5_script.proofs.words.sound.Goals as goal

pub returns-in-Ok : goal.returns-in-Ok
returns-in-Ok c =
    sound_word c.args.token.column c.args.token.octets.now c.in-Ok.text.now (some_octets _ c.if-is_empty.ensures) c.in-Ok.ensures.cases.0 (is_utf8-from_IsUtf8 c.args.token.octets.now c.in-Ok.ensures.cases.1)

pub returns-in-Err : goal.returns-in-Err
returns-in-Err c =
    unsound_word c.args.token.column c.valid_up_to.result c.args.token.octets.now (some_octets _ c.if-is_empty.ensures) (not_utf8 c.args.token.octets.now c.in-Err.ensures.cases.0) (c.valid_up_to.ensures ∙ c.in-Err.ensures.valid_len)
