-- Octets are a text just where they're UTF-8.
use Rattle.std.proofs.lemmas.Str.{is_utf8-from_IsUtf8}
use Rattle.x5_syntax.proofs.EscapeLemmas.{not_utf8}
use Rattle.x5_script.proofs.WordLaws.{some_text, no_text}
use Rattle.x5_script.proofs.words.text_of.Goals as goal

pub returns-in-Ok : goal.returns-in-Ok
returns-in-Ok c = some_text c.args.octets.now c.in-Ok.text.now c.in-Ok.ensures.cases.0 (is_utf8-from_IsUtf8 c.args.octets.now c.in-Ok.ensures.cases.1)

pub returns-in-Err : goal.returns-in-Err
returns-in-Err c = no_text c.args.octets.now (not_utf8 c.args.octets.now c.in-Err.ensures.cases.0)
