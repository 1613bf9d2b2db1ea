-- Characters that are encoded as the text are its characters.
use Rattle.std.proofs.Common.{rules}
use Rattle.std.proofs.lemmas.Str.{chars_from_encodes}
use Rattle.x5_writer.proofs.string.characters_of.Goals as goal

pub returns : goal.returns
returns c = search (rules, chars_from_encodes)
