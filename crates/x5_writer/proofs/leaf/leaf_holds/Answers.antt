-- A text is characters, so its length alone decides.
use Rattle.std.proofs.Common.{rules}
use Rattle.x5_writer.proofs.Characters.{text_is_characters}
use Rattle.x5_writer.proofs.leaf.leaf_holds.Goals as goal

pub returns-in-Universal-Text : goal.returns-in-Universal-Text
returns-in-Universal-Text c =
    let u = text_is_characters c.as_str-in-Universal-Text.result.now c.as_str-in-Universal-Text.utf8 in
    search (rules, u)
