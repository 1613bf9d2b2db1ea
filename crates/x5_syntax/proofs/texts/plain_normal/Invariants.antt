-- While a short text is put into small letters: those put so far, then the small letters of the text that is left, are
-- the small letters of the whole text; and the text that is left is plain behind the last octet as the whole text is.
use Rattle.std.proofs.Common.{◌≡◌, ◌++◌, drop, length, map, take}
use Rattle.std.specs.Char.{to_ascii_lowercase}
use Rattle.x5_syntax.specs.Plain.{is_plain}
use Rattle.x5_syntax.proofs.texts.plain_normal.Given as goal

abbrev pub invariant-loop-i : goal.invariant-loop-i
invariant-loop-i l =
    (take l.i l.octets ++ map to_ascii_lowercase (drop l.i l.text) ≡ map to_ascii_lowercase l.text)
    × (is_plain l.behind_space l.last (drop l.i l.text) ≡ is_plain l.first l.last l.text)
    × (length l.octets ≡ 30)
