-- Octets that are UTF-8 throughout are their own longest beginning that is UTF-8, as its length is that of the whole.
use Rattle.std.proofs.Common.{ℕ, List, take, length, sym, ap, ◌∙◌, arith}
use Rattle.std.proofs.lemmas.List.{take_all}
use Rattle.std.proofs.lemmas.Str.{utf8_valid_len-IsUtf8}
use Rattle.xdir.proofs.told.first_text.Goals as goal

pub returns-in-Ok : goal.returns-in-Ok
returns-in-Ok c =
    let octets : List ℕ = c.args.octets.now in
    c.in-Ok.ensures.cases.0
    ∙ sym (ap (λ (n : ℕ). take n octets) (utf8_valid_len-IsUtf8 octets c.in-Ok.ensures.cases.1)
    ∙ take_all (length octets) octets (omega arith))
