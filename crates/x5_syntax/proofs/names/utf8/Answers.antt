-- `from_utf8` tests what `is_utf8` tests.
use Rattle.std.proofs.Common.{◌≡◌, List, ℕ, true, false, Some, None, IsUtf8, string_bytes, if◌then◌else◌, sym, ◌∙◌, ap, subst, arith}
use Rattle.std.proofs.lemmas.Str.{IsUtf8-string_bytes, is_utf8-from_IsUtf8}
use Rattle.std.specs.Str.{is_utf8}
use Rattle.x5_syntax.proofs.EscapeLemmas.{not_utf8}
use Rattle.x5_syntax.proofs.names.utf8.Goals as goal

pub returns-in-Ok : goal.returns-in-Ok
returns-in-Ok c =
    let same : string_bytes c.in-Ok.text ≡ c.args.octets = ap (λ v. v.items) c.in-Ok.ensures.ok ∙ c.into_vec.ensures in
    ap Some (c.from_string.ensures ∙ same)
    ∙ ap (λ t. if t then Some c.args.octets else None) (sym (is_utf8-from_IsUtf8 c.args.octets (subst IsUtf8 same (IsUtf8-string_bytes c.in-Ok.text))))

pub returns : goal.returns
returns c = ap (λ t. if t then Some c.args.octets else None) (sym (not_utf8 c.args.octets (λ u. let h = c.in-Err.ensures.succeeds (subst IsUtf8 (sym c.into_vec.ensures) u) in absurd (cc))))
