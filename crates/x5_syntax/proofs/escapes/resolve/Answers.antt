-- A text without a backslash stands for itself; the parts of another go as far as the text.
use Rattle.std.proofs.Common.{◌==◌, Bor, List, ℕ, ◌∙◌, ap, map, sym, subst, arith}
use Rattle.x5_syntax.specs.Escapes.{Resolves, span}
use Rattle.x5_syntax.proofs.EscapeLemmas.{resolved_uncut, span-slice_split}
use Rattle.x5_syntax.proofs.escapes.resolve.Goals as goal

pub returns-then-not-is_cut : goal.returns-then-not-is_cut
returns-then-not-is_cut c =
    subst (Resolves c.resolve_plain.result) (sym (resolved_uncut c.args.at c.args.text.now (sym c.if-not-is_cut.ensures))) c.resolve_plain.ensures

pub add_parts-requires : goal.add_parts-requires
add_parts-requires c =
    let parts = ap (λ (xs : List (Bor (List ℕ))). span (map (λ x. x.now) xs)) c.deref.ensures.value in
    let cut = ap span c.in_ok-parts.ensures in
    let whole = span-slice_split (λ b. b == 92) c.args.text.now in
    omega (arith, parts, cut, whole)
