-- The parts go as far as the line.
use Rattle.std.proofs.Common.{◌≤◌, Bor, List, ℕ, ap, map, length, arith}
use Rattle.x5_syntax.specs.Escapes.{span}
use Rattle.x5_syntax.proofs.EscapeLemmas.{span-slice_split}
use Rattle.x5_model_script.specs.Words.{is_space}
use Rattle.x5_script.proofs.words.tokens_of.Goals as goal

pub placed-requires : goal.placed-requires
placed-requires c =
    let parts = ap (λ (xs : List (Bor (List ℕ))). span (map (λ x. x.now) xs)) c.deref.ensures.value in
    let cut = ap span c.in_ok-parts.ensures in
    let whole = span-slice_split is_space c.args.line.now in
    let short : length c.args.line.now ≤ 4096 = c.requires in
    omega (arith, parts, cut, whole, short)
