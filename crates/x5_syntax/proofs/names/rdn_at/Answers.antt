-- An RDN without a `+` is its one pair; the parts of another go as far as its text.
use Rattle.std.proofs.Common.{◌==◌, [], Bor, List, ℕ, ap, map, sym, subst, arith}
use Rattle.x5_syntax.specs.Escapes.{span}
use Rattle.x5_syntax.proofs.EscapeLemmas.{uncut, span-slice_split}
use Rattle.x5_model_text.specs.NameText as text_of
use Rattle.x5_syntax.specs.Reading.{ReadsName}
use Rattle.x5_syntax.proofs.names.rdn_at.Goals as goal

pub returns-then-not-is_cut : goal.returns-then-not-is_cut
returns-then-not-is_cut c =
    subst (λ ts. ReadsName (λ pairs. pairs.items) c.pairs_at.result (text_of.pairs_at c.args.limited c.args.at [] ts)) (sym (uncut 43 c.args.text.now (sym c.if-not-is_cut.ensures))) c.pairs_at.ensures

pub pairs_at-requires-2 : goal.pairs_at-requires-2
pairs_at-requires-2 c =
    let parts = ap (λ (xs : List (Bor (List ℕ))). span (map (λ x. x.now) xs)) c.deref.ensures.value in
    let cut = ap span c.in_ok-parts.ensures in
    let whole = span-slice_split (λ b. b == 43) c.args.text.now in
    omega (arith, parts, cut, whole)
