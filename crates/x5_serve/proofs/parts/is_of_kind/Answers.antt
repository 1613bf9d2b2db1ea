-- The first part's kind is that of all.
use Rattle.std.proofs.Common.{true, false, sym, subst, ◌∙◌}
use Rattle.x5_serve.specs.Steps.{IsOfKind}
use Rattle.x5_serve.proofs.Values.{of_kind}
use Rattle.x5_serve.proofs.parts.is_of_kind.Goals as goal

pub returns-then-is_listed : goal.returns-then-is_listed
returns-then-is_listed c =
    subst (IsOfKind c.args.parts.now c.args.answer.now) (sym c.is_listed-then-is_listed.ensures)
    (of_kind c.args.parts.now c.index-parts-0.result c.args.answer.now true c.requires.alike c.requires.filled
    c.index-parts-0.is (sym c.is_listed.ensures ∙ c.if-is_listed.true))

pub returns : goal.returns
returns c =
    subst (IsOfKind c.args.parts.now c.args.answer.now) (sym c.is_found.ensures)
    (of_kind c.args.parts.now c.index-parts-0.result c.args.answer.now false c.requires.alike c.requires.filled
    c.index-parts-0.is (sym c.is_listed.ensures ∙ c.if-is_listed.false))
