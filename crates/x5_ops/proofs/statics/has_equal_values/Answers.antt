-- Values are apart where their normal forms are.
use Rattle.std.proofs.Common.{not, sym, ap, ◌∙◌}
use Rattle.x5_model.specs.Words.{distinct}
use Rattle.x5_syntax.specs.TypeView.{type_view}
use Rattle.x5_syntax.specs.ValueView.{value_view}
use Rattle.x5_ops.specs.RefusalView.{same_normal}
use Rattle.x5_ops.proofs.Firsts.{apart_by_normals}
use Rattle.x5_ops.proofs.statics.has_equal_values.Goals as goal

pub returns : goal.returns
returns c =
    ap not
    (c.no_two_equal.ensures
    ∙ ap (distinct same_normal) (c.deref.ensures.value ∙ c.in_ok-normals.ensures)
    ∙ sym (apart_by_normals value_view (type_view c.args.kind.now) c.args.values.now))
