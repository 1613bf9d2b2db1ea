-- A filter has no alternative of another tag.
use Rattle.x5_types.proofs.form.filter_by_tag.Goals as goal

pub returns-in_err-content : goal.returns-in_err-content
returns-in_err-content c = λ w. rw (c.if-class-ne2.false, c.from_residual.ensures) (c.in_err-content.ensures w)
