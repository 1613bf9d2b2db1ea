-- All octets are one element, which is read at the first place.
use Rattle.std.proofs.Common.{◌+◌, length}
use Rattle.x5_types.specs.FormView.{around, choices_view, named_view, table_in}
use Rattle.x5_typed.proofs.Heads.{some_head}
use Rattle.x5_typed.proofs.Whole.{all_stand}
use Rattle.x5_typed.proofs.Elements.{err_is, whole_wrong, whole_read}
use Rattle.x5_typed.proofs.reader.read_whole.Goals as goal

pub returns-in_err-head : goal.returns-in_err-head
returns-in_err-head c tree l =
    let h = some_head c.args.octets.now 1 0 tree c.args.octets.now l (all_stand c.args.octets.now) in
    absurd (c.in_err-head.ensures.none h.0 h.1 (h.2, h.3))

pub returns-in_err-node : goal.returns-in_err-node
returns-in_err-node c tree l =
    whole_wrong (table_in c.args.surroundings) (choices_view (around c.args.surroundings) c.layout.result) ((table_in c.args.surroundings) (named_view c.args.form)) tree (0 + length c.args.octets.now)
    c.in_err-node.field-0.0 c.from_residual-in_err-node.result (c.layout.ensures (around c.args.surroundings))
    (c.in_err-node.ensures.reads 1 tree c.args.octets.now l (all_stand c.args.octets.now) c.in_ok-head.ensures.head)
    (err_is c.from_residual-in_err-node.result c.in_err-node.field-0.0 c.from_residual-in_err-node.ensures.1)

pub returns : goal.returns
returns c tree l =
    whole_read (table_in c.args.surroundings) (choices_view (around c.args.surroundings) c.layout.result) ((table_in c.args.surroundings) (named_view c.args.form)) tree (0 + length c.args.octets.now)
    c.in_ok-node.node _ (c.layout.ensures (around c.args.surroundings))
    (c.in_ok-node.ensures.reads 1 tree c.args.octets.now l (all_stand c.args.octets.now) c.in_ok-head.ensures.head)
