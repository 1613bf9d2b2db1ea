-- A primitive element's content is the octets that its header says, so it's read as the tree that lies there.
use Rattle.std.proofs.Common.{sym, ◌∙◌}
use Rattle.x5_ber.specs.Views.{head_view}
use Rattle.x5_types.specs.FormView.{around, choices_view, table_in}
use Rattle.x5_typed.proofs.Heads.{leaf_is}
use Rattle.x5_typed.proofs.Elements.{err_is, piece_wrong, piece_read}
use Rattle.x5_typed.proofs.Reading.{no_fault}
use Rattle.x5_typed.proofs.reader.read_piece.Goals as goal

pub returns-in_err-end-clause-reads : goal.returns-in_err-end-clause-reads
returns-in_err-end-clause-reads c depth t octets l s e form =
    let b = leaf_is c.args.bytes.now depth c.args.at (head_view c.args.head) t octets l s e form in
    let f = c.in_err-end.ensures.none in
    absurd (no_fault c.args.bytes.now c.args.at (head_view c.args.head) t octets b f.0 s f.1 f.2)

pub returns-in_err-node-clause-reads : goal.returns-in_err-node-clause-reads
returns-in_err-node-clause-reads c depth t octets l s e form =
    piece_wrong (table_in c.args.surroundings) c.args.bytes.now depth c.args.at (head_view c.args.head) (choices_view (around c.args.surroundings) c.args.choices) t octets
    c.in-Some.end c.in_err-node.field-0.0 c.from_residual-in_err-node.result l s e form
    (sym c.in-Some.is ∙ c.in_ok-end.ensures.end) (err_is c.from_residual-in_err-node.result c.in_err-node.field-0.0
    c.from_residual-in_err-node.ensures.1) c.in_err-node.ensures

pub returns-clause-reads : goal.returns-clause-reads
returns-clause-reads c depth t octets l s e form =
    piece_read (table_in c.args.surroundings) c.args.bytes.now depth c.args.at (head_view c.args.head) (choices_view (around c.args.surroundings) c.args.choices) t octets
    c.in-Some.end c.in_ok-node.node l s e form (sym c.in-Some.is ∙ c.in_ok-end.ensures.end) c.in_ok-node.ensures
