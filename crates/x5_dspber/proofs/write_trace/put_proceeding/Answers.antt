-- The phase and the next RDN stand in the element.
use Rattle.std.proofs.Common.{ℕ, subst}
use Rattle.std.specs.declared.result.Result.TheVariants.{Err, Ok}
use Rattle.x5_model_octets.specs.Elements.{canonical}
use Rattle.x5_model_typed.specs.Named as named
use Rattle.x5_model_typed.specs.Nodes.{Node, whole}
use Rattle.x5_types.specs.FormView.{nowhere}
use Rattle.x5_writer.specs.Puts.{Puts}
use Rattle.x5_dspber.proofs.TraceWritten.{next_lost, of, proceeding_put}
use Rattle.x5_dspber.proofs.write_trace.put_proceeding.Goals as goal

pub returns-in_err-write_node : goal.returns-in_err-write_node
returns-in_err-write_node c w =
    next_lost w c.args.next c.in_err-write_node.field-0.0 c.args.out.now c.write_node.new.out c.args.out.now
    c.write_node.new.out c.from_residual.result c.from_residual.ensures.1
    (subst (λ (k : ℕ). Puts {Y = Unit {0}} canonical (of nowhere (named.NumberBelow 1 16) (whole k)) c.args.out.now c.write_node.new.out (Err c.in_err-write_node.field-0.0))
    c.from.ensures
    (subst (λ (n : Node). Puts {Y = Unit {0}} canonical (of nowhere (named.NumberBelow 1 16) n) c.args.out.now c.write_node.new.out (Err c.in_err-write_node.field-0.0))
    c.number-node.ensures c.in_err-write_node.ensures))

pub returns : goal.returns
returns c w =
    proceeding_put w c.args.next c.len-behind.result c.args.out.now c.write_node.new.out c.put_all.new.self
    c.enclose.new.out c.len-behind.ensures c.in_ok-enclose.ensures
    (subst (λ (k : ℕ). Puts {Y = Unit {0}} canonical (of nowhere (named.NumberBelow 1 16) (whole k)) c.args.out.now c.write_node.new.out (Ok tt))
    c.from.ensures
    (subst (λ (n : Node). Puts {Y = Unit {0}} canonical (of nowhere (named.NumberBelow 1 16) n) c.args.out.now c.write_node.new.out (Ok tt))
    c.number-node.ensures c.in_ok-write_node.ensures)) c.in_ok-put_all.ensures
