-- The number is written as it is, the same in all surroundings.
use Rattle.std.proofs.Common.{subst}
use Rattle.x5_model_octets.specs.Elements.{canonical}
use Rattle.x5_model_typed.specs.Nodes.{Node}
use Rattle.x5_model_typed.specs.Written.{written}
use Rattle.x5_types.specs.FormView.{table}
use Rattle.x5_writer.specs.Puts.{Puts}
use Rattle.x5_dapreply.specs.Found.{count}
use Rattle.x5_dapreply.proofs.sources.put_count.Goals as goal

pub returns : goal.returns
returns c w =
    subst (λ (n : Node). Puts canonical (written table (table count) n) c.args.out.now c.write_node.new.out c.write_node.result)
    c.number-node.ensures c.write_node.ensures
