-- Where the first name ends before the second, nothing is left of it, and it is the smaller.
use Rattle.std.proofs.Common.{sym, ◌∙◌, arith}
use Rattle.x5_model.specs.Keys.{rdn_cmp}
use Rattle.x5_model.specs.Values.{key_of_rdn}
use Rattle.x5_dse.proofs.Comparing.{first_ends}
use Rattle.x5_holdings.proofs.order.compare_names.Goals as goal

pub returns-else-a-b : goal.returns-else-a-b
returns-else-a-b c = sym (first_ends key_of_rdn rdn_cmp c.args.a.now c.args.b.now c.loop-i.i (omega arith)
    (omega arith)) ∙ c.loop-i.invariant.rest
