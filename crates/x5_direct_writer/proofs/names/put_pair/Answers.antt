-- The pair is its type and text.
use Rattle.std.proofs.Common.{ℕ, List, ap, subst}
use Rattle.x5_model_messages.specs.Terms as terms
use Rattle.x5_model_typed.specs.Named as named
use Rattle.x5_direct_writer.specs.PutsOf.{PutsOf}
use Rattle.x5_direct_writer.proofs.names.put_pair.Goals as goal

pub returns : goal.returns
returns c =
    subst (λ (t : List ℕ). PutsOf named.Pair (terms.pair_node (c.args.pair.now.kind, t)) c.args.out.now c.put_pair_of.new.out c.put_pair_of.result)
    c.text.ensures
    (subst (λ (k : ℕ). PutsOf named.Pair (terms.pair_node (k, c.text.result.now)) c.args.out.now c.put_pair_of.new.out c.put_pair_of.result)
    c.kind.ensures c.put_pair_of.ensures)
