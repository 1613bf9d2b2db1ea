-- What its table says.
use Rattle.std.proofs.Common.{subst, ◌∙◌}
use Rattle.x5_model_tree.specs.Masters.{mastered}
use Rattle.x5_check.specs.Rows.{Numbers, IsNext}
use Rattle.x5_check.specs.Numbers.{prefix_places}
use Rattle.x5_check.proofs.known.Known.next_with_prefix.Goals as goal

pub returns : goal.returns
returns c =
    subst (λ (f : Numbers). IsNext f c.args.prefix.now c.args.from c.next.result) (c.self.invariant.2 ∙ (λ i. prefix_places (mastered (c.self.view_is i)))) c.next.ensures
