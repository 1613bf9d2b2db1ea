-- The order of both tells.
use Rattle.std.proofs.Common.{◌∙◌}
use Rattle.x5_model.specs.Keys.{rdn_cmp}
use Rattle.x5_model.specs.Values.{key_of_rdn}
use Rattle.x5_eval.proofs.Excluding.{same_by}
use Rattle.x5_eval.proofs.exclusions.is_same.Goals as goal

pub returns : goal.returns
returns c =
    same_by c.args.a.now c.args.b.now c.compare_rdns.result c.is_eq.result
    (c.compare_rdns.ensures ∙ (λ i. rdn_cmp (key_of_rdn (c.pairs.ensures i)) (key_of_rdn (c.pairs-2.ensures i)))) c.is_eq.ensures
