-- The RDN is written over.
use Rattle.std.proofs.Common.{◌≡◌, set, ◌∙◌}
use Rattle.x5_model.specs.Values.{Name}
use Rattle.x5_model_tree.specs.Apply.{respelled}
use Rattle.x5_one.proofs.Sound.{ok_by}
use Rattle.x5_one.proofs.Turning.{respelled_is}
use Rattle.x5_one.proofs.renaming.respelled.Goals as goal

pub returns : goal.returns
returns c =
    let items : c.in_ok-rdns.rdns.items ≡ c.args.name.now = c.in_ok-rdns.ensures.items_if_clones_equal (λ x y e. e) ∙ c.rdns.ensures in
    ok_by (λ (n : Name). n ≡ set c.in_ok-rdns.rdns.items c.args.above c.in_ok-rdns-2.field-0)
    (λ (n : Name). n ≡ respelled c.args.above c.args.rdn.now c.args.name.now)
    (λ n e. e ∙ (λ i. set (items i) c.args.above (c.in_ok-rdns-2.ensures.cases i))
    ∙ respelled_is c.args.above c.args.rdn.now c.args.name.now c.requires)
    c.new.result c.new.ensures
