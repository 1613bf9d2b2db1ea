-- In each subset, and below the prefix.
use Rattle.std.proofs.Common.{◌≡◌, true, inl, inr, sym, subst, Some, None}
use Rattle.x5_model.specs.Values.{Name, key_of}
use Rattle.x5_model_tree.specs.Ask.{in_subset}
use Rattle.x5_ops.specs.RequestViews.{subset_view}
use Rattle.x5_ops.specs.declared.requests.Subset.{Subset}
use Rattle.x5_eval.specs.Numbers.{reaches}
use Rattle.x5_eval.proofs.Rises.{reaches_base, reaches_prefix}
use Rattle.x5_eval.proofs.numbers.reach.Goals as goal

pub returns-in-Base : goal.returns-in-Base
returns-in-Base c pin e i =
    subst (λ (n : Name). reaches (key_of n) (Some c.len.result) pin ≡ true) (sym c.rdns.ensures)
    (reaches_base c.args.base.now pin c.len.result c.len.ensures
    (subst (λ (s : Subset). in_subset (subset_view s) (key_of c.args.base.now) pin ≡ true) c.in-Base.is e))

pub returns-in-Tree : goal.returns-in-Tree
returns-in-Tree c pin e i =
    let within = subst (λ (s : Subset). in_subset (subset_view s) (key_of c.args.base.now) pin ≡ true) c.in-Tree.is e in
    subst (λ (n : Name). reaches (key_of n) None pin ≡ true) (sym c.rdns-in-Tree.ensures)
    (elim c.longer.ensures [
      | inl p ↦ subst (λ (n : Name). reaches (key_of n) None pin ≡ true) (sym p) (reaches_prefix c.args.prefix.now pin i)
      | inr p ↦ subst (λ (n : Name). reaches (key_of n) None pin ≡ true) (sym p) within
    ])
