-- Each number is one octet, and that of the base object is left out.
use Rattle.std.proofs.Common.{sym, subst}
use Rattle.std.specs.declared.result.Result.TheVariants.{Ok}
use Rattle.x5_model_octets.specs.Elements.{canonical_all}
use Rattle.x5_ops.specs.RequestViews.{subset_view}
use Rattle.x5_ops.specs.declared.requests.Subset.{Subset}
use Rattle.x5_writer.specs.Puts.{Puts}
use Rattle.x5_dapber.proofs.ArgumentsWritten.{alone, base_put, one_level_put, subset, tree_put}
use Rattle.x5_dapber.proofs.write_arguments.put_subset.Goals as goal

pub returns-in-Base : goal.returns-in-Base
returns-in-Base c =
    subst (λ (s : Subset). Puts {Y = Unit {0}} canonical_all (alone (subset (subset_view s))) c.args.out.now c.args.out.now (Ok tt))
    (sym c.in-Base.is) (base_put c.args.out.now)

pub returns-in_ok-put_all-in-One : goal.returns-in_ok-put_all-in-One
returns-in_ok-put_all-in-One c =
    subst (λ (s : Subset). Puts {Y = Unit {0}} canonical_all (alone (subset (subset_view s))) c.args.out.now c.put_all.new.self (Ok tt))
    (sym c.in-One.is) (one_level_put c.args.out.now c.put_all.new.self c.in_ok-put_all-in-One.ensures)

pub returns-in_ok-put_all-in-Tree : goal.returns-in_ok-put_all-in-Tree
returns-in_ok-put_all-in-Tree c =
    subst (λ (s : Subset). Puts {Y = Unit {0}} canonical_all (alone (subset (subset_view s))) c.args.out.now c.put_all-in-Tree.new.self (Ok tt))
    (sym c.in-Tree.is) (tree_put c.args.out.now c.put_all-in-Tree.new.self c.in_ok-put_all-in-Tree.ensures)
