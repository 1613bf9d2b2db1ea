-- The context begins with its prefix's entry, whose index it has.
use Rattle.std.proofs.Common.{List, subst, map}
use Rattle.x5_model.specs.Values.{key_of}
use Rattle.x5_ops.specs.declared.knowledge.Nssr.{Nssr}
use Rattle.x5_ops.specs.declared.knowledge.Specific.{Specific}
use Rattle.x5_holdings.specs.Rows.{AreRowsOf}
use Rattle.x5_holdings.proofs.Posted.{one_prefix}
use Rattle.x5_holdings.proofs.held.Held.new.Goals as goal

pub invariant_of-result : goal.invariant_of-result
invariant_of-result c = record {
  kept = record {
    below_root = c.requires;
    prefixed = one_prefix c.in_ok-tree.tree.nodes (record { name = c.args.prefix; entry = c.args.entry }) c.in_ok-tree.ensures.entries;
    posted = c.in_ok-tree.ensures.posted;
  };
  below = subst (λ (l : List Specific). AreRowsOf c.in_ok-tree.below (map (λ (k : Specific). key_of k.pin) l))
      c.as_slice.ensures c.in_ok-tree.ensures.below;
  wide = subst (λ (l : List Nssr). AreRowsOf c.in_ok-tree.wide (map (λ (n : Nssr). key_of n.at) l))
      c.as_slice-2.ensures c.in_ok-tree.ensures.wide;
  listed = tt;
}
