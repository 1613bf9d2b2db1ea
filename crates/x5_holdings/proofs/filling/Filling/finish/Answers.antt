-- The index has the postings that came, in their order.
use Rattle.x5_holdings.proofs.Filled.{posted_same}
use Rattle.x5_holdings.proofs.filling.Filling.finish.Goals as goal

pub invariant_of-result : goal.invariant_of-result
invariant_of-result c = record {
  kept = record {
    below_root = c.self.invariant.kept.below_root;
    prefixed = c.self.invariant.kept.prefixed;
    posted = posted_same c.self.inside.postings.postings c.in_order.result.postings c.in_order.ensures
        c.self.inside.tree.nodes c.self.invariant.kept.posted;
  };
  below = c.self.invariant.below;
  wide = c.self.invariant.wide;
  listed = tt;
}
