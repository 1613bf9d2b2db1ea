-- The node's postings are those of the entry that it gets.
use Rattle.std.proofs.Common.{◌∙◌}
use Rattle.x5_holdings.proofs.Changed.{posted_replaced}
use Rattle.x5_holdings.proofs.held.Held.replace.Goals as goal

pub invariant_of-self : goal.invariant_of-self
invariant_of-self c = record {
  kept = record {
    below_root = c.self.invariant.kept.below_root;
    prefixed = c.replace-before.ensures.prefix ∙ c.self.invariant.kept.prefixed;
    posted = posted_replaced c.self.inside.postings.postings c.change.new.self.postings c.self.inside.tree
        c.replace-before.new.self c.args.node c.args.entry c.replace-before.result c.replace-before.ensures.replaced
        (c.change.ensures.put c.args.entry c.requires.ordered c.requires.values) c.self.invariant.kept.posted;
  };
  below = c.self.invariant.below;
  wide = c.self.invariant.wide;
  listed = tt;
}
