-- The node's postings are those of the entry that it gets; what is moved with it keeps its own.
use Rattle.std.proofs.Common.{◌∙◌}
use Rattle.x5_holdings.proofs.Changed.{posted_renamed}
use Rattle.x5_holdings.proofs.held.Held.rename.Goals as goal

pub invariant_of-self-2 : goal.invariant_of-self-2
invariant_of-self-2 c = record {
  kept = record {
    below_root = c.self.invariant.kept.below_root;
    prefixed = c.rename.ensures.prefix ∙ c.self.invariant.kept.prefixed;
    posted = posted_renamed c.self.inside.postings.postings c.change.new.self.postings c.self.inside.tree
        c.rename.new.self c.args.node c.args.rdn c.args.entry c.rename.ensures.linked c.rename.ensures.numbered
        c.in_ok-before.ensures.ok (c.change.ensures.put c.args.entry c.requires.ordered c.requires.values)
        c.self.invariant.kept.posted;
  };
  below = c.self.invariant.below;
  wide = c.self.invariant.wide;
  listed = tt;
}
