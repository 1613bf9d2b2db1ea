-- The node's postings are dropped with its entry.
use Rattle.std.proofs.Common.{List, sym, subst, ◌∙◌}
use Rattle.x5_dse.specs.Linked.{Node}
use Rattle.x5_holdings.specs.State.{ArePosted}
use Rattle.x5_holdings.proofs.Changed.{posted_without}
use Rattle.x5_holdings.proofs.held.Held.remove.Goals as goal

pub invariant_of-self-2 : goal.invariant_of-self-2
invariant_of-self-2 c = record {
  kept = record {
    below_root = c.self.invariant.kept.below_root;
    prefixed = c.remove.ensures.prefix ∙ c.self.invariant.kept.prefixed;
    posted = subst (λ (ns : List Node). ArePosted c.drop_node.new.self.postings ns) (sym c.in_ok-entry.ensures.ok.nodes)
        (posted_without c.self.inside.postings.postings c.drop_node.new.self.postings c.args.node
        c.self.inside.tree.nodes c.drop_node.ensures.dropped c.self.invariant.kept.posted);
  };
  below = c.self.invariant.below;
  wide = c.self.invariant.wide;
  listed = tt;
}
