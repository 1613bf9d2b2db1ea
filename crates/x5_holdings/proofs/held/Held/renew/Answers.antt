-- The entries, their index and their list stay; the tables are those of the references that come.
use Rattle.std.proofs.Common.{List, subst, map}
use Rattle.x5_model.specs.Values.{key_of}
use Rattle.x5_ops.specs.declared.knowledge.Nssr.{Nssr}
use Rattle.x5_ops.specs.declared.knowledge.Specific.{Specific}
use Rattle.x5_holdings.specs.Rows.{AreRowsOf}
use Rattle.x5_holdings.proofs.held.Held.renew.Goals as goal

pub invariant_of-self : goal.invariant_of-self
invariant_of-self c = record {
  kept = record {
    below_root = c.self.invariant.kept.below_root;
    prefixed = c.self.invariant.kept.prefixed;
    posted = c.self.invariant.kept.posted;
  };
  below = subst (λ (l : List Specific). AreRowsOf c.in_ok-below.below (map (λ (k : Specific). key_of k.pin) l))
      c.as_slice.ensures c.in_ok-below.ensures;
  wide = subst (λ (l : List Nssr). AreRowsOf c.in_ok-wide.wide (map (λ (n : Nssr). key_of n.at) l))
      c.as_slice-2.ensures c.in_ok-wide.ensures;
  listed = c.self.invariant.listed;
}
