-- The node is a new one, and its postings are those of the entry.
use Rattle.std.proofs.Common.{◌≡◌, false, List, refl, sym, subst, ◌∙◌, Option}
use Rattle.x5_model.specs.Values.{last_rdn}
use Rattle.x5_dse.specs.Linked.{Node, is_live}
use Rattle.x5_dse.specs.Changes.{entry_below}
use Rattle.x5_holdings.specs.State.{IsPosted, ArePosted}
use Rattle.x5_holdings.proofs.Posted.{not_live, posted_more}
use Rattle.x5_holdings.proofs.held.Held.insert.Goals as goal

pub put-requires-clause-absent : goal.put-requires-clause-absent
put-requires-clause-absent c =
    let fresh : is_live c.self.inside.tree.nodes c.in_ok-node.node ≡ false = c.in_ok-node.ensures.ok.fresh in
    subst (λ (o : Option Node). IsPosted c.self.inside.postings.postings c.in_ok-node.node o)
    (not_live c.self.inside.tree.nodes c.in_ok-node.node fresh) (c.self.invariant.kept.posted c.in_ok-node.node)

pub invariant_of-self-2 : goal.invariant_of-self-2
invariant_of-self-2 c =
    let inserted = c.in_ok-node.ensures.ok in
    record {
      kept = record {
        below_root = c.self.invariant.kept.below_root;
        prefixed = c.insert.ensures.prefix ∙ c.self.invariant.kept.prefixed;
        posted = subst (λ (ns : List Node). ArePosted c.put.new.self.postings ns) (sym inserted.nodes)
            (posted_more c.self.inside.postings.postings c.put.new.self.postings c.in_ok-node.node c.args.entry
            (c.put.ensures.put c.args.entry c.requires.ordered c.requires.values) c.self.inside.tree.nodes
            (record {
              id = c.in_ok-node.node;
              named = entry_below inserted.above (last_rdn c.args.name) c.args.entry;
            }) refl refl inserted.fresh c.self.invariant.kept.posted);
      };
      below = c.self.invariant.below;
      wide = c.self.invariant.wide;
      listed = tt;
    }
