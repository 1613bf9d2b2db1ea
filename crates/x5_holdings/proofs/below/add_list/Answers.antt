-- One row and one place more are those of one reference more.
use Rattle.x5_model.specs.Values.{key_of}
use Rattle.x5_ops.specs.declared.knowledge.Specific.{Specific}
use Rattle.x5_holdings.proofs.Numbered.{one_more_behind}
use Rattle.x5_holdings.proofs.Spotted.{one_more_spot}
use Rattle.x5_holdings.proofs.below.add_list.Goals as goal

pub loop-member-preserved : goal.loop-member-preserved
loop-member-preserved c = record {
  rows = λ keys e. one_more_behind (λ (x : Specific). key_of x.pin) keys c.args.references.now c.loop-member.member
      c.index-references-member.result c.loop-member.rows.items c.add.new.rows.items c.loop-member-test.true
      c.index-references-member.is (c.loop-member.invariant.rows keys e) c.in_ok-add.ensures;
  spots = one_more_spot c.args.list c.loop-member.member c.args.references.now c.index-references-member.result
      c.args.spots.now.items c.loop-member.spots.items c.push.new.self.items c.loop-member-test.true
      c.index-references-member.is c.loop-member.invariant.spots c.in_ok-push.ensures.items;
}
