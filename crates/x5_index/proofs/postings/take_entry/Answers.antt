-- The values of one attribute more have been taken away.
use Rattle.std.proofs.Common.{arith}
use Rattle.x5_index.proofs.Taking.{taken_attribute}
use Rattle.x5_index.proofs.postings.take_entry.Goals as goal

pub loop-attribute-preserved : goal.loop-attribute-preserved
loop-attribute-preserved c =
    let at = c.loop-attribute.invariant in
    record {
      taken = taken_attribute c.args.node c.args.kept.now c.args.postings.now.items c.loop-attribute.postings.items c.take_terms.new.postings.items c.attributes-attribute-items.result.now c.loop-attribute.attribute-index c.attribute-item.result c.loop-attribute-test.true c.attribute-item.is at.taken c.take_terms.ensures.taken;
      len = omega (arith, at.len, c.take_terms.ensures.len);
      capacity = omega (arith, at.capacity, c.take_terms.ensures.capacity);
    }
