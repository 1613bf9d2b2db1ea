-- The attribute at the place is put in after those behind it.
use Rattle.std.proofs.Common.{not, ◌-◌, ◌∙◌, arith}
use Rattle.x5_model.specs.Statics.{has_equal_values}
use Rattle.x5_model.specs.Requests as requests
use Rattle.x5_ops.specs.RequestViews.{attribute_view}
use Rattle.x5_ops.proofs.Dropping.{all_at}
use Rattle.x5_ops.proofs.Offering.{apart_of, entry_one}
use Rattle.x5_ops.proofs.changes.entry_of.Goals as goal

pub with_offered-requires : goal.with_offered-requires
with_offered-requires c =
    apart_of c.index-offered-left.result c.in-Known.kind c.as_slice.result.now c.in-Known.is c.as_slice.ensures
    (all_at (λ (a : requests.Attribute). not (has_equal_values a)) attribute_view c.args.offered.now (c.loop-left.left - 1) c.index-offered-left.result c.requires (omega arith) c.index-offered-left.is)

pub loop-left-preserved-in-Known : goal.loop-left-preserved-in-Known
loop-left-preserved-in-Known c = (
  omega arith,
  c.in_ok-entry.ensures
      ∙ entry_one c.args.offered.now c.loop-left.left c.index-offered-left.result c.in-Known.kind c.as_slice.result.now c.loop-left.entry c.loop-left-test.true c.loop-left.invariant.0 c.index-offered-left.is c.in-Known.is c.as_slice.ensures c.loop-left.invariant.1,
)
