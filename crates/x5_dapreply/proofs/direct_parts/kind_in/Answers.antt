-- The one octet behind the identifier and the length is the number of the kind.
use Rattle.std.proofs.Common.{arith}
use Rattle.x5_ops.specs.ReferenceViews.{kind_view}
use Rattle.x5_dapreply.proofs.LeafSpelling.{kind_whole}
use Rattle.x5_dapreply.proofs.direct_parts.kind_in.Goals as goal

pub returns-in-Some-from_number : goal.returns-in-Some-from_number
returns-in-Some-from_number c =
    kind_whole c.args.octets.now c.in-Some.rest.now (kind_view c.in-Some-from_number.kind) c.in-Some.ensures
    (omega (arith, c.in-len1.len_at_least, c.in-len1.len_below)) c.in-Some-from_number.ensures
