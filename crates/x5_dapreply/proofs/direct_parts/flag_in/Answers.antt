-- One octet stands behind the identifier and the length.
use Rattle.std.proofs.Common.{arith}
use Rattle.x5_dapreply.proofs.LeafSpelling.{flag_whole}
use Rattle.x5_dapreply.proofs.direct_parts.flag_in.Goals as goal

pub returns : goal.returns
returns c =
    flag_whole c.args.octets.now c.in-Some.rest.now c.in-Some.ensures
    (omega (arith, c.in-len1.len_at_least, c.in-len1.len_below))
