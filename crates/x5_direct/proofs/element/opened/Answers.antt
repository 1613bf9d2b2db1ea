-- The content is as long as the length octets say.
use Rattle.std.proofs.Common.{◌-◌, length, take, drop, refl}
use Rattle.x5_direct.proofs.Heads.{opens_so, whole_here, rest_here}
use Rattle.x5_direct.proofs.element.opened.Goals as goal

pub returns-clause-opens : goal.returns-clause-opens
returns-clause-opens c =
    let octets = c.args.octets.now in
    opens_so c.args.first c.in-Some.count octets (take (length octets - 1) (drop 1 octets)) c.in-Some.behind.now
    (take c.in-Some.count c.in-Some.behind.now)
    (take (length c.in-Some.behind.now - c.in-Some.count) (drop c.in-Some.count c.in-Some.behind.now))
    c.ranges.first.fits c.requires (whole_here octets c.args.first c.in-len1-up.len_at_least c.if-octet-first.false)
    c.in-Some.ensures.has c.if-behind-count.false refl (rest_here c.in-Some.behind.now c.in-Some.count)
