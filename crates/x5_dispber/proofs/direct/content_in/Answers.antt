-- Entries, subordinate references and non-specific ones, and nothing else, are the whole content.
use Rattle.std.proofs.Common.{map, arith}
use Rattle.x5_types.specs.FormView.{world}
use Rattle.x5_dispber.specs.ShadowViews.{told_known, told_other}
use Rattle.x5_dispber.proofs.DirectParts.{nothing_behind, total_read}
use Rattle.x5_dispber.proofs.direct.content_in.Goals as goal

pub returns : goal.returns
returns c =
    let names = c.args.names.now in
    let none = nothing_behind c.in_ok-content.rest.now c.in_ok-third.end.now (omega (arith, c.if-rest-end-gt0.false)) in
    total_read (world c.args.start.now names) c.in_ok-entries.entries (map (told_known names) c.in_ok-specific.specific)
    (map (told_other names) c.in_ok-nssr.nssr) c.args.octets.now c.in_ok-content.content.now c.in_ok-content.rest.now
    c.in_ok-first.first.now c.in_ok-second.second.now c.in_ok-third.third.now c.in_ok-first.behind.now
    c.in_ok-second.last.now
    c.in_ok-third.end.now c.in_ok-content.ensures.opens none.0 c.in_ok-first.ensures.opens c.in_ok-second.ensures.opens
    c.in_ok-third.ensures.opens none.1 c.in_ok-entries.ensures.read c.in_ok-specific.ensures c.in_ok-nssr.ensures
