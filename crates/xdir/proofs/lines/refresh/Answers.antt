-- What comes of a refresh, by cases on what is told of knowledge: where it isn't consistent no copy is refreshed, and
-- where it is the messages and the outcome are those that the network tells of.
use Rattle.std.proofs.Common.{◌≡◌, true, false, arith}
use Rattle.xdir.proofs.Courses.{refreshed_as, unrefreshed_course}
use Rattle.xdir.proofs.Sound.{is_unsound}
use Rattle.xdir.proofs.lines.refresh.Goals as goal

pub returns-then-not-is_consistent-clause-course : goal.returns-then-not-is_consistent-clause-course
returns-then-not-is_consistent-clause-course c = λ p stands told.
    let unsure : c.args.is_consistent ≡ false = grind (arith, c.if-not-is_consistent.true) in
    unrefreshed_course p c.args.number c.args.push c.args.total c.pass.new.self c.unrefreshed.result c.unrefreshed.ensures
    (is_unsound p.described c.args.is_consistent unsure told) (c.pass.ensures.stands p stands)

pub returns-clause-course : goal.returns-clause-course
returns-clause-course c = λ p stands told.
    let sure : c.args.is_consistent ≡ true = grind (arith, c.if-not-is_consistent.false) in
    refreshed_as p c.args.number c.args.push c.args.total c.args.network.now c.refresh.new.self c.in_ok-told.told _
    (cc) stands
    (c.in_ok-told.ensures.refreshed p stands (told.0 sure)) c.in_ok-told.ensures.named
