-- The totals grow by the counts of the command's block, and a comment leaves them as they are: by cases on whether
-- anything came of the command.
use Rattle.x5_report.specs.Counted.{totals_view}
use Rattle.x5_model_tree.specs.World.{names_of_agents}
use Rattle.x5_script.specs.Views.{command_view}
use Rattle.xdir.proofs.Counts.{comment_adds, course_adds}
use Rattle.xdir.proofs.Courses.{carried, silent}
use Rattle.xdir.proofs.summed.count_command.Goals as goal

pub returns-in-Some-clause-adds : goal.returns-in-Some-clause-adds
returns-in-Some-clause-adds c = λ p stands told.
    let net = c.carry_out.new.network in
    let done = c.in_ok-carried.ensures.carried p stands told in
    course_adds p (command_view c.args.command.now) done.command net c.in-Some.course (totals_view c.args.totals.now) (totals_view c.count.new.self)
    done.is done.askable (carried p done.command net c.in_ok-carried.carried c.in-Some.course c.in-Some.is done.carried)
    (c.count.ensures.of_run (names_of_agents p.described))

pub returns-in-None-clause-adds : goal.returns-in-None-clause-adds
returns-in-None-clause-adds c = λ p stands told.
    let net = c.carry_out.new.network in
    let done = c.in_ok-carried.ensures.carried p stands told in
    comment_adds p (command_view c.args.command.now) done.command net (totals_view c.args.totals.now) done.is done.askable
    (silent p done.command net c.in_ok-carried.carried c.in-None.is done.carried)
