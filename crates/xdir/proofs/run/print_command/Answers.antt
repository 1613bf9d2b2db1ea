-- What came of a command is written as its block, and of a comment nothing is; in both cases agents keep their names,
-- and the network has room after this line too.
use Rattle.std.proofs.Common.{◌+◌}
use Rattle.x5_know.specs.WorldView.{world_view}
use Rattle.x5_load.specs.Views.{file_view}
use Rattle.x5_script.specs.Views.{command_view}
use Rattle.xdir.specs.Taken.{point}
use Rattle.xdir.proofs.Courses.{carried, silent, writes_course, writes_nothing}
use Rattle.xdir.proofs.run.print_command.Goals as goal

pub returns-in-Ok-Some-clause-room_after : goal.returns-in-Ok-Some-clause-room_after
returns-in-Ok-Some-clause-room_after g c = λ done. c.in-Ok-Some.ensures.room_after c.args.before c.requires.room

pub returns-in-Ok-None-clause-room_after : goal.returns-in-Ok-None-clause-room_after
returns-in-Ok-None-clause-room_after g c = λ done. c.in-Ok-None.ensures.room_after c.args.before c.requires.room

pub returns-in-Ok-Some-clause-names : goal.returns-in-Ok-Some-clause-names
returns-in-Ok-Some-clause-names g c = λ done. c.in-Ok-Some.ensures.names

pub returns-in-Ok-None-clause-names : goal.returns-in-Ok-None-clause-names
returns-in-Ok-None-clause-names g c = λ done. c.in-Ok-None.ensures.names

pub returns-in-Ok-Some-clause-block : goal.returns-in-Ok-Some-clause-block
returns-in-Ok-Some-clause-block g c = λ past stands told.
    let p = point (world_view c.args.described.now) past in
    let net = c.carry_out.new.network in
    let done = c.in-Ok-Some.ensures.carried p stands told in
    writes_course (file_view c.args.described.now) past (c.args.before + 1) (command_view c.args.command.now) done.command net done.is done.askable
    c.in-Ok-Some.course
    (carried p done.command net c.in-Ok-Some.field-0 c.in-Ok-Some.course c.in-Ok-Some.field-0-is done.carried)
    c.print_course-status.result (g.K.Sink.octets c.args.out.now) (g.K.Sink.octets c.print_course-status.new.out)
    (g.K.Sink.fault_count c.args.out.now) (g.K.Sink.fault_count c.print_course-status.new.out) c.print_course-status.ensures.line

pub returns-in-Ok-None-clause-block : goal.returns-in-Ok-None-clause-block
returns-in-Ok-None-clause-block g c = λ past stands told.
    let p = point (world_view c.args.described.now) past in
    let net = c.carry_out.new.network in
    let done = c.in-Ok-None.ensures.carried p stands told in
    writes_nothing (file_view c.args.described.now) past (c.args.before + 1) (command_view c.args.command.now) done.command net done.is done.askable
    (g.K.Sink.octets c.args.out.now) (g.K.Sink.fault_count c.args.out.now) (g.K.Sink.fault_count c.args.out.now)
    (silent p done.command net c.in-Ok-None.field-0 c.in-Ok-None.field-0-is done.carried)
