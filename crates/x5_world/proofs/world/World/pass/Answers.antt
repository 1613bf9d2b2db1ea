-- A comment changes nothing but the number of lines.
use Rattle.std.proofs.Common.{◌+◌, ◌≤◌, length, ap, arith}
use Rattle.x5_world.specs.State.{Net}
use Rattle.x5_world.proofs.Standing.{after_comment, as_before}
use Rattle.x5_world.proofs.Worlds.{few_lines, room_next}
use Rattle.x5_world.proofs.world.World.pass.Goals as goal

pub count_line-requires : goal.count_line-requires
count_line-requires c = few_lines c.args.self.now c.requires.room

pub returns-clause-stands : goal.returns-clause-stands
returns-clause-stands c =
    λ p s. after_comment c.args.self.now c.count_line.new.self p s
    (as_before c.args.self.now c.count_line.new.self c.args.self.now.network c.count_line.ensures)

pub returns-clause-room_after : goal.returns-clause-room_after
returns-clause-room_after c = λ lines h.
    let n : Net = c.args.self.now in
    let b : length n.network.lost_replies ≤ length n.network.lost_replies + 1 = omega arith in
    room_next n c.count_line.new.self n.network lines c.count_line.ensures b h
