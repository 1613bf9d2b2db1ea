-- Each turn draws a surname and adds a person.
use Rattle.std.proofs.Common.{string_bytes}
use Rattle.x5_gen.proofs.Making.{none_drawn, no_people, nothing_added, person_added, stepped}
use Rattle.x5_gen.proofs.world.add_people.Goals as goal
use Rattle.std.proofs.Common.{sym}

pub loop-before-init : goal.loop-before-init
loop-before-init c = record {
  text = nothing_added (string_bytes c.args.text.now) _ (no_people c.args.prefix.now c.args.draws.now.x);
  draws = sym (none_drawn c.args.draws.now.x);
}

pub loop-before-preserved : goal.loop-before-preserved
loop-before-preserved c = record {
  text = person_added (string_bytes c.args.text.now) (string_bytes c.loop-before.text) (string_bytes c.write.new.self) c.args.prefix.now c.args.draws.now.x c.loop-before.before c.loop-before.draws.x c.below-surname.new.self.x c.below-surname.result
      c.loop-before.invariant.text c.loop-before.invariant.draws c.below-surname.ensures.step c.below-surname.ensures.number c.in_ok-write.ensures.bytes;
  draws = stepped c.args.draws.now.x c.loop-before.before c.loop-before.draws.x c.below-surname.new.self.x c.loop-before.invariant.draws c.below-surname.ensures.step;
}
