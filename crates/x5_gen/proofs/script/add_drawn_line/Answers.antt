-- The four numbers are the draws.
use Rattle.std.proofs.Common.{◌≡◌, ◌+◌, ◌++◌, refl, subst, string_bytes}
use Rattle.std.specs.Result.{OnOk}
use Rattle.x5_gen.proofs.Making.{drawn_is, four_drawn, on_ok}
use Rattle.x5_gen.proofs.script.add_drawn_line.Goals as goal

pub returns-clause-text : goal.returns-clause-text
returns-clause-text c =
    subst (λ t. OnOk c.add_line.result (string_bytes c.add_line.new.text ≡ string_bytes c.args.text.now ++ t))
    (drawn_is c.args.number c.args.draws.now.x c.below-agent.new.self.x c.below-kind.new.self.x c.below-holder.new.self.x c.below-person.new.self.x
    c.below-agent.result c.below-kind.result c.below-holder.result c.below-person.result (c.below-person.result + 1)
    c.below-agent.ensures.step c.below-kind.ensures.step c.below-holder.ensures.step c.below-person.ensures.step
    c.below-agent.ensures.number c.below-kind.ensures.number c.below-holder.ensures.number c.below-person.ensures.number refl)
    c.add_line.ensures

pub returns-clause-draws : goal.returns-clause-draws
returns-clause-draws c =
    on_ok c.add_line.result
    (four_drawn c.args.draws.now.x c.below-agent.new.self.x c.below-kind.new.self.x c.below-holder.new.self.x c.below-person.new.self.x
    c.below-agent.ensures.step c.below-kind.ensures.step c.below-holder.ensures.step c.below-person.ensures.step)
