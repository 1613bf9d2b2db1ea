-- The sender's name stands at its place.
use Rattle.std.proofs.Common.{true, nat_lt, length, sym, ap, ◌∙◌, Some}
use Rattle.x5_model.specs.Words.{in_option}
use Rattle.x5_ops.specs.AgentNames.{agent_of}
use Rattle.x5_access.proofs.Names.{own_place}
use Rattle.x5_world.specs.Answered.{is_agent}
use Rattle.x5_world.proofs.Journals.{named_is}
use Rattle.x5_world.proofs.journal.sender.Goals as goal

pub returns-in_ok-clone-in-Some-clause-view : goal.returns-in_ok-clone-in-Some-clause-view
returns-in_ok-clone-in-Some-clause-view c =
    ap Some
    (ap (agent_of c.args.names.now) c.in_ok-clone-in-Some.ensures.cases
    ∙ own_place c.args.names.now c.in-Some.agent c.name.result.now c.requires.apart c.name.ensures)
    ∙ sym c.in-Some.is

pub returns-in_ok-clone-in-Some-clause-named : goal.returns-in_ok-clone-in-Some-clause-named
returns-in_ok-clone-in-Some-clause-named c =
    ap (is_agent c.args.names.now) c.in_ok-clone-in-Some.ensures.cases
    ∙ named_is c.args.names.now c.in-Some.agent c.name.result.now c.requires.apart c.name.ensures
    (ap (in_option true (λ a. nat_lt a (length c.args.names.now))) (sym c.in-Some.is) ∙ c.requires.there)
