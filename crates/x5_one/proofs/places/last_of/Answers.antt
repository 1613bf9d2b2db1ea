-- The last RDN, where there is one.
use Rattle.std.proofs.Common.{sym, ◌∙◌}
use Rattle.x5_one.proofs.Runs.{last_there, last_none}
use Rattle.x5_one.proofs.places.last_of.Goals as goal

pub returns-in_ok-clone-in-Some : goal.returns-in_ok-clone-in-Some
returns-in_ok-clone-in-Some c = c.in_ok-clone-in-Some.ensures.cases
    ∙ last_there c.args.name.now c.in-Some.rdn.now c.in-Some.ensures

pub returns-in_ok-new-in-None : goal.returns-in_ok-new-in-None
returns-in_ok-new-in-None c = c.in_ok-new-in-None.ensures ∙ c.new.ensures.items ∙ sym (last_none c.args.name.now c.in-None.ensures)
