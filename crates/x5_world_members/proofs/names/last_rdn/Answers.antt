-- The last RDN is the one at the last place.
use Rattle.std.proofs.Common.{sym, ◌∙◌, ap}
use Rattle.std.specs.Option.{option_copied}
use Rattle.x5_world_members.proofs.LastRdn.{last_by_place, none_by_place}
use Rattle.x5_world_members.proofs.names.last_rdn.Goals as goal

pub returns-in_ok-clone-in-Some : goal.returns-in_ok-clone-in-Some
returns-in_ok-clone-in-Some c =
    c.in_ok-clone-in-Some.ensures.cases
    ∙ sym (last_by_place c.args.name.now c.in-Some.rdn.now (sym c.last.ensures ∙ ap option_copied c.in-Some.is))

pub returns-in_ok-new-in-None : goal.returns-in_ok-new-in-None
returns-in_ok-new-in-None c =
    c.in_ok-new-in-None.ensures ∙ c.new.ensures.items ∙ sym (none_by_place c.args.name.now (sym c.last.ensures ∙ ap option_copied c.in-None.is))
