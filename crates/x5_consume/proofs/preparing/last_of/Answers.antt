-- It's the one at the last place, where there is one.
use Rattle.std.proofs.Common.{Bor, sym, ap, ◌∙◌}
use Rattle.std.specs.Option.{option_map}
use Rattle.x5_names.specs.declared.spelled.Rdn.{Rdn as Held}
use Rattle.x5_consume.proofs.Lasts.{last_some, last_none}
use Rattle.x5_consume.proofs.preparing.last_of.Goals as goal

pub returns-in_ok-clone-in-Some : goal.returns-in_ok-clone-in-Some
returns-in_ok-clone-in-Some c =
    c.in_ok-clone-in-Some.ensures.cases
    ∙ last_some c.args.name.now c.in-Some.rdn.now
    (ap (option_map (λ (r : Bor Held). r.now)) (sym c.in-Some.is) ∙ c.last.ensures)

pub returns-in_ok-new-in-None : goal.returns-in_ok-new-in-None
returns-in_ok-new-in-None c =
    c.in_ok-new-in-None.ensures ∙ c.new.ensures.items
    ∙ last_none c.args.name.now (ap (option_map (λ (r : Bor Held). r.now)) (sym c.in-None.is) ∙ c.last.ensures)
