-- Octets that are single are the numbers.
use Rattle.std.proofs.Common.{◌≡◌, ℕ, List, sym, ◌∙◌, subst}
use Rattle.std.specs.Prelude.{IfOk}
use Rattle.std.specs.Option.{option_map}
use Rattle.std.specs.declared.option.Option.{Option}
use Rattle.x5_types.proofs.Singles.{singles_oid}
use Rattle.x5_types.proofs.oid.oid_of.Goals as goal

pub returns-then-are_single : goal.returns-then-are_single
returns-then-are_single c =
    subst (λ (o : Option (List ℕ)). IfOk c.single_arcs.result (λ found. option_map (λ v. v.items) found ≡ o))
    (sym (singles_oid c.args.octets.now (sym c.are_single.ensures ∙ c.if-are_single.true))) c.single_arcs.ensures
