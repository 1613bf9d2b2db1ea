-- The text is the value.
use Rattle.std.proofs.Common.{◌-◌, List, ℕ, length, drop, refl, sym, subst}
use Rattle.x5_model.specs.Values.{TextValue}
use Rattle.x5_model_typed.specs.Named as named
use Rattle.x5_model_typed.specs.Rules as rules
use Rattle.x5_direct.specs.Spelled.{Reads}
use Rattle.x5_direct.proofs.Spelling.{read_taken}
use Rattle.x5_direct.proofs.Valuing.{text_value}
use Rattle.x5_direct.proofs.values.text_value_at.Goals as goal

pub returns-clause-reads : goal.returns-clause-reads
returns-clause-reads c =
    let octets = c.args.octets.now in
    let rest = c.in_ok-text.rest.now in
    let taken = length octets - length rest in
    subst (λ (t : List ℕ). Reads 3 named.Value rules.value_in (TextValue t) octets (drop taken octets))
    (sym c.in_ok-new.ensures)
    (read_taken 3 named.Value rules.value_in (TextValue c.in_ok-text.text.now) octets rest taken refl
    (text_value c.in_ok-text.text.now octets rest c.in_ok-text.ensures.is))
