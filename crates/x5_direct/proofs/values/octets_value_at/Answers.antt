-- The content is the value.
use Rattle.std.proofs.Common.{◌≡◌, ◌-◌, ◌∙◌, List, ℕ, length, drop, refl, sym, subst}
use Rattle.x5_model.specs.Values.{OctetsValue}
use Rattle.x5_model_typed.specs.Named as named
use Rattle.x5_model_typed.specs.Rules as rules
use Rattle.x5_direct.specs.Spelled.{Reads}
use Rattle.x5_direct.proofs.Spelling.{read_taken}
use Rattle.x5_direct.proofs.Valuing.{octets_value}
use Rattle.x5_direct.proofs.values.octets_value_at.Goals as goal

pub returns-clause-reads : goal.returns-clause-reads
returns-clause-reads c =
    let octets = c.args.octets.now in
    let rest = c.in_ok-content.rest.now in
    let content = c.in_ok-content.content.now in
    let taken = length octets - length rest in
    let is : c.new.result ≡ content = c.new.ensures ∙ c.in_ok-content-2.ensures.items in
    subst (λ (t : List ℕ). Reads 3 named.Value rules.value_in (OctetsValue t) octets (drop taken octets)) (sym is)
    (read_taken 3 named.Value rules.value_in (OctetsValue content) octets rest taken refl
    (octets_value content octets rest c.in_ok-content.ensures.opens c.if-content-gt-MOST_VALUE_OCTETS.false))
