-- The pair that is read is the RDN's only one.
use Rattle.std.proofs.Common.{◌≡◌, ◌-◌, length, [], ◌∷◌, drop, refl, sym, subst}
use Rattle.x5_model.specs.Values as values
use Rattle.x5_model_messages.specs.Terms as terms
use Rattle.x5_model_typed.specs.Named as named
use Rattle.x5_direct.specs.Spelled.{Reads}
use Rattle.x5_direct.proofs.Naming.{rdn_read}
use Rattle.x5_direct.proofs.Spelling.{read_taken}
use Rattle.x5_direct.proofs.names.rdn_at.Goals as goal

pub returns-clause-reads : goal.returns-clause-reads
returns-clause-reads c =
    let octets = c.args.octets.now in
    let rest = c.in_ok-content.rest.now in
    let taken = length octets - length rest in
    subst (λ (r : values.Rdn). Reads 2 named.Rdn terms.rdn_of r octets (drop taken octets)) (sym c.in_ok-one.ensures)
    (read_taken 2 named.Rdn terms.rdn_of (c.in_ok-pair.pair ∷ []) octets rest taken refl
    (rdn_read c.in_ok-pair.pair c.in_ok-content.content.now octets rest c.in_ok-content.ensures.opens
    c.in_ok-pair.ensures))
