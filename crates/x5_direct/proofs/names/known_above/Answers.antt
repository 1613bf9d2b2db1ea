-- What stands above the name is its RDNs but the last.
use Rattle.std.proofs.Common.{◌-◌, IfSome, length, take, sym, subst}
use Rattle.x5_model_messages.specs.Terms as terms
use Rattle.x5_model_typed.specs.Named as named
use Rattle.x5_direct.specs.Spelled.{BeginEach}
use Rattle.x5_direct.proofs.names.known_above.Goals as goal

pub returns-in_ok-rdns-in-Some : goal.returns-in_ok-rdns-in-Some
returns-in_ok-rdns-in-Some c =
    subst (λ rdns. BeginEach 2 named.Rdn terms.rdn_of rdns c.in-Some.front.now) (sym c.in_ok-rdns-in-Some.ensures)
    (subst (λ o. IfSome o (λ front. BeginEach 2 named.Rdn terms.rdn_of
    (take (length c.args.name.now - 1) c.args.name.now) front.now)) c.in-Some.is c.requires.front)
