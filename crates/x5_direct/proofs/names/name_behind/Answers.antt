-- The RDNs that are read are the name's.
use Rattle.std.proofs.Common.{◌-◌, IfSome, length, drop, take, refl, sym, subst, arith}
use Rattle.x5_model.specs.Values as values
use Rattle.x5_model_messages.specs.Terms as terms
use Rattle.x5_model_typed.specs.Named as named
use Rattle.x5_direct.specs.Spelled.{BeginEach, Reads}
use Rattle.x5_direct.proofs.Naming.{name_read}
use Rattle.x5_direct.proofs.Spelling.{read_taken}
use Rattle.x5_direct.proofs.names.name_behind.Goals as goal

pub returns-clause-reads : goal.returns-clause-reads
returns-clause-reads c =
    let octets = c.args.octets.now in
    let rest = c.in_ok-content.rest.now in
    let taken = length octets - length rest in
    subst (λ (n : values.Name). Reads 3 named.Name terms.name_of n octets (drop taken octets)) (sym c.in_ok-new.ensures)
    (read_taken 3 named.Name terms.name_of c.in_ok-rdns.rdns.items octets rest taken refl
    (name_read c.in_ok-rdns.rdns.items c.in_ok-content.content.now octets rest c.in_ok-content.ensures.opens
    c.in_ok-rdns.ensures.read (omega (arith, c.if-len-gt-MOST_RDNS.false, c.len.ensures))))

pub returns-clause-front : goal.returns-clause-front
returns-clause-front c =
    subst (λ (n : values.Name). IfSome c.in_ok-rdns.front (λ f. BeginEach 2 named.Rdn terms.rdn_of (take (length n - 1) n) f.now))
    (sym c.in_ok-new.ensures) c.in_ok-rdns.ensures.front
