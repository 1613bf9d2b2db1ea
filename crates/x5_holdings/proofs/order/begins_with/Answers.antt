-- A name begins with another where its first RDNs are the same, and a shorter one doesn't.
use Rattle.x5_holdings.proofs.Under.{begins}
use Rattle.std.proofs.Common.{refl}
use Rattle.x5_holdings.proofs.order.begins_with.Goals as goal

pub returns-then-rdns-name : goal.returns-then-rdns-name
returns-then-rdns-name c = begins c.args.rdns.now c.args.name.now _ c.compare_names.result c.is_eq.result refl
    c.compare_names.ensures c.is_eq.ensures
