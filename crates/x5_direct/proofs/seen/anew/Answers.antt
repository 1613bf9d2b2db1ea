-- What names may begin with is given; and the octets that the entry takes are its own.
use Rattle.std.proofs.Common.{◌≡◌, ◌-◌, IfSome, ap, length, take, sym, subst}
use Rattle.x5_model.specs.Entries.{Named}
use Rattle.x5_model.specs.Values.{Name}
use Rattle.x5_model_messages.specs.Shadows.{entry_in}
use Rattle.x5_model_messages.specs.Terms.{rdn_of}
use Rattle.x5_model_typed.specs.Named as named
use Rattle.x5_direct.specs.Spelled.{BeginEach}
use Rattle.x5_direct.proofs.Beginning.{read_alone}
use Rattle.x5_direct.proofs.seen.anew.Goals as goal

pub entry_behind-requires : goal.entry_behind-requires
entry_behind-requires c =
    subst (λ rdns. BeginEach 2 named.Rdn rdn_of rdns c.args.above_octets.now) (sym c.deref.ensures.value) c.requires

pub known_above-requires-clause-front : goal.known_above-requires-clause-front
known_above-requires-clause-front c =
    subst (λ (n : Name). IfSome c.in_ok-entry.front (λ front. BeginEach 2 named.Rdn rdn_of (take (length n - 1) n) front.now))
    (sym (ap (λ (e : Named). e.name) c.entry.view_is)) c.in_ok-entry.ensures.front

pub new-requires : goal.new-requires
new-requires c =
    read_alone 7 named.Entry entry_in c.in_ok-entry.entry c.args.octets.now c.in_ok-entry.taken c.in_ok-entry.ensures.some.1
    c.in_ok-entry.ensures.reads
