-- The RDNs so far, what is left of the octets, and those before the last RDN.
use Rattle.std.proofs.Common.{◌-◌, IfSome, length, take}
use Rattle.x5_model_messages.specs.Terms as terms
use Rattle.x5_model_typed.specs.Named as named
use Rattle.x5_direct.specs.Spelled.{Ahead, BeginEach}
use Rattle.x5_direct.proofs.names.rdns_behind.Given as goal

abbrev pub invariant-loop-front : goal.invariant-loop-front
invariant-loop-front l = Ahead 2 named.Rdn terms.rdn_of l.octets l.rdns.items l.left
    × IfSome l.front (λ f. BeginEach 2 named.Rdn terms.rdn_of (take (length l.rdns.items - 1) l.rdns.items) f.now)

abbrev pub decreases-loop-front : goal.decreases-loop-front
decreases-loop-front l = length l.left
