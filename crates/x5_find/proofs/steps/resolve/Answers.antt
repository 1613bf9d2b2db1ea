-- A pin on the way has no more RDNs than an octet counts.
use Rattle.std.proofs.Common.{◌≡◌, ◌≤◌, length, Some, sym, subst, arith}
use Rattle.x5_model.specs.Keys.{Key}
use Rattle.x5_model.specs.Values.{Name, key_of}
use Rattle.x5_model_run.specs.Holdings.{known_pin}
use Rattle.x5_ops.specs.RequestViews.{request_view}
use Rattle.x5_holdings.specs.Known.{IsLongest}
use Rattle.x5_holdings.specs.declared.holdings.Pin.{Pin}
use Rattle.x5_holdings.specs.State.{holdings_view}
use Rattle.x5_find.proofs.Places.{subordinate_near, cross_near}
use Rattle.x5_find.proofs.steps.resolve.Goals as goal

pub overflow_cast-result : goal.overflow_cast-result
overflow_cast-result c =
    let l : length c.in-Some-Subordinate.reference.now.pin ≤ 255 = subordinate_near
    (request_view c.args.message.now.request) (holdings_view c.args.state.now) (key_of c.rdns.result.now)
    (subst (λ (n : Name). (p : Key) → known_pin (request_view c.args.message.now.request) (holdings_view
    c.args.state.now) (key_of n) ≡ Some p → length p ≤ 255) (sym c.rdns.ensures) c.requires.near)
    c.in-Some-Subordinate.reference
    (subst (λ (pin : Pin). IsLongest (request_view c.args.message.now.request) (holdings_view c.args.state.now)
    (key_of c.rdns.result.now) pin) c.in-Some-Subordinate.field-0-is c.in-Some-Subordinate.ensures) in
    omega (arith, c.len.ensures, l)

pub overflow_cast-result-in-Some-Cross : goal.overflow_cast-result-in-Some-Cross
overflow_cast-result-in-Some-Cross c =
    let l : length c.in-Some-Cross.reference.now.pin ≤ 255 = cross_near
    (request_view c.args.message.now.request) (holdings_view c.args.state.now) (key_of c.rdns.result.now)
    (subst (λ (n : Name). (p : Key) → known_pin (request_view c.args.message.now.request) (holdings_view
    c.args.state.now) (key_of n) ≡ Some p → length p ≤ 255) (sym c.rdns.ensures) c.requires.near)
    c.in-Some-Cross.reference
    (subst (λ (pin : Pin). IsLongest (request_view c.args.message.now.request) (holdings_view c.args.state.now)
    (key_of c.rdns.result.now) pin) c.in-Some-Cross.field-0-is c.in-Some-Cross.ensures) in
    omega (arith, c.len-in-Some-Cross.ensures, l)
