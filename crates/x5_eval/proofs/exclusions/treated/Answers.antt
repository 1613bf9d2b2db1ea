-- Three tables give the places of pins just below the entry.
use Rattle.std.proofs.Common.{◌≡◌, ◌+◌, ◌++◌, List, ap, length, map, ◌∙◌}
use Rattle.std.specs.List.{flat_map}
use Rattle.x5_model.specs.Keys.{Key}
use Rattle.x5_model.specs.Values.{key_of}
use Rattle.x5_ops.specs.KnowledgeViews.{specific_view}
use Rattle.x5_ops.specs.RequestViews.{request_view}
use Rattle.x5_holdings.specs.Runs.{long_places, run_of}
use Rattle.x5_eval.specs.Rest.{at_place, pin_last}
use Rattle.x5_eval.proofs.Leaving.{treated_by}
use Rattle.x5_eval.proofs.exclusions.treated.Goals as goal

pub returns : goal.returns
returns c =
    let deep : length c.rdns-name.result.now ≡ length c.args.at.now = ap length c.rdns-name.ensures in
    let near : (keys : List Key) → long_places (length c.rdns-name.result.now + 1) (run_of keys (key_of c.rdns-name.result.now)) ≡ long_places (length c.args.at.now + 1) (run_of keys (key_of c.args.at.now))
    = λ keys i. long_places (deep i + 1) (run_of keys (key_of (c.rdns-name.ensures i))) in
    treated_by c.args.state.now (request_view c.args.request.now) c.args.held.now.subordinate c.args.at.now c.deref.result.now c.deref-2.result.now c.deref-3.result.now
    c.new-rdns.result.items c.add_owns.new.rdns.items c.add_copies.new.rdns.items c.add_pins.new.rdns.items
    (c.deref.ensures.value ∙ c.in_ok-own.ensures ∙ near (map (λ k. key_of k.prefix) c.args.state.now.own))
    (c.deref-2.ensures.value ∙ c.in_ok-copies.ensures ∙ near (map (λ k. key_of k.prefix) c.args.state.now.copies))
    (c.deref-3.ensures.value ∙ c.in_ok-pins.ensures ∙ near (map (λ k. key_of k.pin) c.args.held.now.subordinate))
    c.new-rdns.ensures.items c.in_ok-add_owns.ensures c.in_ok-add_copies.ensures
    (c.in_ok-add_pins.ensures ∙ (λ i. c.add_copies.new.rdns.items ++ flat_map (at_place pin_last (map specific_view (c.subordinate.ensures i))) c.deref-3.result.now))
