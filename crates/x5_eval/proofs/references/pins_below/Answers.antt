-- All rows at or below the base.
use Rattle.std.proofs.Common.{ap, length, map, sym, ◌∙◌}
use Rattle.x5_model.specs.Values.{Name, key_of}
use Rattle.x5_holdings.specs.Runs.{run_of}
use Rattle.x5_ops.specs.RequestViews.{subset_view}
use Rattle.x5_ops.specs.declared.requests.Subset.{Subset}
use Rattle.x5_eval.specs.Numbers.{own_place}
use Rattle.x5_eval.specs.Rest.{depth_in, places_to}
use Rattle.x5_eval.proofs.Resting.{places_all}
use Rattle.x5_eval.proofs.Telling.{ok_by}
use Rattle.x5_eval.proofs.references.pins_below.Goals as goal

pub returns-in-Tree : goal.returns-in-Tree
returns-in-Tree c =
    ok_by _ _ (λ places e. e ∙ ap (map own_place) (c.subordinate_under.ensures
    ∙ ap (λ (n : Name). run_of (map (λ k. key_of k.pin) c.args.held.now.subordinate) (key_of n)) c.rdns-in-Tree.ensures)
    ∙ places_all (map (λ k. key_of k.pin) c.args.held.now.subordinate) (key_of c.args.base.now)
    ∙ ap (λ (d : Subset). places_to (map (λ k. key_of k.pin) c.args.held.now.subordinate) (key_of c.args.base.now) (depth_in (subset_view d) (length c.args.base.now))) (sym c.in-Tree.is))
    c.places.result c.places.ensures
