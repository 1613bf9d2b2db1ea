-- The rows are those of the prefixes.
use Rattle.std.proofs.Common.{ℕ, List, map, sym, ap, ◌∙◌, Option}
use Rattle.std.specs.List.{filter}
use Rattle.x5_model.specs.Keys.{Key}
use Rattle.x5_model.specs.Values.{key_of}
use Rattle.x5_holdings.specs.Runs.{long_places, run_of}
use Rattle.x5_holdings.specs.State.{holdings_view}
use Rattle.x5_eval.specs.Numbers.{copy_pins, own_place, in_reach}
use Rattle.x5_eval.proofs.Numbered.{all_left, copy_pins_are}
use Rattle.x5_eval.proofs.Telling.{ok_by}
use Rattle.x5_eval.proofs.numbers.copies_within.Goals as goal

pub returns-in-Some : goal.returns-in-Some
returns-in-Some c =
    ok_by _ _ (λ places e. e
    ∙ ap (λ (pins : List Key). long_places c.in-Some.depth (run_of pins (key_of c.args.rdns.now))) (copy_pins_are c.args.state.now)
    ∙ ap (λ (o : Option ℕ). map own_place (filter (in_reach o) (run_of (copy_pins (holdings_view c.args.state.now)) (key_of c.args.rdns.now)))) (sym c.in-Some.is))
    c.copies_at_depth.result c.copies_at_depth.ensures

pub returns-in-None : goal.returns-in-None
returns-in-None c =
    ok_by _ _ (λ places e. e
    ∙ ap (map own_place) (c.copies_under.ensures ∙ ap (λ (pins : List Key). run_of pins (key_of c.args.rdns.now)) (copy_pins_are c.args.state.now)
    ∙ all_left (run_of (copy_pins (holdings_view c.args.state.now)) (key_of c.args.rdns.now)))
    ∙ ap (λ (o : Option ℕ). map own_place (filter (in_reach o) (run_of (copy_pins (holdings_view c.args.state.now)) (key_of c.args.rdns.now)))) (sym c.in-None.is))
    c.places.result c.places.ensures
