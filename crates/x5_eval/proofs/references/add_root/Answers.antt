-- Where the agent answers the root, the places are those of all its references.
use Rattle.std.proofs.Common.{arith, ◌≡◌, false, true, ◌∙◌, ap, length, map, sym}
use Rattle.std.specs.Option.{is_some}
use Rattle.x5_model.specs.Values.{Name, key_of}
use Rattle.x5_holdings.specs.Runs.{run_of}
use Rattle.x5_ops.specs.ReferenceViews.{chained_view, reference_view}
use Rattle.x5_ops.specs.RequestViews.{subset_view}
use Rattle.x5_holdings.specs.State.{holdings_view}
use Rattle.x5_eval.specs.Numbers.{own_place}
use Rattle.x5_eval.proofs.Adding.{on_ok}
use Rattle.x5_eval.proofs.Resting.{all_found, all_there, no_root, root_found, root_there}
use Rattle.x5_eval.proofs.references.add_root.Goals as goal

pub returns-then-not-answers_root : goal.returns-then-not-answers_root
returns-then-not-answers_root c =
    no_root (holdings_view c.args.state.now) (chained_view c.args.names.now c.args.message.now) (subset_view c.args.subset) (map (reference_view c.args.names.now) c.args.found.now)
    (sym (c.answers_root.ensures c.args.names.now (sym (ap is_some (c.requires.subset c.args.names.now)))) ∙ (let e : c.answers_root.result ≡ false = grind (arith, c.if-not-answers_root.true) in e))

pub add_all-requires-clause-known : goal.add_all-requires-clause-known
add_all-requires-clause-known c =
    all_there (holdings_view c.args.state.now) (chained_view c.args.names.now c.args.message.now) (subset_view c.args.subset)
    c.args.state.now.root c.root.result.now c.root.ensures c.deref.result.now (length c.args.names.now)
    (c.deref.ensures.value ∙ c.in_ok-places.ensures ∙ ap (map own_place) (c.root_under.ensures
    ∙ ap (λ (n : Name). run_of (map (λ k. key_of k.pin) c.args.state.now.root) (key_of n)) c.rdns.ensures))
    (root_there (holdings_view c.args.state.now) (chained_view c.args.names.now c.args.message.now) (subset_view c.args.subset) (length c.args.names.now)
    (sym (c.answers_root.ensures c.args.names.now (sym (ap is_some (c.requires.subset c.args.names.now)))) ∙ (let e : c.answers_root.result ≡ true = grind (arith, c.if-not-answers_root.false) in e)) c.requires.known)

pub returns : goal.returns
returns c =
    on_ok _ _ (λ e. root_found (holdings_view c.args.state.now) (chained_view c.args.names.now c.args.message.now) (subset_view c.args.subset) (map (reference_view c.args.names.now) c.args.found.now) (map (reference_view c.args.names.now) c.add_all.new.found)
    (sym (c.answers_root.ensures c.args.names.now (sym (ap is_some (c.requires.subset c.args.names.now)))) ∙ (let e : c.answers_root.result ≡ true = grind (arith, c.if-not-answers_root.false) in e))
    (all_found (holdings_view c.args.state.now) (chained_view c.args.names.now c.args.message.now) (subset_view c.args.subset)
    c.args.state.now.root c.root.result.now c.root.ensures c.deref.result.now
    (map (reference_view c.args.names.now) c.args.found.now) (map (reference_view c.args.names.now) c.add_all.new.found)
    (c.deref.ensures.value ∙ c.in_ok-places.ensures ∙ ap (map own_place) (c.root_under.ensures
    ∙ ap (λ (n : Name). run_of (map (λ k. key_of k.pin) c.args.state.now.root) (key_of n)) c.rdns.ensures)) e))
    c.add_all.result c.add_all.ensures
