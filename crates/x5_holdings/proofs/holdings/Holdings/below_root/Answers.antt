-- What stands at the place that the table gives.
use Rattle.std.proofs.Common.{◌≡◌, List, None, Some, Bor, map, sym, subst, ap, ◌∙◌}
use Rattle.std.specs.Option.{option_map}
use Rattle.std.specs.Slice.{IsItemAt}
use Rattle.x5_model.specs.Values.{key_of}
use Rattle.x5_model_run.specs.Needs.{specific_at}
use Rattle.x5_ops.specs.declared.knowledge.Specific.{Specific}
use Rattle.x5_ops.specs.KnowledgeViews.{specific_view}
use Rattle.x5_holdings.specs.State.{State}
use Rattle.x5_holdings.specs.Inside.{state_of}
use Rattle.x5_holdings.proofs.Holding.{viewed, root_placed}
use Rattle.x5_holdings.proofs.holdings.Holdings.below_root.Goals as goal

pub returns-in_err-place : goal.returns-in_err-place
returns-in_err-place c =
    subst (λ (s : State). option_map (λ (k : Bor Specific). specific_view k.now) c.from_residual.result ≡ specific_at
    (map specific_view s.root) (key_of c.args.pin.now)) c.self.view_is
    (ap (option_map (λ (k : Bor Specific). specific_view k.now)) c.from_residual.ensures ∙ sym
    (root_placed (state_of c.self.inside) c.self.inside.tables (key_of c.args.pin.now) c.self.invariant.tables
    None c.in_err-place.ensures))

pub returns : goal.returns
returns c =
    subst (λ (s : State). option_map (λ (k : Bor Specific). specific_view k.now) c.get.result ≡ specific_at
    (map specific_view s.root) (key_of c.args.pin.now)) c.self.view_is
    (viewed specific_view c.self.inside.root c.in_ok-place.place c.get.result
    (specific_at (map specific_view c.self.inside.root) (key_of c.args.pin.now))
    (subst (λ (l : List Specific). IsItemAt l c.in_ok-place.place c.get.result) c.as_slice.ensures
    c.get.ensures.lookup) (root_placed (state_of c.self.inside) c.self.inside.tables (key_of c.args.pin.now)
    c.self.invariant.tables (Some c.in_ok-place.place) c.in_ok-place.ensures))
