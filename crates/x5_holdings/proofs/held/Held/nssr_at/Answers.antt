-- What stands at the place that the table gives.
use Rattle.std.proofs.Common.{◌≡◌, List, None, Some, Bor, map, sym, subst, ap, ◌∙◌}
use Rattle.std.specs.Option.{option_map}
use Rattle.std.specs.Slice.{IsItemAt}
use Rattle.x5_model.specs.Values.{key_of}
use Rattle.x5_model_run.specs.Needs.{nssr_at}
use Rattle.x5_ops.specs.declared.knowledge.Nssr.{Nssr}
use Rattle.x5_ops.specs.KnowledgeViews.{nssr_view}
use Rattle.x5_holdings.specs.State.{Kept}
use Rattle.x5_holdings.proofs.Holding.{viewed, nssr_placed}
use Rattle.x5_holdings.proofs.held.Held.nssr_at.Goals as goal

pub returns-in_err-place : goal.returns-in_err-place
returns-in_err-place c =
    subst (λ (s : Kept). option_map (λ (k : Bor Nssr). nssr_view k.now) c.from_residual.result ≡ nssr_at
    (map nssr_view s.nssrs) (key_of c.args.rdns.now)) c.self.view_is
    (ap (option_map (λ (k : Bor Nssr). nssr_view k.now)) c.from_residual.ensures ∙ sym
    (nssr_placed c.self.inside.nssrs c.self.inside.wide (key_of c.args.rdns.now) None c.self.invariant.wide
    c.in_err-place.ensures))

pub returns : goal.returns
returns c =
    subst (λ (s : Kept). option_map (λ (k : Bor Nssr). nssr_view k.now) c.get.result ≡ nssr_at (map nssr_view s.nssrs)
    (key_of c.args.rdns.now)) c.self.view_is
    (viewed nssr_view c.self.inside.nssrs c.in_ok-place.place c.get.result
    (nssr_at (map nssr_view c.self.inside.nssrs) (key_of c.args.rdns.now))
    (subst (λ (l : List Nssr). IsItemAt l c.in_ok-place.place c.get.result) c.as_slice.ensures c.get.ensures.lookup)
    (nssr_placed c.self.inside.nssrs c.self.inside.wide (key_of c.args.rdns.now) (Some c.in_ok-place.place)
    c.self.invariant.wide c.in_ok-place.ensures))
