-- What is told first of the first member of which something is told.
use Rattle.std.proofs.Common.{sym, ◌∙◌}
use Rattle.std.specs.List.{flat_map}
use Rattle.x5_model_tree.specs.Masters.{Mastered, numbered}
use Rattle.x5_model_tree.specs.Consistent.{unknown_below}
use Rattle.x5_check.specs.Views.{breach_view}
use Rattle.x5_check.proofs.Steps.{pass, stop}
use Rattle.x5_check.proofs.unknown_below.unknown_below.Goals as goal

pub returns-then-is_some : goal.returns-then-is_some
returns-then-is_some c =
    stop breach_view (λ (p : Mastered). flat_map (λ a. flat_map (λ k. unknown_below c.args.known.now a.0 a.1 k p) a.1.contexts) (numbered c.args.known.now)) c.held-held.result.now c.loop-below.below-index _ c.loop-below.invariant c.in_ok-told.told c.below-item.result c.loop-below-test.true c.below-item.is c.in_ok-told.ensures (sym c.is_some.ensures ∙ c.if-is_some.true)

pub loop-below-preserved : goal.loop-below-preserved
loop-below-preserved c =
    pass breach_view (λ (p : Mastered). flat_map (λ a. flat_map (λ k. unknown_below c.args.known.now a.0 a.1 k p) a.1.contexts) (numbered c.args.known.now)) c.held-held.result.now c.loop-below.below-index _ c.loop-below.invariant c.in_ok-told.told c.below-item.result c.loop-below-test.true c.below-item.is c.in_ok-told.ensures (sym c.is_some.ensures ∙ c.if-is_some.false)
