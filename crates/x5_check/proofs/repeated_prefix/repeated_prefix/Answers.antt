-- Nothing is told before the first member that stood there before or isn't fit.
use Rattle.std.proofs.Common.{◌≡◌, true, List, subst, sym, ◌∙◌}
use Rattle.std.specs.Option.{option_map}
use Rattle.x5_model.specs.Words.{first_of}
use Rattle.x5_model.specs.Keys.{same_key}
use Rattle.x5_model_tree.specs.Masters.{Mastered, pin_of}
use Rattle.x5_model_tree.specs.Consistent.{breach, NamePrinted, AgentPrinted}
use Rattle.x5_check.specs.Parts.{unfit_at}
use Rattle.x5_check.specs.Views.{breach_view}
use Rattle.x5_check.proofs.Unfit.{pass_unfit, stop_unfit, ended_unfit}
use Rattle.x5_check.proofs.repeated_prefix.repeated_prefix.Goals as goal

pub returns-then-is_some : goal.returns-then-is_some
returns-then-is_some c =
    stop_unfit same_key (pin_of) (λ m. true) (λ (m : Mastered). breach 1 (NamePrinted m.context.prefix) (AgentPrinted m.master)) breach_view c.held-held.result.now c.loop-place.place _ c.loop-place.invariant c.in_ok-told.told c.index-held-place.result c.loop-place-test.true c.index-held-place.is (subst (λ (ms : List Mastered). option_map breach_view c.in_ok-told.told ≡ first_of (unfit_at same_key pin_of (λ m. true) (λ m. breach 1 (NamePrinted m.context.prefix) (AgentPrinted m.master)) ms c.loop-place.place c.index-held-place.result)) (sym c.held-held.ensures) c.in_ok-told.ensures) (sym c.is_some.ensures ∙ c.if-is_some.true)

pub loop-place-preserved : goal.loop-place-preserved
loop-place-preserved c =
    pass_unfit same_key (pin_of) (λ m. true) (λ (m : Mastered). breach 1 (NamePrinted m.context.prefix) (AgentPrinted m.master)) breach_view c.held-held.result.now c.loop-place.place _ c.loop-place.invariant c.in_ok-told.told c.index-held-place.result c.loop-place-test.true c.index-held-place.is (subst (λ (ms : List Mastered). option_map breach_view c.in_ok-told.told ≡ first_of (unfit_at same_key pin_of (λ m. true) (λ m. breach 1 (NamePrinted m.context.prefix) (AgentPrinted m.master)) ms c.loop-place.place c.index-held-place.result)) (sym c.held-held.ensures) c.in_ok-told.ensures) (sym c.is_some.ensures ∙ c.if-is_some.false)

pub returns : goal.returns
returns c =
    ended_unfit same_key (pin_of) (λ m. true) (λ (m : Mastered). breach 1 (NamePrinted m.context.prefix) (AgentPrinted m.master)) breach_view c.held-held.result.now c.loop-place.place _ c.loop-place.invariant c.loop-place-test.false
