-- Nothing is told before the first member that stood there before or isn't fit.
use Rattle.std.proofs.Common.{◌==◌, ℕ, sym, ◌∙◌}
use Rattle.x5_model.specs.Values.{key_of}
use Rattle.x5_model_tree.specs.Masters.{consumes}
use Rattle.x5_model_tree.specs.Consistent.{breach, NamePrinted, AgentPrinted, specific_of}
use Rattle.x5_check.specs.Views.{breach_view}
use Rattle.x5_check.proofs.Unfit.{pass_unfit, stop_unfit, ended_unfit}
use Rattle.x5_check.proofs.false_shadow.false_shadows_of.Goals as goal

pub returns-then-is_some : goal.returns-then-is_some
returns-then-is_some c =
    stop_unfit ◌==◌ (λ (a : ℕ). a) (λ a. consumes c.args.known.now a (key_of (specific_of c.args.reference.now).pin)) (λ (a : ℕ). breach 5 (NamePrinted (specific_of c.args.reference.now).pin) (AgentPrinted a)) breach_view c.as_slice-shadows.result.now c.loop-place.place _ c.loop-place.invariant c.in_ok-told.told c.index-shadows-place.result c.loop-place-test.true c.index-shadows-place.is c.in_ok-told.ensures (sym c.is_some.ensures ∙ c.if-is_some.true)

pub loop-place-preserved : goal.loop-place-preserved
loop-place-preserved c =
    pass_unfit ◌==◌ (λ (a : ℕ). a) (λ a. consumes c.args.known.now a (key_of (specific_of c.args.reference.now).pin)) (λ (a : ℕ). breach 5 (NamePrinted (specific_of c.args.reference.now).pin) (AgentPrinted a)) breach_view c.as_slice-shadows.result.now c.loop-place.place _ c.loop-place.invariant c.in_ok-told.told c.index-shadows-place.result c.loop-place-test.true c.index-shadows-place.is c.in_ok-told.ensures (sym c.is_some.ensures ∙ c.if-is_some.false)

pub returns : goal.returns
returns c =
    ended_unfit ◌==◌ (λ (a : ℕ). a) (λ a. consumes c.args.known.now a (key_of (specific_of c.args.reference.now).pin)) (λ (a : ℕ). breach 5 (NamePrinted (specific_of c.args.reference.now).pin) (AgentPrinted a)) breach_view c.as_slice-shadows.result.now c.loop-place.place _ c.loop-place.invariant c.loop-place-test.false
