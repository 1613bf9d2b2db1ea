-- Nothing is told before the first member that stood there before or isn't fit.
use Rattle.std.proofs.Common.{◌==◌, ◌&&◌, not, ℕ, sym, ◌∙◌}
use Rattle.x5_model.specs.Values.{key_of}
use Rattle.x5_model_tree.specs.Consistent.{breach, NamePrinted, AgentPrinted, masters_below, name_of_nssr}
use Rattle.x5_ops.specs.KnowledgeViews.{nssr_view}
use Rattle.x5_check.specs.Views.{breach_view}
use Rattle.x5_check.proofs.Unfit.{pass_unfit, stop_unfit, ended_unfit}
use Rattle.x5_check.proofs.false_member.false_members_of.Goals as goal

pub returns-then-is_some : goal.returns-then-is_some
returns-then-is_some c =
    stop_unfit ◌==◌ (λ (a : ℕ). a) (λ a. not (a == c.args.context.now.master) && masters_below c.args.known.now a (key_of c.args.nssr.now.at)) (λ (a : ℕ). breach 7 (NamePrinted (name_of_nssr c.args.context.now.context (nssr_view c.args.nssr.now))) (AgentPrinted a)) breach_view c.as_slice-agents.result.now c.loop-place.place _ c.loop-place.invariant c.in_ok-told.told c.index-agents-place.result c.loop-place-test.true c.index-agents-place.is c.in_ok-told.ensures (sym c.is_some.ensures ∙ c.if-is_some.true)

pub loop-place-preserved : goal.loop-place-preserved
loop-place-preserved c =
    pass_unfit ◌==◌ (λ (a : ℕ). a) (λ a. not (a == c.args.context.now.master) && masters_below c.args.known.now a (key_of c.args.nssr.now.at)) (λ (a : ℕ). breach 7 (NamePrinted (name_of_nssr c.args.context.now.context (nssr_view c.args.nssr.now))) (AgentPrinted a)) breach_view c.as_slice-agents.result.now c.loop-place.place _ c.loop-place.invariant c.in_ok-told.told c.index-agents-place.result c.loop-place-test.true c.index-agents-place.is c.in_ok-told.ensures (sym c.is_some.ensures ∙ c.if-is_some.false)

pub returns : goal.returns
returns c =
    ended_unfit ◌==◌ (λ (a : ℕ). a) (λ a. not (a == c.args.context.now.master) && masters_below c.args.known.now a (key_of c.args.nssr.now.at)) (λ (a : ℕ). breach 7 (NamePrinted (name_of_nssr c.args.context.now.context (nssr_view c.args.nssr.now))) (AgentPrinted a)) breach_view c.as_slice-agents.result.now c.loop-place.place _ c.loop-place.invariant c.loop-place-test.false
