-- What is told first of the first NSSR of which something is told.
use Rattle.std.proofs.Common.{List, sym, ap, ◌∙◌}
use Rattle.std.specs.List.{flat_map}
use Rattle.x5_model.specs.Words.{first_of}
use Rattle.x5_model_tree.specs.World as model
use Rattle.x5_model_tree.specs.Consistent.{Inconsistency, false_members}
use Rattle.x5_ops.specs.KnowledgeViews.{nssr_view}
use Rattle.x5_ops.specs.declared.knowledge.Nssr.{Nssr}
use Rattle.x5_check.specs.Views.{breach_view}
use Rattle.x5_check.proofs.ByAgent.{flat_mapped}
use Rattle.x5_check.proofs.Steps.{stop}
use Rattle.x5_check.proofs.false_member.false_members_in.Goals as goal

pub loop-nssr-init : goal.loop-nssr-init
loop-nssr-init c =
    ap (λ (l : List Inconsistency). first_of l) (sym (flat_mapped (false_members c.args.known.now c.args.context.now) nssr_view c.nssrs-nssrs.result.now) ∙ ap (λ (ns : List model.Nssr). flat_map (false_members c.args.known.now c.args.context.now) ns) c.nssrs-nssrs.ensures)

pub returns-then-is_some : goal.returns-then-is_some
returns-then-is_some c =
    stop breach_view (λ (n : Nssr). false_members c.args.known.now c.args.context.now (nssr_view n)) c.nssrs-nssrs.result.now c.loop-nssr.nssr-index _ c.loop-nssr.invariant c.in_ok-told.told c.nssr-item.result c.loop-nssr-test.true c.nssr-item.is c.in_ok-told.ensures (sym c.is_some.ensures ∙ c.if-is_some.true)
