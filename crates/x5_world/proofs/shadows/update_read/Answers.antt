-- What the consumer reads is what was sent, by the agreement of the way.
use Rattle.std.proofs.Common.{◌≡◌, ℕ, ◌==◌, List, sym, ap, subst, ◌∙◌, Some}
use Rattle.std.specs.List.{find}
use Rattle.std.proofs.lemmas.Result.{IfOk-weaker}
use Rattle.x5_model_shadowed.specs.Agents.{AreAgents}
use Rattle.x5_types.specs.FormView.{world}
use Rattle.x5_model_tree.specs.World.{Agreement}
use Rattle.x5_refresh.specs.declared.brought.Brought.{Brought}
use Rattle.x5_shadow_wire.specs.Carried.{IsSame}
use Rattle.x5_world.specs.Shadows.{IsSendable}
use Rattle.x5_world.specs.declared.refreshing.Supplied.TheVariants.{Sent}
use Rattle.x5_world.specs.declared.refreshing.Way.{Way}
use Rattle.x5_world.proofs.Arriving.{agreed_there, are_agents}
use Rattle.x5_world.proofs.Courses.{some_is}
use Rattle.x5_world.proofs.shadows.update_read.Goals as goal

pub carried_by-requires-clause-within : goal.carried_by-requires-clause-within
carried_by-requires-clause-within c =
    subst (λ (ns : List (List ℕ)). IsSendable c.args.start.now ns (Sent c.in-Sent.stamp c.in-Sent.brought)) (sym c.names.ensures)
    (subst (IsSendable c.args.start.now c.args.world.now.names) c.in-Sent.is c.requires.sendable)

pub carried_by-requires-clause-agents : goal.carried_by-requires-clause-agents
carried_by-requires-clause-agents c =
    subst (λ (ns : List (List ℕ)). AreAgents (world c.args.start.now ns) ns) (sym c.names.ensures)
    (are_agents c.args.world.now c.args.start.now c.requires.sound)

pub agreed_in-requires : goal.agreed_in-requires
agreed_in-requires c =
    let by : Way = c.args.by.now in (
      by.agreement,
      subst (λ (k : ℕ). find (λ (a : Agreement). a.number == k) c.args.world.now.agreements ≡ Some by.agreement)
          (sym (c.in_ok-read.ensures.0 ∙ c.number.ensures))
          (agreed_there c.args.world.now by c.requires.sound c.requires.way),
    )

pub returns : goal.returns
returns c =
    let by : Way = c.args.by.now in
    let number : c.in_ok-read.read.agreement ≡ by.agreement.number =
    c.in_ok-read.ensures.0 ∙ c.number.ensures in
    IfOk-weaker c.agreed_in.result _ _
    (λ a is. record {
      stamp = c.in-Sent.stamp;
      brought = c.in-Sent.brought;
      sent_is = c.in-Sent.is;
      agreement = some_is (sym is.0
          ∙ ap (λ (k : ℕ). find (λ (g : Agreement). g.number == k) c.args.world.now.agreements) number
          ∙ agreed_there c.args.world.now by c.requires.sound c.requires.way);
      stamped = is.1 ∙ c.in_ok-read.ensures.1;
      same = subst (λ (b : Brought). IsSame b c.in-Sent.brought) (sym is.2) c.in_ok-read.ensures.2;
    })
    c.agreed_in.ensures
