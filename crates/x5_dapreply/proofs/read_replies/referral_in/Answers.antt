-- Of whatever code, what has six components is a referral.
use Rattle.std.proofs.Common.{ap, sym, ◌∙◌}
use Rattle.x5_model_messages.specs.Replies.{Referred}
use Rattle.x5_types.specs.NodeView.{node_view}
use Rattle.x5_dapreply.proofs.ReferenceParts.{referral_said}
use Rattle.x5_dapreply.proofs.read_replies.referral_in.Goals as goal

pub returns : goal.returns
returns c = λ code.
    ap Referred c.in_ok-reference_in.ensures ∙ sym (referral_said code (node_view c.args.node.now) c.requires)
