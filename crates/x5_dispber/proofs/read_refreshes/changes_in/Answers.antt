-- The members are changes.
use Rattle.std.proofs.Common.{◌≡◌, map, ap, ◌∙◌}
use Rattle.x5_model_messages.specs.Shadows as shadows
use Rattle.x5_dapber.proofs.Members.{members_are}
use Rattle.x5_dispber.specs.Sayable.{IsStep}
use Rattle.x5_dispber.proofs.read_refreshes.changes_in.Goals as goal

pub steps_in-requires : goal.steps_in-requires
steps_in-requires c = members_are IsStep c.parts.result.now _ c.parts.ensures c.requires

pub returns : goal.returns
returns c = λ names. ap shadows.Steps (c.in_ok-steps_in.ensures ∙ ap (map shadows.step_in) c.parts.ensures)
