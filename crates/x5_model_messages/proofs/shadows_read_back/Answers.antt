-- Messages of shadowing component by component.
use Rattle.x5_model_messages.proofs.Shadows.{shadow_back}
use Rattle.x5_model_messages.proofs.shadows_read_back.Goals as goal

pub returns : goal.returns
returns c = shadow_back
