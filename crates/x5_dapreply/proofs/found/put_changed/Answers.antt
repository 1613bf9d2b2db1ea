-- The element has no content.
use Rattle.std.proofs.Common.{[], refl}
use Rattle.x5_model_octets.specs.Elements as elements
use Rattle.x5_dapreply.proofs.found.put_changed.Goals as goal

pub returns : goal.returns
returns c = (elements.Primitive 0 5 [], refl, c.in_ok-put_all.ensures)
