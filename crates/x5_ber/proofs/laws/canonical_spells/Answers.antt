-- The canonical spelling of an element spells it: the law of the same name in the model, at depth 1.
use Rattle.x5_model_octets.proofs.CanonicalLaws as laws
use Rattle.x5_ber.proofs.laws.canonical_spells.Goals as goal

pub returns : goal.returns
returns c = laws.canonical_spells 1
