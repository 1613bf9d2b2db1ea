-- Octets begin with the spelling of one element at most: the model's law that an element is spelled once in front of
-- any octets, at depth 1.
use Rattle.x5_model_octets.proofs.ElementLaws.{spelled_once}
use Rattle.x5_ber.proofs.laws.spellings_are_apart.Goals as goal

pub returns : goal.returns
returns c = λ e f s t x y p q whole. let same = spelled_once 1 e f s t x y p q whole in (same.elements, same.spellings)
