-- Octets are one element at most, with its places, and no spelling begins another, as Places shows; and octets spell
-- one value of a type at most, as Values shows.
use Rattle.x5_model_typed.proofs.Places.{placed_once, whole_spelling}
use Rattle.x5_model_typed.proofs.Values.{one_value}
use Rattle.x5_model_typed.proofs.spellings_are_apart.Goals as goal

pub returns-clause-one_tree : goal.returns-clause-one_tree
returns-clause-one_tree c = λ t u octets l l'. placed_once 1 0 t u octets l l'

pub returns-clause-no_beginning : goal.returns-clause-no_beginning
returns-clause-no_beginning c = λ layout first second octets more m n s s'. whole_spelling s.tree s'.tree octets more s.lies s'.lies

pub returns-clause-one_value : goal.returns-clause-one_value
returns-clause-one_value c = one_value
