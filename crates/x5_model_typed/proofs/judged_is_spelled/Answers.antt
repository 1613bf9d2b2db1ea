-- What reading by type judges an element to be, it is, by induction on the element (Soundness); so octets where it
-- lies spell that value.
use Rattle.x5_model_typed.proofs.Soundness.{judged_is}
use Rattle.x5_model_typed.proofs.judged_is_spelled.Goals as goal

pub returns-clause-judged_is : goal.returns-clause-judged_is
returns-clause-judged_is c = λ layout types t n e. judged_is layout t types n e

pub returns-clause-spelled : goal.returns-clause-spelled
returns-clause-spelled c = λ layout form octets t n l e. record { tree = t; lies = l; is_of = judged_is layout t (layout form) n e }
