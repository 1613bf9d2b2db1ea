-- Consistent knowledge is coherent: its conditions give the facts by keys, of contexts, references, superiors and
-- agreements.
use Rattle.x5_model_theory.proofs.Cohering.{consistent_is_coherent}
use Rattle.x5_model_theory.proofs.coherence.Goals as goal

pub returns : goal.returns
returns c = consistent_is_coherent
