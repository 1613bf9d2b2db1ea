-- The contexts that a list or search looks into are partitioned: each is evaluated on the spot or is in the scope of a
-- reference, and none is in two of them.
use Rattle.x5_model_theory.proofs.Scoping.{all_are_taken, no_more_are_taken, spots_are_apart, wide_spots_are_apart}
use Rattle.x5_model_theory.proofs.Scoping.{specific_are_apart, mixed_are_apart, nonspecific_are_apart}
use Rattle.x5_model_theory.proofs.scopes.Goals as goal

pub returns-clause-all : goal.returns-clause-all
returns-clause-all c = all_are_taken

pub returns-clause-no_more : goal.returns-clause-no_more
returns-clause-no_more c = no_more_are_taken

pub returns-clause-spots : goal.returns-clause-spots
returns-clause-spots c = spots_are_apart

pub returns-clause-wide_spots : goal.returns-clause-wide_spots
returns-clause-wide_spots c = wide_spots_are_apart

pub returns-clause-specific : goal.returns-clause-specific
returns-clause-specific c = specific_are_apart

pub returns-clause-mixed : goal.returns-clause-mixed
returns-clause-mixed c = mixed_are_apart

pub returns-clause-nonspecific : goal.returns-clause-nonspecific
returns-clause-nonspecific c = nonspecific_are_apart
