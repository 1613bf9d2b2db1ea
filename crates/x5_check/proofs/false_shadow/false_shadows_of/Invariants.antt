-- The first breach of condition 5 among the shadow agents from the place on, with the earlier ones counted as seen, is
-- the reference's first: the earlier ones are distinct consumers.
use Rattle.std.proofs.Common.{◌≡◌, ◌==◌, drop}
use Rattle.x5_model.specs.Words.{first_of, unfit}
use Rattle.x5_model.specs.Values.{key_of}
use Rattle.x5_model_tree.specs.Masters.{consumes}
use Rattle.x5_model_tree.specs.Consistent.{breach, NamePrinted, AgentPrinted, specific_of, false_shadows}
use Rattle.x5_check.specs.Parts.{seen}
use Rattle.x5_check.proofs.false_shadow.false_shadows_of.Given as goal

abbrev pub invariant-loop-place : goal.invariant-loop-place
invariant-loop-place l =
    first_of (unfit ◌==◌ (λ a. a) (λ a. consumes l.known a (key_of (specific_of l.reference).pin)) (λ a. breach 5 (NamePrinted (specific_of l.reference).pin) (AgentPrinted a)) (seen (λ a. a) l.shadows l.place) (drop l.place l.shadows)) ≡ first_of (false_shadows l.known (specific_of l.reference))
