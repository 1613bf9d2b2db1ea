-- The first breach of condition 1 among the contexts from the place on, with the earlier prefixes counted as seen, is
-- the world's first: the earlier prefixes are distinct.
use Rattle.std.proofs.Common.{◌≡◌, true, drop}
use Rattle.x5_model.specs.Words.{first_of, unfit}
use Rattle.x5_model.specs.Keys.{same_key}
use Rattle.x5_model_tree.specs.Masters.{pin_of}
use Rattle.x5_model_tree.specs.Consistent.{breach, NamePrinted, AgentPrinted, breaches_1}
use Rattle.x5_check.specs.Parts.{seen}
use Rattle.x5_check.proofs.repeated_prefix.repeated_prefix.Given as goal

abbrev pub invariant-loop-place : goal.invariant-loop-place
invariant-loop-place l =
    first_of (unfit same_key (pin_of) (λ m. true) (λ m. breach 1 (NamePrinted m.context.prefix) (AgentPrinted m.master)) (seen (pin_of) l.held l.place) (drop l.place l.held)) ≡ first_of (breaches_1 l.known)
