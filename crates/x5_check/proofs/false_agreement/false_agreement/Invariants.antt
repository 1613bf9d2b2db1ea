-- The first breach of condition 10 among the agreements that are left is the world's first: each agreement so far
-- supplies its consumer.
use Rattle.std.proofs.Common.{◌≡◌, drop}
use Rattle.std.specs.List.{flat_map}
use Rattle.x5_model.specs.Words.{first_of}
use Rattle.x5_model_tree.specs.Consistent.{breaches_10}
use Rattle.x5_check.specs.Parts.{unsupplied_part}
use Rattle.x5_check.proofs.false_agreement.false_agreement.Given as goal

abbrev pub invariant-loop-agreement : goal.invariant-loop-agreement
invariant-loop-agreement l =
    first_of (flat_map (unsupplied_part l.known) (drop l.agreement-index l.agreements)) ≡ first_of (breaches_10 l.known)
