-- What is kept so far are the tried ones among those seen.
use Rattle.std.proofs.Common.{◌≡◌, take}
use Rattle.std.specs.List.{filter}
use Rattle.x5_serve.proofs.parts.tried.Given as goal

abbrev pub invariant-loop-reference : goal.invariant-loop-reference
invariant-loop-reference l = l.kept ≡ filter (λ r. r.tried) (take l.reference-index l.references)
