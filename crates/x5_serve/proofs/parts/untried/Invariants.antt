-- What is kept so far are the untried ones among those seen.
use Rattle.std.proofs.Common.{◌≡◌, not, take}
use Rattle.std.specs.List.{filter}
use Rattle.x5_serve.proofs.parts.untried.Given as goal

abbrev pub invariant-loop-reference : goal.invariant-loop-reference
invariant-loop-reference l = l.kept ≡ filter (λ r. not r.tried) (take l.reference-index l.references)
