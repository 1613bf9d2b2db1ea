-- What is kept so far, with what is kept of the rest, is what is kept of all.
use Rattle.std.proofs.Common.{◌≡◌, [], drop}
use Rattle.x5_eval.specs.Rest.{others_last}
use Rattle.x5_eval.proofs.exclusions.each_once.Given as goal

abbrev pub invariant-loop-rdn : goal.invariant-loop-rdn
invariant-loop-rdn l = others_last l.kept.items (drop l.rdn-index l.rdns) ≡ others_last [] l.rdns
