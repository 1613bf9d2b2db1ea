-- The tokens so far, and those of the parts that are left; the columns stay within the line.
use Rattle.std.proofs.Common.{◌≡◌, ◌+◌, ◌≤◌, ◌++◌, map, drop}
use Rattle.x5_syntax.specs.Escapes.{span}
use Rattle.x5_model_script.specs.Words.{placed}
use Rattle.x5_script.specs.Views.{token_view}
use Rattle.x5_script.proofs.words.placed.Given as goal

abbrev pub invariant-loop-octets : goal.invariant-loop-octets
invariant-loop-octets l = record {
  placed : map token_view l.tokens.items ++ placed l.column (map (λ x. x.now) (drop l.octets-index l.parts)) ≡ placed 1 (map (λ x. x.now) l.parts);
  early : l.column + span (map (λ x. x.now) (drop l.octets-index l.parts)) ≤ 4098;
}
