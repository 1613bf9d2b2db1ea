-- So far both names are the same: the rest decides.
use Rattle.std.proofs.Common.{◌≡◌, ◌≤◌, length, map, drop}
use Rattle.std.specs.Cmp.Lexicographic.{slice_cmp}
use Rattle.x5_model.specs.Keys.{rdn_cmp}
use Rattle.x5_model.specs.Values.{key_of_rdn}
use Rattle.x5_holdings.proofs.order.compare_names.Given as goal

abbrev pub invariant-loop-i : goal.invariant-loop-i
invariant-loop-i l = record {
  within : l.i ≤ length l.b;
  rest : slice_cmp rdn_cmp (map key_of_rdn (drop l.i l.a)) (map key_of_rdn (drop l.i l.b)) ≡ slice_cmp rdn_cmp
      (map key_of_rdn l.a) (map key_of_rdn l.b);
}
