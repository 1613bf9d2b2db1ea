-- So far each RDN led to a node.
use Rattle.std.proofs.Common.{◌≡◌, true, take}
use Rattle.x5_model.specs.Values.{key_of}
use Rattle.x5_dse.specs.Inside.{is_used, path_of}
use Rattle.x5_dse.proofs.place.descend.Given as goal

abbrev pub invariant-loop-count : goal.invariant-loop-count
invariant-loop-count l = record {
  used : is_used l.slots l.node ≡ true;
  on_way : key_of (path_of l.slots l.node) ≡ take l.count (key_of l.rdns);
}
