-- A new feeder has its invariant: it has no octets, and its reader stands at place 0 with nothing open.
use Rattle.x5_ber.proofs.Pieces.{fresh_reading}
use Rattle.x5_ber.proofs.feeder.Feeder.new.Goals as goal

pub invariant_of-result : goal.invariant_of-result
invariant_of-result c = fresh_reading c.new.result.items _ c.new.ensures.items c.new-2.ensures.none c.new-2.ensures.begins
