-- A cleared feeder keeps its invariant: it has no octets, and its new reader stands at place 0 with nothing open.
use Rattle.x5_ber.proofs.Pieces.{fresh_reading}
use Rattle.x5_ber.proofs.feeder.Feeder.clear.Goals as goal

pub invariant_of-self : goal.invariant_of-self
invariant_of-self c = fresh_reading c.clear.new.self.items _ c.clear.ensures.items c.new-self-inside.ensures.none c.new-self-inside.ensures.begins
