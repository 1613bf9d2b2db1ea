-- A stable sort gives the rows in order.
use Rattle.x5_holdings.proofs.Numbered.{sorted_rows}
use Rattle.x5_holdings.proofs.pins.Pins.of.Goals as goal

pub returns : goal.returns
returns c = sorted_rows _ _ c.in_ok-sort.ensures.sorted c.sort.ensures.stable
