-- Four octets are a cell, and fewer are cut off.
use Rattle.std.proofs.Common.{◌+◌, ◌*◌, drop, arith, length-drop}
use Rattle.x5_types.proofs.Cells.{cut_of, cell_of}
use Rattle.x5_types.proofs.text.cell_at.Goals as goal

pub returns-then-octets-at-lt4 : goal.returns-then-octets-at-lt4
returns-then-octets-at-lt4 c = cut_of (drop c.args.at c.args.octets.now)
    (omega (arith, length-drop c.args.at c.args.octets.now, c.if-octets-at-lt4.true))

pub returns : goal.returns
returns c =
    cell_of c.args.octets.now c.args.at ((c.from.result * 256 + c.from-2.result) * 65536
    + (c.from-3.result * 256 + c.from-4.result)) (omega (arith, c.if-octets-at-lt4.false, c.requires))
    (cc (c.from.ensures, c.from-2.ensures, c.from-3.ensures, c.from-4.ensures))
