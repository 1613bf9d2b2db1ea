-- What is left behind the selection is the controls.
use Rattle.x5_dapber.proofs.direct.selection_last.Goals as goal

pub returns : goal.returns
returns c = (c.in_ok-selection.last.now, c.in_ok-selection.ensures, c.in_ok-controls.ensures)
