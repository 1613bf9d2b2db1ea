-- There is one where the range has a row.
use Rattle.std.proofs.Common.{not, sym, ap, ◌∙◌}
use Rattle.x5_model.specs.Values.{key_of}
use Rattle.x5_holdings.proofs.Standing.{some_under}
use Rattle.x5_holdings.proofs.pins.Pins.has_under.Goals as goal

pub returns : goal.returns
returns c keys are =
    ap not c.is_empty.ensures
    ∙ sym (some_under keys (key_of c.args.rdns.now) c.under.result.now (c.under.ensures.members keys are))
