-- The octets are those of the copies, since these are equal to the entries.
use Rattle.std.proofs.Common.{List, sym, subst}
use Rattle.x5_model.specs.Entries as model
use Rattle.x5_dispber.specs.Totals.{AreOctetsOf}
use Rattle.x5_dispber.proofs.written.Written.new.Goals as goal

pub invariant_of-result : goal.invariant_of-result
invariant_of-result c =
    subst (λ (es : List model.Named). AreOctetsOf es c.args.octets) (sym c.in_ok-entries.ensures) c.requires
