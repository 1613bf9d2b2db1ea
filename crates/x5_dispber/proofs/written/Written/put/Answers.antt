-- The octets are those of the entries.
use Rattle.std.proofs.Common.{List, subst}
use Rattle.x5_model.specs.Entries as model
use Rattle.x5_dispber.specs.Totals.{AreOctetsOf}
use Rattle.x5_dispber.proofs.Totals.{theirs_put}
use Rattle.x5_dispber.proofs.written.Written.put.Goals as goal

pub returns : goal.returns
returns c =
    theirs_put c.args.self.now c.self.inside.octets c.args.out.now c.put_written.new.self
    (subst (λ (es : List model.Named). AreOctetsOf es c.self.inside.octets) c.self.view_is c.self.invariant)
    c.in_ok-put_written.ensures
