-- No agreement is added at first; each step adds the next one, behind a comma unless it is the first.
use Rattle.std.proofs.Common.{string_bytes}
use Rattle.x5_gen.proofs.Making.{no_agreements, nothing_added, agreement_added}
use Rattle.x5_gen.proofs.world.add_agreements.Goals as goal

pub loop-before-init : goal.loop-before-init
loop-before-init c = nothing_added (string_bytes c.args.text.now) _ no_agreements

pub loop-before-preserved : goal.loop-before-preserved
loop-before-preserved c = agreement_added (string_bytes c.args.text.now) (string_bytes c.loop-before.text) (string_bytes c.add_comma.new.text) (string_bytes c.add_agreement.new.text) c.loop-before.before c.loop-before.invariant c.in_ok-add_comma.ensures c.in_ok-add_agreement.ensures
