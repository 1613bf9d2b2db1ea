-- Each entry that is read stands before those that are left.
use Rattle.std.proofs.Common.{sym, ◌∙◌}
use Rattle.x5_model_messages.specs.Shadows.{entry_in}
use Rattle.x5_model_typed.specs.Named as named
use Rattle.x5_direct.proofs.Heads.{nothing}
use Rattle.x5_direct.proofs.Spelling.{all_done, one_more}
use Rattle.x5_direct.proofs.seen.all_read.Goals as goal

pub loop-above_octets-preserved : goal.loop-above_octets-preserved
loop-above_octets-preserved c = (
  one_more 7 named.Entry entry_in c.args.octets.now c.loop-above_octets.rest.now c.loop-above_octets.entries.items c.in_ok-step.step.entry
      c.in_ok-step.step.taken c.push.new.self.items c.in_ok-push.ensures.items c.loop-above_octets.invariant.0 c.in_ok-step.ensures.reads,
  c.in_ok-step.ensures.above,
)

pub returns : goal.returns
returns c =
    all_done 7 named.Entry entry_in c.args.octets.now c.loop-above_octets.rest.now c.loop-above_octets.entries.items c.loop-above_octets.invariant.0
    (nothing c.loop-above_octets.rest.now (sym c.is_empty.ensures ∙ c.loop-above_octets-test.false))
