-- Each value that is read stands before those that are left.
use Rattle.std.proofs.Common.{sym, ◌∙◌, map}
use Rattle.x5_model_typed.specs.Rules as rules
use Rattle.x5_model_typed.specs.Named as named
use Rattle.x5_syntax.specs.ValueView.{value_view}
use Rattle.x5_direct.proofs.Heads.{nothing}
use Rattle.x5_direct.proofs.Spelling.{all_done, mapped_end, one_more}
use Rattle.x5_direct.proofs.values.values_in.Goals as goal

pub loop-left-preserved : goal.loop-left-preserved
loop-left-preserved c =
    let left = c.loop-left.left.now in
    let taken = c.in_ok-value.taken in
    one_more 3 named.Value rules.value_in c.args.octets.now left (map value_view c.loop-left.values.items)
    (value_view c.in_ok-value.value) taken
    (map value_view c.push.new.self.items)
    (mapped_end value_view c.loop-left.values.items c.in_ok-value.value c.push.new.self.items
    c.in_ok-push.ensures.items) c.loop-left.invariant c.in_ok-value.ensures.reads

pub returns : goal.returns
returns c = all_done 3 named.Value rules.value_in c.args.octets.now c.loop-left.left.now
    (map value_view c.loop-left.values.items) c.loop-left.invariant
    (nothing c.loop-left.left.now (sym c.is_empty.ensures ∙ c.loop-left-test.false))
