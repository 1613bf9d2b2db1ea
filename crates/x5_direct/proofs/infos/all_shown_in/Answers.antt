-- Each that is read stands before those that are left.
use Rattle.std.proofs.Common.{map, sym, ◌∙◌, subst}
use Rattle.x5_model_messages.specs.Replies as replies
use Rattle.x5_model_typed.specs.Named as named
use Rattle.x5_ops.specs.AnswerViews.{shown_view}
use Rattle.x5_direct.specs.Spelled.{ReadEach}
use Rattle.x5_direct.proofs.Heads.{nothing}
use Rattle.x5_direct.proofs.Spelling.{all_done, mapped_end, one_more}
use Rattle.x5_direct.proofs.infos.all_shown_in.Goals as goal

pub loop-left-preserved : goal.loop-left-preserved
loop-left-preserved c =
    one_more 5 named.Attribute replies.shown_in c.args.octets.now c.loop-left.left.now
    (map shown_view c.loop-left.attributes.items) (shown_view c.in_ok-attribute.attribute) c.in_ok-attribute.taken
    (map shown_view c.push.new.self.items)
    (mapped_end shown_view c.loop-left.attributes.items c.in_ok-attribute.attribute c.push.new.self.items
    c.in_ok-push.ensures.items) c.loop-left.invariant c.in_ok-attribute.ensures.reads

pub returns : goal.returns
returns c =
    subst (λ l. ReadEach 5 named.Attribute replies.shown_in (map shown_view l) c.args.octets.now)
    (sym c.from_vec.ensures)
    (all_done 5 named.Attribute replies.shown_in c.args.octets.now c.loop-left.left.now
    (map shown_view c.loop-left.attributes.items) c.loop-left.invariant
    (nothing c.loop-left.left.now (sym c.is_empty.ensures ∙ c.loop-left-test.false)))
