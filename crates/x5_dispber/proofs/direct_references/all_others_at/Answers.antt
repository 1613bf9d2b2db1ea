-- Each reference that is read stands before those that are left.
use Rattle.std.proofs.Common.{◌∷◌, [], List, map, ap, sym, subst, ◌∙◌}
use Rattle.std.proofs.lemmas.List.{map-append}
use Rattle.x5_model_messages.specs.Shadows.{non_specific_in}
use Rattle.x5_model_typed.specs.Named as named
use Rattle.x5_ops.specs.declared.knowledge.Nssr.{Nssr}
use Rattle.x5_types.specs.FormView.{world}
use Rattle.x5_direct.specs.Here.{ReadEachHere}
use Rattle.x5_direct.proofs.Heads.{nothing}
use Rattle.x5_direct.proofs.Here.{all_done_here, one_more_here}
use Rattle.x5_dispber.specs.ShadowViews.{told_other}
use Rattle.x5_dispber.proofs.direct_references.all_others_at.Goals as goal

pub loop-left-preserved : goal.loop-left-preserved
loop-left-preserved c =
    let names = c.args.names.now in
    let w = world c.args.start.now names in
    let before = c.loop-left.others.items in
    let now = c.push.new.self.items in
    let one = c.in_ok-other.other in
    one_more_here w 4 named.NonSpecific non_specific_in c.args.octets.now c.loop-left.left.now
    (map (told_other names) before)
    (told_other names one) c.in_ok-other.taken (map (told_other names) now)
    (ap (map (told_other names)) c.in_ok-push.ensures.items ∙ map-append (told_other names) before (one ∷ []))
    c.loop-left.invariant c.in_ok-other.ensures.reads

pub returns : goal.returns
returns c =
    let names = c.args.names.now in
    let w = world c.args.start.now names in
    subst (λ (l : List Nssr). ReadEachHere w 4 named.NonSpecific non_specific_in (map (told_other names) l)
    c.args.octets.now)
    (sym c.from_vec.ensures)
    (all_done_here w 4 named.NonSpecific non_specific_in c.args.octets.now c.loop-left.left.now
    (map (told_other names) c.loop-left.others.items) c.loop-left.invariant
    (nothing c.loop-left.left.now (sym c.is_empty.ensures ∙ c.loop-left-test.false)))
