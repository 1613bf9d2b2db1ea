-- Each reference that is read stands before those that are left.
use Rattle.std.proofs.Common.{◌∷◌, [], List, map, ap, sym, subst, ◌∙◌}
use Rattle.std.proofs.lemmas.List.{map-append}
use Rattle.x5_model_messages.specs.Shadows.{known_in}
use Rattle.x5_model_typed.specs.Named as named
use Rattle.x5_ops.specs.declared.knowledge.Specific.{Specific}
use Rattle.x5_types.specs.FormView.{world}
use Rattle.x5_direct.specs.Here.{ReadEachHere}
use Rattle.x5_direct.proofs.Heads.{nothing}
use Rattle.x5_direct.proofs.Here.{all_done_here, one_more_here}
use Rattle.x5_dispber.specs.ShadowViews.{told_known}
use Rattle.x5_dispber.proofs.direct_references.all_known_at.Goals as goal

pub loop-left-preserved : goal.loop-left-preserved
loop-left-preserved c =
    let names = c.args.names.now in
    let w = world c.args.start.now names in
    let before = c.loop-left.known.items in
    let now = c.push.new.self.items in
    let one = c.in_ok-one.one in
    one_more_here w 4 named.Known known_in c.args.octets.now c.loop-left.left.now (map (told_known names) before)
    (told_known names one) c.in_ok-one.taken (map (told_known names) now)
    (ap (map (told_known names)) c.in_ok-push.ensures.items ∙ map-append (told_known names) before (one ∷ []))
    c.loop-left.invariant c.in_ok-one.ensures.reads

pub returns : goal.returns
returns c =
    let names = c.args.names.now in
    let w = world c.args.start.now names in
    subst (λ (l : List Specific). ReadEachHere w 4 named.Known known_in (map (told_known names) l) c.args.octets.now)
    (sym c.from_vec.ensures)
    (all_done_here w 4 named.Known known_in c.args.octets.now c.loop-left.left.now
    (map (told_known names) c.loop-left.known.items) c.loop-left.invariant
    (nothing c.loop-left.left.now (sym c.is_empty.ensures ∙ c.loop-left-test.false)))
