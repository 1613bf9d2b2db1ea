-- Each type that is read stands before those that are left.
use Rattle.std.proofs.Common.{drop, map, sym, ◌∙◌, subst}
use Rattle.x5_model.specs.Values.{Known}
use Rattle.x5_model_messages.specs.Terms.{type_in}
use Rattle.x5_model_typed.specs.Named as named
use Rattle.x5_syntax.specs.TypeView.{type_view}
use Rattle.x5_syntax.specs.declared.kinds.TypeRef.TheVariants as kinds
use Rattle.x5_direct.specs.Spelled.{ReadEach}
use Rattle.x5_direct.proofs.Heads.{nothing}
use Rattle.x5_direct.proofs.Spelling.{all_done, mapped_end, one_more}
use Rattle.x5_dapber.proofs.UsualSelections.{type_read}
use Rattle.x5_dapber.proofs.usual_selections.known_types_in.Goals as goal

pub loop-left-preserved : goal.loop-left-preserved
loop-left-preserved c =
    let left = c.loop-left.left.now in
    let kind = c.in_ok-kind.kind in
    one_more 0 named.AnyOid type_in c.args.octets.now left (map type_view c.loop-left.kinds.items) (Known kind) 5
    (map type_view c.push.new.self.items)
    (mapped_end type_view c.loop-left.kinds.items (kinds.Known kind) c.push.new.self.items
    c.in_ok-push.ensures.items) c.loop-left.invariant
    (type_read kind left (drop 5 left) c.in_ok-kind.ensures.known c.in_ok-kind.ensures.is)

pub returns : goal.returns
returns c =
    subst (λ l. ReadEach 0 named.AnyOid type_in (map type_view l) c.args.octets.now) (sym c.from_vec.ensures)
    (all_done 0 named.AnyOid type_in c.args.octets.now c.loop-left.left.now
    (map type_view c.loop-left.kinds.items) c.loop-left.invariant
    (nothing c.loop-left.left.now (sym c.is_empty.ensures ∙ c.loop-left-test.false)))
