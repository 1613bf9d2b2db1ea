-- The id, the code and what the error says stand in the element.
use Rattle.std.proofs.Common.{[], ◌∷◌, List, ℕ, subst, sym}
use Rattle.x5_model_messages.specs.Terms.{name_node, node_of}
use Rattle.x5_model_typed.specs.Named as named
use Rattle.x5_model_typed.specs.Nodes.{Chosen, whole}
use Rattle.x5_types.specs.FormView.{nowhere}
use Rattle.x5_direct_writer.proofs.Putting.{one_put}
use Rattle.x5_direct_writer.proofs.Rows.{IsPut, front_lost, front_put, one_alone, others_lost, pair}
use Rattle.x5_direct_writer.proofs.Wholes.{last_put, later_fault, first_fault}
use Rattle.std.specs.declared.option.Option.TheVariants.{Some}
use Rattle.x5_model_octets.specs.Elements as elements
use Rattle.x5_dapreply.specs.Found.{answer_form, count}
use Rattle.x5_dapreply.proofs.Founding.{digit, digit_put, missing_is, of}
use Rattle.x5_dapreply.proofs.whole.put_missing.Goals as goal

pub returns-in_err-put_matched : goal.returns-in_err-put_matched
returns-in_err-put_matched c p =
    let x = whole c.args.id in
    let e = node_of (whole 1 ∷ name_node c.args.matched.now ∷ []) in
    let error = of named.NameError e in
    let old = c.args.out.now in
    let new = c.put_matched.new.out in
    let fault = c.in_err-put_matched.field-0.0 in
    others_lost 2 3 (of (answer_form p) (Chosen 3 (node_of (x ∷ whole 2 ∷ e ∷ [])))) (of count x) (pair (digit 2) error)
    fault old new old new c.from_residual.result (missing_is p x e) c.from_residual.ensures.1
    (later_fault (digit 2) (one_alone error) fault old new old new
    (first_fault error (Some elements.Nil) fault old new old new c.in_err-put_matched.ensures))

pub returns-in_err-put_count : goal.returns-in_err-put_count
returns-in_err-put_count c p =
    let x = whole c.args.id in
    let e = node_of (whole 1 ∷ name_node c.args.matched.now ∷ []) in
    let new = c.put_count.new.out in
    front_lost 2 3 (of (answer_form p) (Chosen 3 (node_of (x ∷ whole 2 ∷ e ∷ [])))) (of count x)
    (pair (digit 2) (of named.NameError e)) c.in_err-put_count.field-0.0 c.put_all.new.self new c.args.out.now new
    c.from_residual-in_err-put_count.result (missing_is p x e) c.from_residual-in_err-put_count.ensures.1
    (c.in_err-put_count.ensures nowhere)

pub returns : goal.returns
returns c p =
    let x = whole c.args.id in
    let e = node_of (whole 1 ∷ name_node c.args.matched.now ∷ []) in
    let error = of named.NameError e in
    let old = c.args.out.now in
    let early = c.put_matched.new.out in
    let late = c.put_all.new.self in
    front_put 2 3 c.len-behind.result (of (answer_form p) (Chosen 3 (node_of (x ∷ whole 2 ∷ e ∷ [])))) (of count x)
    (pair (digit 2) error) old late c.put_count.new.out c.enclose.new.out (missing_is p x e) c.len-behind.ensures
    c.in_ok-enclose.ensures
    (one_put (digit 2) (one_alone error) old early late (last_put error old early c.in_ok-put_matched.ensures)
    (subst (λ (l : List ℕ). IsPut (digit 2) early l) (sym c.in_ok-put_all.ensures) (digit_put 2 early)))
    (c.in_ok-put_count.ensures nowhere)
