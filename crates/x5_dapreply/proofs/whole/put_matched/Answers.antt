-- The problem and the name stand in the element.
use Rattle.std.proofs.Common.{[], ◌∷◌, List, ℕ, subst, sym}
use Rattle.x5_model_messages.specs.Terms.{name_node, node_of}
use Rattle.x5_model_typed.specs.Named as named
use Rattle.x5_model_typed.specs.Nodes.{whole}
use Rattle.x5_types.specs.FormView.{nowhere}
use Rattle.x5_direct_writer.proofs.Rows.{IsPut, last_lost, pair_put}
use Rattle.x5_dapreply.proofs.Founding.{digit, digit_put, matched_is, of}
use Rattle.x5_dapreply.proofs.whole.put_matched.Goals as goal

pub returns-in_err-put_name : goal.returns-in_err-put_name
returns-in_err-put_name c =
    let n = name_node c.args.matched.now in
    let old = c.args.out.now in
    let new = c.put_name.new.out in
    last_lost 0 16 (of named.NameError (node_of (whole 1 ∷ n ∷ []))) (digit 1) (of named.Name n)
    c.in_err-put_name.field-0.0 old new old new c.from_residual.result (matched_is n) c.from_residual.ensures.1
    (c.in_err-put_name.ensures nowhere)

pub returns : goal.returns
returns c =
    let n = name_node c.args.matched.now in
    let early = c.put_name.new.out in
    pair_put 0 16 c.len-behind.result (of named.NameError (node_of (whole 1 ∷ n ∷ []))) (digit 1) (of named.Name n)
    c.args.out.now early c.put_all.new.self c.enclose.new.out (matched_is n) c.len-behind.ensures
    c.in_ok-enclose.ensures (c.in_ok-put_name.ensures nowhere)
    (subst (λ (l : List ℕ). IsPut (digit 1) early l) (sym c.in_ok-put_all.ensures) (digit_put 1 early))
