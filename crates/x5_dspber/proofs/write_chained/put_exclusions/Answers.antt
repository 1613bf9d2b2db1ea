-- The RDNs stand in their element, which stands in its tag, or there are none.
use Rattle.std.proofs.Common.{map, refl}
use Rattle.std.specs.declared.result.Result.TheVariants.{Ok}
use Rattle.x5_model_messages.specs.Terms.{node_of, rdn_node}
use Rattle.x5_model_typed.specs.Named as named
use Rattle.x5_types.specs.FormView.{nowhere}
use Rattle.x5_dspber.proofs.ChainedWritten.{members_lost, members_put, none_excluded, some_excluded}
use Rattle.x5_dspber.proofs.write_chained.put_exclusions.Goals as goal

pub returns-then-is_empty : goal.returns-then-is_empty
returns-then-is_empty c = none_excluded c.args.rdns.now c.args.out.now c.if-is_empty.ensures

pub returns-in_err-put_each_rdn : goal.returns-in_err-put_each_rdn
returns-in_err-put_each_rdn c =
    let rdns = c.args.rdns.now in
    some_excluded rdns c.args.out.now c.put_each_rdn.new.out c.from_residual.result c.if-is_empty.ensures
    (members_lost 4 named.Rdns named.Rdn (map rdn_node rdns) (node_of (map rdn_node rdns)) c.in_err-put_each_rdn.field-0.0
    c.args.out.now c.put_each_rdn.new.out c.args.out.now c.put_each_rdn.new.out c.from_residual.result refl
    c.from_residual.ensures.1 (c.in_err-put_each_rdn.ensures nowhere))

pub returns : goal.returns
returns c =
    let rdns = c.args.rdns.now in
    some_excluded rdns c.args.out.now c.enclose-2.new.out (Ok tt) c.if-is_empty.ensures
    (members_put 4 c.len-behind.result named.Rdns named.Rdn (map rdn_node rdns) (node_of (map rdn_node rdns))
    c.args.out.now c.put_each_rdn.new.out c.enclose.new.out c.enclose-2.new.out refl c.len-behind.ensures
    c.in_ok-enclose.ensures c.in_ok-enclose-2.ensures (c.in_ok-put_each_rdn.ensures nowhere))
