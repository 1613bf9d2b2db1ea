-- A code is one octet.
use Rattle.x5_dapber.proofs.Asked.{code_put}
use Rattle.x5_dapber.proofs.write_parts.put_code.Goals as goal

pub returns : goal.returns
returns c =
    code_put c.args.operation c.code.result c.args.out.now c.put_all.new.self c.code.ensures c.in_ok-put_all.ensures
