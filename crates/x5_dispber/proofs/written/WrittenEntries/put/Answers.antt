-- What is put again are octets of the same entries; others are written first.
use Rattle.std.proofs.Common.{ℕ, List, map, subst}
use Rattle.std.specs.declared.result.Result.{Result}
use Rattle.std.specs.declared.result.Result.TheVariants.{Ok, Err}
use Rattle.x5_model.specs.Entries as model
use Rattle.x5_model_messages.specs.Shadows as shadows
use Rattle.x5_model_messages.specs.Terms.{node_of}
use Rattle.x5_model_typed.specs.Named as named
use Rattle.x5_direct_writer.specs.PutsOf.{PutsOf}
use Rattle.x5_direct_writer.proofs.Putting.{by_error}
use Rattle.x5_writer.specs.declared.fault.WriteFault.{WriteFault}
use Rattle.x5_dispber.proofs.Totals.{none_put}
use Rattle.x5_dispber.proofs.written.WrittenEntries.put.Goals as goal

-- the entries are put as a list
abbrev ArePut : List ℕ → List ℕ → Result (Unit {0}) WriteFault → List model.Named → Type 0
ArePut old new r es = PutsOf named.Entries (node_of (map shadows.entry_node es)) old new r

pub returns-in-Some-clause-puts : goal.returns-in-Some-clause-puts
returns-in-Some-clause-puts c =
    subst (ArePut c.args.out.now c.put.new.out c.put.result) c.in-Some.ensures.0 c.put.ensures

pub returns-in_err-octets-clause-puts : goal.returns-in_err-octets-clause-puts
returns-in_err-octets-clause-puts c =
    none_put c.args.entries.now c.args.out.now c.args.out.now c.in_err-octets.field-0.0 c.from_residual.result
    c.from_residual.ensures.1 c.in_err-octets.ensures

pub returns-in_err-put-clause-puts : goal.returns-in_err-put-clause-puts
returns-in_err-put-clause-puts c =
    let fault = c.in_err-put.field-0.0 in
    by_error named.Entries (node_of (map shadows.entry_node c.args.entries.now)) c.args.out.now c.put-2.new.out fault
    c.from_residual-in_err-put.result c.from_residual-in_err-put.ensures.1
    (subst (ArePut c.args.out.now c.put-2.new.out (Err fault)) c.in_ok-written.ensures c.in_err-put.ensures)

pub returns-clause-puts : goal.returns-clause-puts
returns-clause-puts c =
    subst (ArePut c.args.out.now c.put-2.new.out (Ok tt)) c.in_ok-written.ensures c.in_ok-put.ensures
