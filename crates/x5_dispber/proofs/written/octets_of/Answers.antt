-- What is put before nothing is all that there is.
use Rattle.x5_dispber.proofs.Totals.{lost_alone, put_alone}
use Rattle.x5_dispber.proofs.written.octets_of.Goals as goal

pub returns-in_err-put_entry_list : goal.returns-in_err-put_entry_list
returns-in_err-put_entry_list c =
    lost_alone c.args.entries.now c.new-out.result c.put_entry_list.new.out c.in_err-put_entry_list.field-0.0
    c.from_residual.result c.from_residual.ensures.1 c.in_err-put_entry_list.ensures

pub returns : goal.returns
returns c =
    put_alone c.args.entries.now c.new-out.result c.put_entry_list.new.out c.new-out.ensures
    c.in_ok-put_entry_list.ensures
