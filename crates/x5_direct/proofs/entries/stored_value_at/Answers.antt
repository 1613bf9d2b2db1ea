-- The value that is read is of the type's kind, and has that normal form.
use Rattle.std.proofs.Common.{drop}
use Rattle.x5_syntax.specs.ValueView.{value_view}
use Rattle.x5_direct.proofs.EntryParts.{stored_read}
use Rattle.x5_direct.proofs.entries.stored_value_at.Goals as goal

pub returns-clause-reads : goal.returns-clause-reads
returns-clause-reads c =
    stored_read c.args.kind (value_view c.in_ok-value.value) c.in_ok-normal.normal c.args.octets.now
    (drop c.in_ok-value.taken c.args.octets.now) c.in_ok-normal.ensures c.in_ok-value.ensures.reads
