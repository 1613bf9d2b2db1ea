-- In messages of users and between agents there are no times, so the clock reads all that it writes: the types are a table in which what is
-- written spells its value.
use Rattle.x5_model_typed_laws.specs.Fits.{ClockReadsBack, IsTable}
use Rattle.x5_model_typed_laws.proofs.Table.{messages_apart, messages_read_back}
use Rattle.x5_types.specs.FormView.{nowhere, table}

pub no_clock : ClockReadsBack nowhere
no_clock m octets h = absurd (cc h)

pub a_table : IsTable table
a_table = record { apart = messages_apart nowhere; back = messages_read_back nowhere no_clock }
