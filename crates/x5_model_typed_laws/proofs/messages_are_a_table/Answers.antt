-- The answer is made of the two lemmas on the table.
use Rattle.x5_model_typed_laws.proofs.Table.{messages_apart, messages_read_back}
use Rattle.x5_model_typed_laws.proofs.messages_are_a_table.Goals as goal

pub returns : goal.returns
returns c = λ w clock. record { apart = messages_apart w; back = messages_read_back w clock }
