-- What is written of a world's knowledge, and of a file that describes none.
use Rattle.std.proofs.Common.{inl, inr, ℕ, List, Option, Ok, Err, refl}
use Rattle.x5_know.specs.WorldView.{world_view}
use Rattle.x5_know.specs.declared.described.Described.{Described}
use Rattle.x5_load.specs.Views.{Loads, file_view}
use Rattle.x5_world_members.specs.declared.fault.LoadFault.{LoadFault}
use Rattle.xdir.specs.declared.top.Status.{Status}
use Rattle.xdir.specs.declared.top.Status.TheVariants.{Done, Refused, Usage, ReadFault, WriteFault, NoMemory, Inconsistent, TooLong}
use Rattle.xdir.specs.Checked.{knowledge_text, WritesKnowledge, ChecksOctets}
use Rattle.xdir.specs.Faults.{IsWorldLine}
use Rattle.xdir.specs.Steps.{WritesSuchLine}
use Rattle.xdir.proofs.Ends.{wrote_more, broke_more}
use Rattle.xdir.proofs.Files.{wrong}

pub knows : (octets : List ℕ) (d : Described) → Loads (Ok d) octets → (status : Status) (old new : Option (List ℕ)) (before after : ℕ)
    → WritesKnowledge status (world_view d) old new before after → ChecksOctets status octets old new before after
knows octets d h Done old new before after w = record {
  text = knowledge_text (world_view d);
  is = record { file = file_view d; described = h; holds = w.0; is_line = refl };
  whole = w.1;
}
knows octets d h Inconsistent old new before after w = record {
  text = knowledge_text (world_view d);
  is = record { file = file_view d; described = h; holds = w.0; is_line = refl };
  whole = w.1;
}
knows octets d h WriteFault old new before after w = (
  w.0,
  record {
    text = knowledge_text (world_view d);
    is = inl (record { file = file_view d; described = h; holds = tt; is_line = refl });
    part = w.1;
  },
)
knows octets d h NoMemory old new before after w = w
knows octets d h Refused old new before after w = absurd w
knows octets d h Usage old new before after w = w
knows octets d h ReadFault old new before after w = w
knows octets d h TooLong old new before after w = w

pub refuses : (octets : List ℕ) (fault : LoadFault) → Loads (Err fault) octets → (status : Status) (old new : Option (List ℕ)) (before after : ℕ)
    → WritesSuchLine status (IsWorldLine fault) old new before after → ChecksOctets status octets old new before after
refuses octets fault h Refused old new before after w = wrote_more (wrong octets fault h) old new w
refuses octets fault h WriteFault old new before after w = (w.0, broke_more (λ text is. inr (wrong octets fault h text is)) old new w.1)
refuses octets fault h NoMemory old new before after w = w
refuses octets fault h Done old new before after w = absurd w
refuses octets fault h Inconsistent old new before after w = absurd w
refuses octets fault h Usage old new before after w = w
refuses octets fault h ReadFault old new before after w = w
refuses octets fault h TooLong old new before after w = w
