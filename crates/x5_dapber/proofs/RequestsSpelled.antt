-- What is written of a request that is a value of its type spells it.
use Rattle.std.proofs.Common.{◌≡◌, ℕ, ◌<◌, ◌^◌, List, length}
use Rattle.std.specs.declared.option.Option.TheVariants.{Some}
use Rattle.x5_model.specs.Requests.{Request}
use Rattle.x5_model_messages.specs.Requests.{request_node}
use Rattle.x5_model_typed.specs.Named as named
use Rattle.x5_model_typed.specs.Typed.{Spells}
use Rattle.x5_model_typed.specs.Written.{canonical_octets}
use Rattle.x5_model_typed_laws.specs.Fits.{Fits}
use Rattle.x5_model_typed_laws.proofs.Back.{written_is_spelled}
use Rattle.x5_types.specs.FormView.{nowhere, table}
use Rattle.x5_dapber.proofs.Clock.{a_table}
use Rattle.x5_dapber.proofs.FilterLevels.{request_shallow}
use Rattle.x5_dapber.proofs.RequestRooms.{request_room}
use Rattle.x5_dapber.proofs.Rooms.{has_spelling}
use Rattle.x5_dapber.proofs.Tags.{good_tags}

pub request_spelled : (id : ℕ) (r : Request) (octets : List ℕ) → Fits table (table named.DapRequest) (request_node id r)
    → canonical_octets table named.DapRequest (request_node id r) ≡ Some octets → length octets < 2 ^ 64
    → Spells table named.DapRequest octets (request_node id r)
request_spelled id r octets fit written short =
    written_is_spelled table named.DapRequest (request_node id r) octets a_table fit
    (has_spelling table (good_tags nowhere) named.DapRequest (request_node id r) octets
    (request_room id r (request_shallow id r fit)) written short)
    written
