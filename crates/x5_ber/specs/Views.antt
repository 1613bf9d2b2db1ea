-- The types of the code as the definitions see them.
use Rattle.x5_model_octets.specs.Headers as headers
use Rattle.x5_model_octets.specs.Faults as faults
use Rattle.x5_ber.specs.declared.header.Stop.{Stop}
use Rattle.x5_ber.specs.declared.header.Stop.TheVariants.{Short, Malformed}
use Rattle.x5_ber.specs.declared.header.Identifier.{Identifier}
use Rattle.x5_ber.specs.declared.header.Head.{Head}
use Rattle.x5_ber.specs.declared.header.Around.{Around}
use Rattle.x5_ber.specs.declared.element.BerFault.{BerFault}
use Rattle.x5_ber.specs.declared.element.BerFault.TheVariants.{Truncated, BadLength, BadTag, BadContent, TooDeep}

abbrev pub stop_of : Stop → headers.Stop
stop_of Short = headers.Short
stop_of Malformed = headers.Malformed

abbrev pub identifier_view : Identifier → headers.Identifier
identifier_view i = record { class = i.class; constructed = i.constructed; tag = i.tag }

abbrev pub head_view : Head → faults.Head
head_view h = record { identifier = identifier_view h.identifier; extent = h.extent; content = h.content }

abbrev pub around_view : Around → faults.Around
around_view a = record { depth = a.depth; limit = a.limit; closes = a.closes }

abbrev pub fault_view : BerFault → faults.Fault
fault_view (Truncated at) = faults.Truncated at
fault_view (BadLength at) = faults.BadLength at
fault_view (BadTag at) = faults.BadTag at
fault_view (BadContent at) = faults.BadContent at
fault_view (TooDeep at) = faults.TooDeep at
