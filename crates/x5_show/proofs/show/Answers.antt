-- Octets with a first fault aren't values, and the text that refuses them is the line of that fault.
use Rattle.x5_ber.specs.Views.{fault_view}
use Rattle.x5_show.proofs.show.Goals as goal

pub returns-in_ok-line-in-Some : goal.returns-in_ok-line-in-Some
returns-in_ok-line-in-Some c = record { fault = fault_view c.in-Some.fault; not_values = c.in-Some.ensures.0; first = c.in-Some.ensures.1; line = c.in_ok-line-in-Some.ensures }
