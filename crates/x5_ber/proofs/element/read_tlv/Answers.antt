-- Where an element is spelled it is found, and where there is a first fault it is answered: by the contract of
-- `read_element`, since a spelling and a first fault exclude each other and each is the only one.
use Rattle.x5_ber.proofs.Values.{only_found, exact_fault}
use Rattle.x5_ber.proofs.element.read_tlv.Goals as goal

pub returns-clause-only : goal.returns-clause-only
returns-clause-only c = only_found c.args.bytes.now c.args.at c.read_element.result c.read_element.ensures.found c.read_element.ensures.fault

pub returns-clause-exact : goal.returns-clause-exact
returns-clause-exact c = exact_fault c.args.bytes.now c.args.at c.read_element.result c.read_element.ensures.found c.read_element.ensures.fault
