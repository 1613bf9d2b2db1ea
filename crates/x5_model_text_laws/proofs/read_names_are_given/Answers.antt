-- What reading a text gives as a name, or as an RDN alone, may be printed and read again, and with its normal forms the
-- name is a stored one: by the lemmas of GivenNames and Names.
use Rattle.x5_model_text_laws.proofs.GivenNames.{name_given}
use Rattle.x5_model_text_laws.proofs.Names.{rdn_given_alone, stored_given}
use Rattle.x5_model_text_laws.proofs.read_names_are_given.Goals as goal

pub returns-clause-names : goal.returns-clause-names
returns-clause-names c = name_given

pub returns-clause-rdns : goal.returns-clause-rdns
returns-clause-rdns c = rdn_given_alone

pub returns-clause-stored : goal.returns-clause-stored
returns-clause-stored c = stored_given
