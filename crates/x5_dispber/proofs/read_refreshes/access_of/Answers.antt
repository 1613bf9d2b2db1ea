-- The first says the master, and the others say the agents with copies.
use Rattle.std.proofs.Common.{List, ap₂, refl}
use Rattle.x5_know.specs.Names.{has_name}
use Rattle.x5_model.specs.Values.{Name, Text}
use Rattle.x5_model_messages.specs.Shadows as shadows
use Rattle.x5_model_messages.specs.Terms.{name_of}
use Rattle.x5_dapber.proofs.Members.{members_are}
use Rattle.x5_dispber.specs.Sayable.{IsAgent}
use Rattle.x5_dispber.proofs.read_refreshes.access_of.Goals as goal

abbrev known_so : Name → Text → List Text → shadows.Known
known_so n m s = record { pin = n; master = m; shadows = s }

pub agents_in-requires : goal.agents_in-requires
agents_in-requires c = members_are (IsAgent (has_name c.args.names.now)) c.args.others.now _ refl c.requires.1

pub returns : goal.returns
returns c = λ name. ap₂ (known_so (name_of name)) c.agent_in-first.ensures c.in_ok-copies.ensures
