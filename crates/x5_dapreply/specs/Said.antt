-- What is said of lists of parts of replies, and of limits.
use Rattle.std.specs.Prelude.{Bool, List, map}
use Rattle.x5_model.specs.Values.{Rdn}
use Rattle.x5_model.specs.Answers as model
use Rattle.x5_model_typed.specs.Nodes.{Node, parts}
use Rattle.x5_model_messages.specs.Terms.{rdn_of, number_in}
use Rattle.x5_model_messages.specs.Replies.{Access, Reference, Source, access_in, reference_in, source_in, info_in}
use Rattle.x5_model_messages.specs.Replies.{sub_in, is_limit}

abbrev pub accesses_in : Node → List Access
accesses_in n = map access_in (parts n)

abbrev pub rdns_in : Node → List Rdn
rdns_in n = map rdn_of (parts n)

abbrev pub references_in : Node → List Reference
references_in n = map reference_in (parts n)

abbrev pub sources_in : Node → List Source
sources_in n = map source_in (parts n)

abbrev pub infos_in : Node → List model.EntryInfo
infos_in n = map info_in (parts n)

abbrev pub subs_in : Node → List model.Sub
subs_in n = map sub_in (parts n)

abbrev pub limited_in : Node → Bool
limited_in n = is_limit (number_in n)
