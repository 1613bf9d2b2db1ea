-- What is within the limits can be written: as a value of the type of messages it fits, and it's as it is spelled. And
-- what octets spell is within the limits: so whoever reads a message may pass it on.
use Rattle.std.specs.Prelude.{◌≡◌, ℕ, true, List}
use Rattle.std.specs.List.{list_all}
use Rattle.x5_model.specs.Requests.{Request}
use Rattle.x5_model_typed.specs.Named as named
use Rattle.x5_model_typed.specs.Nodes.{Node}
use Rattle.x5_model_typed.specs.Typed.{Spells}
use Rattle.x5_model_typed.specs.Layouts.{Surroundings, layout}
use Rattle.x5_model_typed_laws.specs.Fits.{Fits}
use Rattle.x5_model_typed_laws.specs.Said.{is_octet}
use Rattle.x5_model_messages.specs.Requests.{request_node, request_in}
use Rattle.x5_model_messages.specs.Chained.{Chained, chained_node, chained_in}
use Rattle.x5_model_messages.specs.Replies.{Reply, reply_node, reply_in, to_user, to_agent}
use Rattle.x5_model_messages.specs.Laws.{IsBody}
use Rattle.x5_model_messages.specs.ChainedLaws.{IsChained}
use Rattle.x5_model_fitting.specs.Requests.{CountWithin, RequestWithin}
use Rattle.x5_model_fitting.specs.Chained.{ChainedWithin}
use Rattle.x5_model_fitting.specs.Replies.{ReplyWithin}

-- A user's request.
abbrev pub RequestFits : Type 0
RequestFits = (w : Surroundings) (id : ℕ) (r : Request) → CountWithin id → RequestWithin r
    → Fits (layout w) (layout w named.DapRequest) (request_node id r)

abbrev pub RequestIsSpelled : Type 0
RequestIsSpelled = (r : Request) → RequestWithin r → IsBody r.body

-- A message between agents.
abbrev pub ChainedFits : Type 0
ChainedFits = (w : Surroundings) (id : ℕ) (m : Chained) → CountWithin id → ChainedWithin m
    → Fits (layout w) (layout w named.DspRequest) (chained_node id m)

abbrev pub ChainedIsSpelled : Type 0
ChainedIsSpelled = (m : Chained) → ChainedWithin m → IsChained m

-- A reply to a user, and one to an agent.
abbrev pub ReplyFits : Type 0
ReplyFits = (w : Surroundings) (id : ℕ) (r : Reply) → CountWithin id → ReplyWithin r
    → Fits (layout w) (layout w named.DapAnswer) (reply_node to_user id r)

abbrev pub ReplyToAgentFits : Type 0
ReplyToAgentFits = (w : Surroundings) (id : ℕ) (r : Reply) → CountWithin id → ReplyWithin r
    → Fits (layout w) (layout w named.DspAnswer) (reply_node to_agent id r)

-- ---- what octets spell

abbrev pub SpelledRequestIsWithin : Type 0
SpelledRequestIsWithin = (w : Surroundings) (octets : List ℕ) (n : Node) → list_all is_octet octets ≡ true
    → Spells (layout w) named.DapRequest octets n
    → CountWithin (request_in n).0 × RequestWithin (request_in n).1

abbrev pub SpelledChainedIsWithin : Type 0
SpelledChainedIsWithin = (w : Surroundings) (octets : List ℕ) (n : Node) → list_all is_octet octets ≡ true
    → Spells (layout w) named.DspRequest octets n
    → CountWithin (chained_in n).0 × ChainedWithin (chained_in n).1

abbrev pub SpelledReplyIsWithin : Type 0
SpelledReplyIsWithin = (w : Surroundings) (octets : List ℕ) (n : Node) → list_all is_octet octets ≡ true
    → Spells (layout w) named.DapAnswer octets n
    → CountWithin (reply_in n).0 × ReplyWithin (reply_in n).1

abbrev pub SpelledReplyToAgentIsWithin : Type 0
SpelledReplyToAgentIsWithin = (w : Surroundings) (octets : List ℕ) (n : Node) → list_all is_octet octets ≡ true
    → Spells (layout w) named.DspAnswer octets n
    → CountWithin (reply_in n).0 × ReplyWithin (reply_in n).1
