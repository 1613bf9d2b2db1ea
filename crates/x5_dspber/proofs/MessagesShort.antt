-- The names of the request of a message that octets spell are no longer than names may be.
use Rattle.std.proofs.Common.{◌≡◌, ℕ, refl, sym, subst}
use Rattle.x5_model.specs.Requests.{Request}
use Rattle.x5_model_messages.specs.Chained.{chaining_in, carried_in, chained_in}
use Rattle.x5_model_messages.specs.Replies.{or_zero}
use Rattle.x5_model_messages.specs.Requests.{argument_in}
use Rattle.x5_model_messages.specs.Terms.{number_in}
use Rattle.x5_model_typed.specs.Nodes as nodes
use Rattle.x5_model_typed.specs.Nodes.{Node, Vacant, Flag, Number, Oid, Bits, Octets, Chosen, Many, Nil, More, parts}
use Rattle.x5_dapber.specs.ShortNames.{HasShortNames}
use Rattle.x5_dapber.proofs.NamesShort.{argument_short}
use Rattle.x5_dspber.specs.Sayable.{IsCarried, IsChained}

-- whatever is said of its target, the request is the one that stands beside it
chaining_request : (r : Request) (n : Node) → (chaining_in r n).request ≡ r
chaining_request r (Many Nil) = refl
chaining_request r (Many (More a Nil)) = refl
chaining_request r (Many (More a (More b Nil))) = refl
chaining_request r (Many (More a (More b (More c Nil)))) = refl
chaining_request r (Many (More a (More b (More c (More d Nil))))) = refl
chaining_request r (Many (More a (More b (More c (More d (More e Nil)))))) = refl
chaining_request r (Many (More a (More b (More c (More d (More e (More f ns))))))) = refl
chaining_request r Vacant = refl
chaining_request r (Flag b) = refl
chaining_request r (Number k) = refl
chaining_request r (Oid arcs) = refl
chaining_request r (Bits b) = refl
chaining_request r (Octets o) = refl
chaining_request r (nodes.Text t) = refl
chaining_request r (Chosen tag n) = refl

carried_short : (code : ℕ) (n : Node) → IsCarried code n → HasShortNames (carried_in code n).request.body
carried_short code (Many (More a (More b Nil))) h =
    subst (λ (r : Request). HasShortNames r.body) (sym (chaining_request (argument_in code b) a)) (argument_short code (parts b) h.1.2)
carried_short code (Many Nil) h = absurd h
carried_short code (Many (More a Nil)) h = absurd h
carried_short code (Many (More a (More b (More c ns)))) h = absurd h
carried_short code Vacant h = absurd h
carried_short code (Flag b) h = absurd h
carried_short code (Number k) h = absurd h
carried_short code (Oid arcs) h = absurd h
carried_short code (Bits b) h = absurd h
carried_short code (Octets o) h = absurd h
carried_short code (nodes.Text t) h = absurd h
carried_short code (Chosen tag n) h = absurd h

pub message_short : (n : Node) → IsChained n → HasShortNames (chained_in n).1.request.body
message_short (Chosen tag (Many (More id (More code (More a Nil))))) h = carried_short (or_zero (number_in code)) a h.2
message_short (Chosen tag (Many Nil)) h = absurd h
message_short (Chosen tag (Many (More a Nil))) h = absurd h
message_short (Chosen tag (Many (More a (More b Nil)))) h = absurd h
message_short (Chosen tag (Many (More a (More b (More c (More d ns)))))) h = absurd h
message_short (Chosen tag Vacant) h = absurd h
message_short (Chosen tag (Flag b)) h = absurd h
message_short (Chosen tag (Number k)) h = absurd h
message_short (Chosen tag (Oid arcs)) h = absurd h
message_short (Chosen tag (Bits b)) h = absurd h
message_short (Chosen tag (Octets o)) h = absurd h
message_short (Chosen tag (nodes.Text t)) h = absurd h
message_short (Chosen tag (Chosen other n)) h = absurd h
message_short Vacant h = absurd h
message_short (Flag b) h = absurd h
message_short (Number k) h = absurd h
message_short (Oid arcs) h = absurd h
message_short (Bits b) h = absurd h
message_short (Octets o) h = absurd h
message_short (nodes.Text t) h = absurd h
message_short (Many ns) h = absurd h
