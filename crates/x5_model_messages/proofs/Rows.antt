-- Requests as octets, computed: they are canonical octets of what is written of them, and what is written says them.
use Rattle.std.proofs.Common.{◌≡◌, true, false, [], ◌∷◌, refl}
use Rattle.std.specs.declared.option.Option.TheVariants.{None, Some}
use Rattle.x5_model.specs.Requests.{All, Only, Request, Read}
use Rattle.x5_model.specs.Values.{Known}
use Rattle.x5_model.specs.References.{Next, NonSpecific}
use Rattle.x5_model_typed.specs.Named.{DapRequest, DapAnswer}
use Rattle.x5_model_typed.specs.Layouts.{Surroundings, layout}
use Rattle.x5_model_typed.specs.Written.{canonical_octets}
use Rattle.x5_model_messages.specs.Requests.{request_node, request_in}
use Rattle.x5_model_messages.specs.Replies.{Reference, Reply, Answered, Found, Changed, NoSuchObject, Referred, reply_node, reply_in, to_user, to_agent}

nowhere : Surroundings
nowhere = record { moment = λ t. None; time = λ m. None; is_agent = λ a. false }

-- the root is read, with id 1: controls and the selection have their defaults
root : Request
root = record { controls = record { nocopy = false; nochain = false; size = None }; body = Read [] All }

root_octets : canonical_octets (layout nowhere) DapRequest (request_node 1 root)
    ≡ Some (161 ∷ 12 ∷ 2 ∷ 1 ∷ 1 ∷ 2 ∷ 1 ∷ 1 ∷ 49 ∷ 4 ∷ 160 ∷ 2 ∷ 48 ∷ 0 ∷ [])
unfolding root nowhere
root_octets = refl

root_said : request_in (request_node 1 root) ≡ (1, root)
unfolding root
root_said = refl

-- its cn, from no copy
chosen : Request
chosen = record { controls = record { nocopy = true; nochain = false; size = Some 5 }; body = Read [] (Only (Known 3 ∷ [])) }

chosen_said : request_in (request_node 2 chosen) ≡ (2, chosen)
unfolding chosen
chosen_said = refl

-- ---- replies

-- nothing of a name is there, not even at its top
root_unknown : canonical_octets (layout nowhere) DapAnswer (reply_node to_user 1 (NoSuchObject []))
    ≡ Some (163 ∷ 13 ∷ 2 ∷ 1 ∷ 1 ∷ 2 ∷ 1 ∷ 2 ∷ 48 ∷ 5 ∷ 2 ∷ 1 ∷ 1 ∷ 48 ∷ 0 ∷ [])
unfolding nowhere
root_unknown = refl

root_unknown_said : reply_in (reply_node to_user 1 (NoSuchObject [])) ≡ (1, NoSuchObject [])
root_unknown_said = refl

-- an update is done
changed_octets : canonical_octets (layout nowhere) DapAnswer (reply_node to_user 1 (Answered 7 Changed))
    ≡ Some (162 ∷ 10 ∷ 2 ∷ 1 ∷ 1 ∷ 48 ∷ 5 ∷ 2 ∷ 1 ∷ 7 ∷ 5 ∷ 0 ∷ [])
unfolding nowhere
changed_octets = refl

-- a search that found nothing in one context, and a part that nobody looked into
unexplored : Reference
unexplored = record {
  target = [];
  progress = Next 2;
  kind = NonSpecific;
  agents = record { agent = 65 ∷ []; copy = false } ∷ record { agent = 66 ∷ []; copy = true } ∷ [];
  exclusions = [];
  tried = true;
}

found : Reply
found = Answered 5 (Found [] (record { context = []; agent = 65 ∷ []; moment = Some 9 } ∷ []) (record { limited = true; unexplored = unexplored ∷ [] }))

found_said : reply_in (reply_node to_user 7 found) ≡ (7, found)
unfolding found unexplored
found_said = refl

referral_said : reply_in (reply_node to_agent 7 (Referred unexplored)) ≡ (7, Referred unexplored)
unfolding unexplored
referral_said = refl
