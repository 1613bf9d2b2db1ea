-- Who can reach whom, and what becomes of a message.
use Rattle.std.specs.Prelude.{ℕ, Bool, true, false, not, ◌&&◌, ◌||◌, ◌==◌, if◌then◌else◌, List, ◌∷◌}
use Rattle.std.specs.List.{list_any, filter}
use Rattle.std.specs.declared.option.Option.{Option}
use Rattle.std.specs.declared.option.Option.TheVariants.{None, Some}
use Rattle.x5_model.specs.Words.{has}
use Rattle.x5_model_tree.specs.World.{Network}

-- a message doesn't arrive; it arrives, and its reply doesn't; both arrive
pub data Fate : Type 0 where
  Lost : Fate
  NoReply : Fate
  Sent : Fate

-- the receiver has the message
abbrev pub arrives : Fate → Bool
arrives Lost = false
arrives NoReply = true
arrives Sent = true

-- the sender hears nothing
abbrev pub is_unheard : Fate → Bool
is_unheard Lost = true
is_unheard NoReply = true
is_unheard Sent = false

abbrev pub is_sent : Fate → Bool
is_sent Lost = false
is_sent NoReply = false
is_sent Sent = true

abbrev pub is_lost : Fate → Bool
is_lost Lost = true
is_lost NoReply = false
is_lost Sent = false

-- what a script does to the network
pub data Outage : Type 0 where
  Down : ℕ → Outage
  Up : ℕ → Outage
  Cut : ℕ → ℕ → Outage
  Join : ℕ → ℕ → Outage
  Refuse : ℕ → Outage
  Willing : ℕ → Outage

abbrev pub without : ℕ → List ℕ → List ℕ
without a xs = filter (λ x. not (x == a)) xs

-- a pair is cut both ways
abbrev pub is_pair : ℕ → ℕ → ℕ × ℕ → Bool
is_pair a b p = ((p.0 == a) && (p.1 == b)) || ((p.0 == b) && (p.1 == a))

abbrev pub after_outage : Outage → Network → Network
after_outage (Down a) net = record net { down = a ∷ net.down }
after_outage (Up a) net = record net { down = without a net.down }
after_outage (Cut a b) net = record net { cut = (a, b) ∷ net.cut }
after_outage (Join a b) net = record net { cut = filter (λ p. not (is_pair a b p)) net.cut }
after_outage (Refuse a) net = record net { refusing = a ∷ net.refusing }
after_outage (Willing a) net = record net { refusing = without a net.refusing }

-- the message of this number is lost, or the reply to it
abbrev pub after_loss : Bool → ℕ → Network → Network
after_loss false number net = record net { lost_messages = number ∷ net.lost_messages }
after_loss true number net = record net { lost_replies = number ∷ net.lost_replies }

abbrev pub is_up : Network → ℕ → Bool
is_up net a = not (has ◌==◌ net.down a)

-- the agent doesn't chain
abbrev pub refuses : Network → ℕ → Bool
refuses net a = has ◌==◌ net.refusing a

-- both are up and the pair isn't cut; the user, who is no agent, is always up
abbrev pub reaches : Network → Option ℕ → ℕ → Bool
reaches net None to = is_up net to
reaches net (Some from) to = is_up net from && (is_up net to && not (list_any (is_pair from to) net.cut))

-- what becomes of the message with this number
abbrev pub fate_of : Network → ℕ → Option ℕ → ℕ → Fate
fate_of net number from to =
    if not (reaches net from to) || has ◌==◌ net.lost_messages number then Lost
    else (if has ◌==◌ net.lost_replies number then NoReply else Sent)
