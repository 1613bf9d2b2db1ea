-- What agents are given and what they tell, of each thing that is done (X.518, sections 17 to 21), within the limits of
-- messages, in a world that has so many agents.
use Rattle.std.specs.Prelude.{◌≡◌, ℕ, nat_lt, true, false}
use Rattle.x5_model.specs.References.{Reference}
use Rattle.x5_model.specs.Answers.{Reply}
use Rattle.x5_model_run.specs.Journal.{Journal}
use Rattle.x5_model_serve.specs.Finding as finding
use Rattle.x5_model_serve.specs.Finding.{Here, CopyHere, Root, Below, Onward, Nowhere, Stuck}
use Rattle.x5_model_serve.specs.Serving.{Hand, hand_of, Heard, Unheard, Hears, Gathered, Whole, Broken, Act, Serves}
use Rattle.x5_model_serve.specs.Serving.{Follows, Sends, Tries, Takes, Spreads, Casts, Gathers, Probes, Updates}
use Rattle.x5_model_serve.specs.Serving.{is_too_long, is_final}
use Rattle.x5_model_heard.specs.Told.{are_agents, name_agents, reply_names}
use Rattle.x5_model_fitting.specs.Names.{Each, NameWithin}
use Rattle.x5_model_limits.specs.Holding.{BoundedContext, BoundedCopy}
use Rattle.x5_model_limits.specs.Messages.{BoundedReference, BoundedMessage, BoundedAnswer, BoundedReply}

-- where the resolution of a name ends (X.518, section 18)
abbrev pub BoundedFound : finding.Found → Type 0
BoundedFound (Here c) = BoundedContext c
BoundedFound (CopyHere c) = BoundedCopy c
BoundedFound Root = Unit {0}
BoundedFound Below = Unit {0}
BoundedFound (Onward r) = BoundedReference r
BoundedFound (Nowhere name) = NameWithin name
BoundedFound Stuck = Unit {0}

-- a message at an agent of the world
pub record BoundedHand (n : ℕ) (k : Hand) : Type 0 where
  pub receiver : nat_lt k.receiver n ≡ true
  pub message : BoundedMessage k.message

-- each message of a journal has come to an agent of the world
abbrev pub BoundedJournal : ℕ → Journal → Type 0
BoundedJournal n j = Each (λ l. BoundedHand n (hand_of l)) j.lines

-- a message that is to be passed on: its trace has room for an item
pub record BoundedOpener (n : ℕ) (k : Hand) : Type 0 where
  pub hand : BoundedHand n k
  pub short : is_too_long k ≡ false

-- it is passed on by a reference
pub record BoundedAsking (n : ℕ) (o : Hand) (r : Reference) : Type 0 where
  pub opener : BoundedOpener n o
  pub reference : BoundedReference r

-- a reply to a message, within the limits: only for one with a shorter trace it leaves anything to follow
pub record BoundedTelling (k : Hand) (y : Reply) : Type 0 where
  pub reply : BoundedReply y
  pub short : is_final y ≡ false → is_too_long k ≡ false

-- what is given
abbrev pub GivenBounded : ℕ → Act → Type 0
GivenBounded n (Serves k y) = BoundedHand n k
GivenBounded n (Follows from k y last) = BoundedHand n k × BoundedTelling k y × (reply_names n y ≡ true)
GivenBounded n (Sends from o r a h) = BoundedAsking n o r × (nat_lt a n ≡ true)
GivenBounded n (Tries from o r agents) = BoundedAsking n o r × (are_agents n agents ≡ true)
GivenBounded n (Takes from o r h) = BoundedAsking n o r × (are_agents n r.agents ≡ true)
GivenBounded n (Spreads from o r agents noted) = BoundedAsking n o r × (are_agents n agents ≡ true)
GivenBounded n (Casts from o r y) = BoundedAsking n o r × (are_agents n r.agents ≡ true)
GivenBounded n (Gathers from o rs a whole) =
    BoundedOpener n o × Each BoundedReference rs × (name_agents n rs ≡ true) × BoundedAnswer a
GivenBounded n (Probes k r agents noted) = BoundedAsking n k r × (are_agents n agents ≡ true)
GivenBounded n (Updates k y) = BoundedOpener n k

-- what is told
abbrev pub BoundedHeard : Heard → Type 0
BoundedHeard Unheard = Unit {0}
BoundedHeard (Hears y) = BoundedReply y

abbrev pub BoundedWhole : Gathered → Type 0
BoundedWhole (Whole a) = BoundedAnswer a
BoundedWhole (Broken y) = BoundedReply y

abbrev pub ToldBounded : Act → Type 0
ToldBounded (Serves k y) = BoundedTelling k y
ToldBounded (Follows from k y last) = BoundedReply last
ToldBounded (Sends from o r a h) = BoundedHeard h
ToldBounded (Tries from o r agents) = Unit {0}
ToldBounded (Takes from o r h) = BoundedHeard h
ToldBounded (Spreads from o r agents noted) = Unit {0}
ToldBounded (Casts from o r y) = BoundedReply y
ToldBounded (Gathers from o rs a whole) = BoundedWhole whole
ToldBounded (Probes k r agents noted) = Unit {0}
ToldBounded (Updates k y) = BoundedReply y
