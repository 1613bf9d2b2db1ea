-- What agents do keeps to the limits of messages: what they find, need and carry, what they reply, what an update
-- leaves of what they hold, and what a file describes.
use Rattle.std.specs.Prelude.{◌≡◌, ℕ, nat_lt, true, false, List, Option, Some, Err}
use Rattle.x5_model.specs.References.{Reference, Chained}
use Rattle.x5_model.specs.Answers.{Answer, DirError, Reply}
use Rattle.x5_model.specs.Requests.{Request}
use Rattle.x5_model.specs.Statics.{fault_of}
use Rattle.x5_model_tree.specs.World.{World}
use Rattle.x5_model_tree.specs.Described.{IsDescribed}
use Rattle.x5_model_tree.specs.Apply.{Ground, apply_over}
use Rattle.x5_model_run.specs.History.{Point, knowledge_at, holdings_at}
use Rattle.x5_model_run.specs.Journal.{Journal}
use Rattle.x5_model_run.specs.Holdings.{Held, Copy, Holdings, ground_at}
use Rattle.x5_model_run.specs.Needs.{due_probes}
use Rattle.x5_model_run.specs.Chain.{Scene, opening}
use Rattle.x5_model_serve.specs.Committed.{committed}
use Rattle.x5_model_serve.specs.Finding.{find}
use Rattle.x5_model_serve.specs.Answering.{reply_in_own, reply_in_copy, local_part, rest_of_parts, merged}
use Rattle.x5_model_serve.specs.Answering.{with_unexplored, only_unexplored, limited_answer, to_follow, passed_by}
use Rattle.x5_model_serve.specs.Answering.{in_vain, of_these}
use Rattle.x5_model_serve.specs.Serving.{Hand, Act, Does, IsRequest, is_too_long, carried_for}
use Rattle.x5_model_held.specs.Beginning.{holdings_described}
use Rattle.x5_model_known.specs.Holding.{HoldAgents}
use Rattle.x5_model_fitting.specs.Names.{Each}
use Rattle.x5_model_fitting.specs.Requests.{RequestWithin}
use Rattle.x5_model_limits.specs.Holding.{BoundedEntry, BoundedContext, BoundedCopy, BoundedHoldings, HoldBounded}
use Rattle.x5_model_limits.specs.Messages.{BoundedReference, BoundedMessage, BoundedAnswer, BoundedError, BoundedReply}
use Rattle.x5_model_limits.specs.Doing.{BoundedFound, BoundedJournal, GivenBounded, ToldBounded}
use Rattle.x5_model_limits.specs.Described.{world_is_utf8, BoundedPast, BoundedMoments}

-- 1. What is found of a name (X.518, section 18).
abbrev pub FindsBounded : Type 0
FindsBounded = (h : Holdings) (m : Chained) → BoundedHoldings h → BoundedMessage m → BoundedFound (find h m)

-- 2. What an agent answers by itself (X.518, section 19).
abbrev pub OwnPartBounded : Type 0
OwnPartBounded =
    (me : ℕ) (m : Chained) (c : Held) → RequestWithin m.request → BoundedContext c → BoundedReply (reply_in_own me m c)

abbrev pub CopyPartBounded : Type 0
CopyPartBounded =
    (me : ℕ) (m : Chained) (c : Copy) → RequestWithin m.request → BoundedCopy c → BoundedReply (reply_in_copy me m c)

abbrev pub LocalPartBounded : Type 0
LocalPartBounded =
    (h : Holdings) (m : Chained) → RequestWithin m.request → BoundedHoldings h → BoundedReply (local_part h m)

-- 3. The references for the rest of a list or search, and those of the probes that are due (X.518, section 19).
abbrev pub RestBounded : Type 0
RestBounded =
    (h : Holdings) (m : Chained) → BoundedHoldings h → BoundedMessage m → Each BoundedReference (rest_of_parts h m)

abbrev pub ProbesBounded : Type 0
ProbesBounded =
    (h : Holdings) (m : Chained) → BoundedHoldings h → BoundedMessage m → Each BoundedReference (due_probes h m)

-- 4. What a request is refused with by itself, and what an update is refused with by what it's judged by (X.511,
-- sections 9 to 12).
abbrev pub RefusalsBounded : Type 0
RefusalsBounded = (r : Request) (x : DirError) → RequestWithin r → fault_of r.body ≡ Some x → BoundedError x

abbrev pub JudgedBounded : Type 0
JudgedBounded =
    (g : Ground) (r : Request) (x : DirError) → Each BoundedEntry g.entries → RequestWithin r
    → apply_over g r.body ≡ Err x → BoundedError x

-- That is entries that it holds.
abbrev pub GroundBounded : Type 0
GroundBounded = (r : Request) (h : Holdings) → BoundedHoldings h → Each BoundedEntry (ground_at r h).entries

-- 5. What it holds once it accepted an update (X.511, section 11).
abbrev pub CommittedBounded : Type 0
CommittedBounded = (r : Request) (h : Holdings) → RequestWithin r → BoundedHoldings h → BoundedHoldings (committed r h)

-- 6. What is carried by a reference (X.518, section 10.3).
abbrev pub CarriedBounded : Type 0
CarriedBounded =
    (from : Option ℕ) (o : Hand) (r : Reference) → BoundedMessage o.message → BoundedReference r
    → is_too_long o ≡ false → BoundedMessage (carried_for from o r)

-- What a user asks, as the agent has it that he asks.
abbrev pub OpeningBounded : Type 0
OpeningBounded = (r : Request) → RequestWithin r → BoundedMessage (opening r)

-- 7. What is made of answers and references (X.518, section 21).
pub record AnswersBounded : Type 0 where
  pub merged : (a b : Answer) → BoundedAnswer a → BoundedAnswer b → BoundedAnswer (merged a b)
  pub more : (rs : List Reference) (a : Answer) → Each BoundedReference rs → BoundedAnswer a
      → BoundedAnswer (with_unexplored rs a)
  pub only : (rs : List Reference) (a : Answer) → Each BoundedReference rs → BoundedAnswer a
      → BoundedAnswer (only_unexplored rs a)
  pub limited : (size : Option ℕ) (a : Answer) → BoundedAnswer a → BoundedAnswer (limited_answer size a)
  pub follow : (a : Answer) → BoundedAnswer a → Each BoundedReference (to_follow a)
  pub pass : (a : Answer) → BoundedAnswer a → Each BoundedReference (passed_by a)
  pub vain : (r : Reference) → BoundedReference r → BoundedReference (in_vain r)
  pub these : (agents : List ℕ) (r : Reference) → BoundedReference r → BoundedReference (of_these agents r)

-- 8. Whatever is done keeps to the limits: where all that agents of a world hold is within them, and names agents of
-- that world alone, so are what is told and each message that is sent.
abbrev pub DoesBounded : Type 0
DoesBounded =
    (n : ℕ) (s : Scene) (most : ℕ) (x : Act) (i j : Journal)
    → HoldAgents n s → HoldBounded n s → RequestWithin s.message.request → Does s most x i j
    → GivenBounded n x → BoundedJournal n i → ToldBounded x × BoundedJournal n j

-- So it is of a user's request, or of another message that comes to one of them.
abbrev pub RequestsBounded : Type 0
RequestsBounded =
    (n : ℕ) (s : Scene) (most : ℕ) (j : Journal) (reply : Reply)
    → HoldAgents n s → HoldBounded n s → nat_lt s.first n ≡ true → BoundedMessage s.message → IsRequest s most j reply
    → BoundedReply reply × BoundedJournal n j

-- 9. What a world's file describes of an agent, and what an agent holds at a line (X.525, section 9).
abbrev pub DescribedBounded : Type 0
DescribedBounded =
    (w : World) (me : ℕ) → IsDescribed w → world_is_utf8 w ≡ true → BoundedHoldings (holdings_described w me)

abbrev pub LinesBounded : Type 0
LinesBounded =
    (p : Point) (me : ℕ) → IsDescribed p.described → world_is_utf8 p.described ≡ true → IsDescribed (knowledge_at p)
    → world_is_utf8 (knowledge_at p) ≡ true → BoundedPast p.past → BoundedMoments p
    → BoundedHoldings (holdings_at p me)
