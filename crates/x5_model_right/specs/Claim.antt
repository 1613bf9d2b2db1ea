-- What is claimed of each thing that is done for a message (X.518, sections 17 to 21), so that it can be shown by one
-- induction. Beside the claims of x5_model_serve these say more, since those were too weak as hypotheses or false:
-- - Where messages ran out nothing is sent, and no line tells of it; so for one agent of several, nobody who wasn't
--   heard makes a reference lost: he was asked in vain, and the loop over the agents concludes.
-- - Agents are asked in the reference's order, so loops over agents take that those so far begin it.
-- - An agent that was heard isn't passed, so it is among those that were asked only where it can't go on.
-- - Whoever was asked first is told, with his sender, since messages that are needed are taken by the first agent.
-- - An update that is accepted is that of a line that came first: so each line before one that brings the update is
--   settled, and nothing is accepted while something else is asked.
-- - An agent that did the update before takes nothing; what it needs isn't followed either.
-- - What is left to be followed is the reference of name resolution, or all those of parts.
-- That a message is placed, and its receiver an agent, follows of licensed lines, and is no premise.
use Rattle.std.specs.Prelude.{◌≡◌, ℕ, ◌⊎◌, true, false, IsTrue, List, [], ◌∷◌, ◌++◌, length}
use Rattle.std.specs.declared.option.Option.{Option}
use Rattle.std.specs.declared.option.Option.TheVariants.{Some}
use Rattle.x5_model.specs.Words.{first_of}
use Rattle.x5_model.specs.Members.{In}
use Rattle.x5_model.specs.References.{Reference}
use Rattle.x5_model.specs.Answers.{Answer, Reply}
use Rattle.x5_model_tree.specs.Ask.{is_update}
use Rattle.x5_model_run.specs.Network.{is_sent}
use Rattle.x5_model_run.specs.Journal.{Line, Journal, is_wide, siblings}
use Rattle.x5_model_run.specs.Needs.{due_probes}
use Rattle.x5_model_run.specs.History.{Point}
use Rattle.x5_model_run.specs.Chain.{Scene, IsCarried, is_asked, may_send, may_chain, is_in_vain, is_passed}
use Rattle.x5_model_run.specs.Accepting.{is_done_before}
use Rattle.x5_model_run.specs.Right.{heard_whole}
use Rattle.x5_model_replies.specs.Replies.{RightReply}
use Rattle.x5_model_run.specs.Thorough.{is_served, is_sent_by}
use Rattle.x5_model_serve.specs.Finding.{Onward, IsLooked, find}
use Rattle.x5_model_serve.specs.Serving.{Hand, line_for, Heard, Unheard, Hears, Gathered, Whole, Broken, Act, Serves}
use Rattle.x5_model_serve.specs.Serving.{Follows, Sends, Tries, Takes, Spreads, Casts, Gathers, Probes, Updates}
use Rattle.x5_model_serve.specs.Serving.{holds_now, is_idle, is_final, is_spent}
use Rattle.x5_model_serve.specs.Claims.{asked_line, serving_of, line_at, LiesWithin, is_settled_line, is_served_itself}
use Rattle.x5_model_serve.specs.Claims.{depth_at, AtHand, MayTake, AskedSoFar, NotedSoFar, OnlyBy, SoFar}
use Rattle.x5_model_replies.specs.Heard.{HeardRight}
use Rattle.x5_model_serve.specs.Claims.{AtMaster}
use Rattle.x5_model_replies.specs.Heard.{TakenRight, IsSpentReply, MayGather, GatheredRight}
use Rattle.x5_model_bounds.specs.Bounds.{IsLeft}
use Rattle.x5_model_right.specs.Kept.{AtOnce, asks_update, KeepsAll, Rests, Comes, is_sent_to, Meanwhile}

-- ---- serving
-- The serving of a message, brought by the line e: the reply is right for it; what the agent takes itself is taken, the
-- line is settled, and all is taken where nothing is left to be followed. Where something is, its receiver may not
-- chain, sent nothing, and has not accepted the update before.
pub record ServedRight (p : Point) (s : Scene) (most : ℕ) (e : Line) (k : Hand) (reply : Reply)
    (i j : Journal) : Type 0 where
  pub keeps : KeepsAll p s most k (is_update k.message.request.body) i j
  pub right : RightReply p s (serving_of i k e.number) j (is_spent most j) reply
  pub within : LiesWithin p (serving_of i k e.number) reply
  pub own :
      is_spent most j ≡ true
      ⊎ (IsTrue (is_served_itself s j e) × IsTrue (is_settled_line p s j e)
      × (is_final reply ≡ true → IsTrue (is_served s j e)))
  pub left :
      is_final reply ≡ false
      → IsLeft s k reply × (is_idle s k ≡ true) × (j ≡ i) × (is_done_before s j e ≡ false)

abbrev pub ServesRight : Point → Scene → ℕ → Hand → Reply → Journal → Journal → Type 0
ServesRight p s most k reply i j =
    (at : AtHand p s k i) → Comes p s k at.line i → ServedRight p s most at.line k reply i j

abbrev pub UpdatesRight : Point → Scene → ℕ → Hand → Reply → Journal → Journal → Type 0
UpdatesRight p s most k reply i j =
    (at : AtMaster p s k i) → Comes p s k at.at_hand.line i → ServedRight p s most at.at_hand.line k reply i j

-- ---- following
-- A reply that may be followed by the sender of its message: so many lines were accepted when its serving began. Where
-- something is left to be followed, nothing was sent, and the sender may chain.
pub record MayFollow (p : Point) (s : Scene) (most stood : ℕ) (e : Line) (from : Option ℕ) (k : Hand) (reply : Reply)
    (i : Journal) : Type 0 where
  pub heard : is_sent e.fate ≡ true
  pub sender_is : e.sender ≡ from
  pub right : RightReply p s (asked_line (line_at k e.number) stood) i (is_spent most i) reply
  pub within : LiesWithin p (asked_line (line_at k e.number) stood) reply
  pub at_once : AtOnce s i
  pub own :
      is_spent most i ≡ true
      ⊎ (IsTrue (is_served_itself s i e) × (is_final reply ≡ true → IsTrue (is_served s i e)))
  pub left :
      is_final reply ≡ false
      → IsLeft s k reply × (is_idle s k ≡ true) × (siblings (depth_at k) i.lines ≡ []) × (stood ≡ length i.accepted)
  pub sends : is_final reply ≡ false → IsTrue (may_send s e from)
  pub chains :
      is_final reply ≡ false → (r : Reference) (l : Line) → l.sender ≡ from → IsCarried from (line_for k) r l.message
      → IsTrue (may_chain s l from)

pub record FollowedRight (p : Point) (s : Scene) (most stood : ℕ) (e : Line) (k : Hand) (last : Reply)
    (i j : Journal) : Type 0 where
  pub keeps : KeepsAll p s most k (is_update k.message.request.body) i j
  pub right : RightReply p s (asked_line (line_at k e.number) stood) j (is_spent most j) last
  pub within : LiesWithin p (asked_line (line_at k e.number) stood) last
  pub served : is_spent most j ≡ true ⊎ IsTrue (is_served s j e)

abbrev pub FollowsRight : Point → Scene → ℕ → Option ℕ → Hand → Reply → Reply → Journal → Journal → Type 0
FollowsRight p s most from k reply last i j =
    (stood : ℕ) (at : AtHand p s k i) → MayFollow p s most stood at.line from k reply i
    → (is_final reply ≡ false → Rests p s most at.line (is_update k.message.request.body) i)
    → FollowedRight p s most stood at.line k last i j

-- ---- one message
-- what is heard of one agent: it was asked in vain; or its reply is right; or messages ran out
abbrev pub SentHeard :
    Point → Scene → ℕ → Line → Option ℕ → Hand → Reference → ℕ → Heard → Journal → Journal → Type 0
SentHeard p s most e from o r a Unheard i j =
    (is_in_vain s j.lines e r a ≡ true) × IsTrue (is_sent_to j.lines e.number from r a)
SentHeard p s most e from o r a (Hears reply) i j =
    ((k : Line) × (k.receiver ≡ a) × IsCarried from (line_for o) r k.message
    × HeardRight p s most (serving_of i o e.number) j k reply × IsTrue (is_sent_to j.lines e.number from r a)
    × IsTrue (is_asked is_sent j.lines e.number r a))
    ⊎ (IsSpentReply most j (Hears reply) × (j ≡ i))

pub record SentRight (p : Point) (s : Scene) (most : ℕ) (e : Line) (from : Option ℕ) (o : Hand) (r : Reference)
    (before : List ℕ) (a : ℕ) (h : Heard) (i j : Journal) : Type 0 where
  pub keeps : KeepsAll p s most o (asks_update from o r) i j
  pub only : OnlyBy o (r ∷ []) i j
  pub next : is_passed s j.lines e r a ≡ true → AskedSoFar s o r j (before ++ a ∷ [])
  pub heard : SentHeard p s most e from o r a h i j
  pub meanwhile : Meanwhile i j h

abbrev pub SendsRight :
    Point → Scene → ℕ → Option ℕ → Hand → Reference → ℕ → Heard → Journal → Journal → Type 0
SendsRight p s most from o r a h i j =
    (before after : List ℕ) (at : AtHand p s o i) → MayTake s from o r i
    → Rests p s most at.line (asks_update from o r) i
    → r.agents ≡ before ++ a ∷ after → AskedSoFar s o r i before
    → SentRight p s most at.line from o r before a h i j

-- ---- the agents of one reference
pub record TriedRight (p : Point) (s : Scene) (most : ℕ) (e : Line) (from : Option ℕ) (o : Hand) (r : Reference)
    (agents : List ℕ) (i j : Journal) : Type 0 where
  pub keeps : KeepsAll p s most o (asks_update from o r) i j
  pub only : OnlyBy o (r ∷ []) i j
  pub so_far : AskedSoFar s o r j agents
  pub vain : (a : ℕ) → In a agents → is_in_vain s j.lines e r a ≡ true
  pub first : (a : ℕ) → first_of agents ≡ Some a → IsTrue (is_sent_to j.lines e.number from r a)
  pub none : (length j.accepted ≡ length i.accepted) ⊎ (heard_whole j.lines ≡ false)

abbrev pub TriesRight : Point → Scene → ℕ → Option ℕ → Hand → Reference → List ℕ → Journal → Journal → Type 0
TriesRight p s most from o r agents i j =
    (after : List ℕ) (at : AtHand p s o i) → MayTake s from o r i
    → Rests p s most at.line (asks_update from o r) i
    → r.agents ≡ agents ++ after → AskedSoFar s o r i []
    → TriedRight p s most at.line from o r agents i j

pub record TookRight (p : Point) (s : Scene) (most : ℕ) (e : Line) (from : Option ℕ) (o : Hand) (r : Reference)
    (h : Heard) (i j : Journal) : Type 0 where
  pub keeps : KeepsAll p s most o (asks_update from o r) i j
  pub only : OnlyBy o (r ∷ []) i j
  pub taken :
      (TakenRight p s most (serving_of i o e.number) from o r j h × IsTrue (is_sent_by j.lines e from r))
      ⊎ IsSpentReply most j h
  pub meanwhile : Meanwhile i j h

abbrev pub TakesRight : Point → Scene → ℕ → Option ℕ → Hand → Reference → Heard → Journal → Journal → Type 0
TakesRight p s most from o r h i j =
    (at : AtHand p s o i) → MayTake s from o r i → Rests p s most at.line (asks_update from o r) i
    → AskedSoFar s o r i [] → TookRight p s most at.line from o r h i j

-- ---- the agents of an NSSR
pub record SpreadRight (p : Point) (s : Scene) (most : ℕ) (e : Line) (from : Option ℕ) (o : Hand) (r : Reference)
    (agents noted : List ℕ) (i j : Journal) : Type 0 where
  pub keeps : KeepsAll p s most o (asks_update from o r) i j
  pub only : OnlyBy o (r ∷ []) i j
  pub so_far : AskedSoFar s o r j agents
  pub noted_so_far : NotedSoFar s o r j agents noted
  pub some : (a : ℕ) → In a noted → In a agents
  pub first : (a : ℕ) → first_of agents ≡ Some a → IsTrue (is_sent_to j.lines e.number from r a)
  pub none : (length j.accepted ≡ length i.accepted) ⊎ (heard_whole j.lines ≡ false)

abbrev pub SpreadsRight :
    Point → Scene → ℕ → Option ℕ → Hand → Reference → List ℕ → List ℕ → Journal → Journal → Type 0
SpreadsRight p s most from o r agents noted i j =
    (after : List ℕ) (at : AtHand p s o i) → MayTake s from o r i
    → Rests p s most at.line (asks_update from o r) i
    → is_wide r.kind ≡ true → r.agents ≡ agents ++ after → AskedSoFar s o r i []
    → SpreadRight p s most at.line from o r agents noted i j

pub record CastRight (p : Point) (s : Scene) (most : ℕ) (e : Line) (from : Option ℕ) (o : Hand) (r : Reference)
    (reply : Reply) (i j : Journal) : Type 0 where
  pub keeps : KeepsAll p s most o (asks_update from o r) i j
  pub only : OnlyBy o (r ∷ []) i j
  pub right : RightReply p s (serving_of i o e.number) j (is_spent most j) reply
  pub within : LiesWithin p (serving_of i o e.number) reply
  pub asked : is_spent most j ≡ true ⊎ IsTrue (is_sent_by j.lines e from r)

-- the reference is that of name resolution
abbrev pub CastsRight : Point → Scene → ℕ → Option ℕ → Hand → Reference → Reply → Journal → Journal → Type 0
CastsRight p s most from o r reply i j =
    (at : AtHand p s o i) → MayTake s from o r i → Rests p s most at.line (asks_update from o r) i
    → IsLooked o.message → find (s.holdings o.receiver) o.message ≡ Onward r → is_wide r.kind ≡ true
    → AskedSoFar s o r i [] → CastRight p s most at.line from o r reply i j

-- ---- the references of parts
abbrev pub AllAsked : Journal → Line → Option ℕ → List Reference → Gathered → Type 0
AllAsked j e from rs (Whole a) = (r : Reference) → In r rs → IsTrue (is_sent_by j.lines e from r)
AllAsked j e from rs (Broken x) = Unit {0}

pub record GatherRight (p : Point) (s : Scene) (most : ℕ) (e : Line) (from : Option ℕ) (o : Hand)
    (rs rest : List Reference) (whole : Gathered) (i j : Journal) : Type 0 where
  pub keeps : KeepsAll p s most o (is_update o.message.request.body) i j
  pub only : OnlyBy o rs i j
  pub gathered : GatheredRight p s most o e.number j rest whole
  pub asked : AllAsked j e from rs whole

abbrev pub GathersRight :
    Point → Scene → ℕ → Option ℕ → Hand → List Reference → Answer → Gathered → Journal → Journal → Type 0
GathersRight p s most from o rs a whole i j =
    (rest : List Reference) (at : AtHand p s o i) → MayGather p s from o rs i
    → Rests p s most at.line (is_update o.message.request.body) i
    → SoFar p s (serving_of i o at.line.number) i.lines a (rs ++ rest)
    → GatherRight p s most at.line from o rs rest whole i j

-- ---- probes
pub record ProbedRight (p : Point) (s : Scene) (most : ℕ) (e : Line) (k : Hand) (r : Reference)
    (agents noted : List ℕ) (i j : Journal) : Type 0 where
  pub keeps : KeepsAll p s most k false i j
  pub only : OnlyBy k (r ∷ []) i j
  pub so_far : AskedSoFar s k r j agents
  pub noted_so_far : NotedSoFar s k r j agents noted
  pub some : (a : ℕ) → In a noted → In a agents
  pub first : (a : ℕ) → first_of agents ≡ Some a → IsTrue (is_sent_to j.lines e.number (Some k.receiver) r a)

abbrev pub ProbesRight : Point → Scene → ℕ → Hand → Reference → List ℕ → List ℕ → Journal → Journal → Type 0
ProbesRight p s most k r agents noted i j =
    (after : List ℕ) (at : AtMaster p s k i) → due_probes (holds_now s i k) k.message ≡ r ∷ []
    → MayTake s (Some k.receiver) k r i → Rests p s most at.at_hand.line false i
    → r.agents ≡ agents ++ after → AskedSoFar s k r i []
    → ProbedRight p s most at.at_hand.line k r agents noted i j

-- ---- all of it
abbrev pub Claim : Point → Scene → ℕ → Act → Journal → Journal → Type 0
Claim p s most (Serves k reply) i j = ServesRight p s most k reply i j
Claim p s most (Follows from k reply last) i j = FollowsRight p s most from k reply last i j
Claim p s most (Sends from o r a h) i j = SendsRight p s most from o r a h i j
Claim p s most (Tries from o r agents) i j = TriesRight p s most from o r agents i j
Claim p s most (Takes from o r h) i j = TakesRight p s most from o r h i j
Claim p s most (Spreads from o r agents noted) i j = SpreadsRight p s most from o r agents noted i j
Claim p s most (Casts from o r reply) i j = CastsRight p s most from o r reply i j
Claim p s most (Gathers from o rs a whole) i j = GathersRight p s most from o rs a whole i j
Claim p s most (Probes k r agents noted) i j = ProbesRight p s most k r agents noted i j
Claim p s most (Updates k reply) i j = UpdatesRight p s most k reply i j
