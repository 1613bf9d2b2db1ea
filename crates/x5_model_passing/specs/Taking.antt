-- What an agent by which a name goes on elsewhere makes of what it hears is right for its message (X.518, section 20).
use Rattle.std.specs.Prelude.{◌≡◌, ℕ, ◌⊎◌, true, false, List, [], ◌∷◌}
use Rattle.std.specs.declared.option.Option.{Option}
use Rattle.x5_model.specs.Words.{is_empty}
use Rattle.x5_model.specs.Members.{In, Once}
use Rattle.x5_model.specs.References.{Reference}
use Rattle.x5_model.specs.Answers.{NoSuchObject, Reply, Failed}
use Rattle.x5_model.specs.Problems.{unable_to_proceed}
use Rattle.x5_model_run.specs.Journal.{Journal, is_wide}
use Rattle.x5_model_run.specs.History.{Point, holdings_at}
use Rattle.x5_model_run.specs.Chain.{Scene}
use Rattle.x5_model_replies.specs.Replies.{RightReply}
use Rattle.x5_model_serve.specs.Finding.{Onward, IsLooked, find}
use Rattle.x5_model_serve.specs.Answering.{is_service, in_vain, of_these, is_unavailable, above_next}
use Rattle.x5_model_serve.specs.Serving.{Hand, Heard, Hears, Does, Takes, Spreads, Casts, heard_or, is_spent}
use Rattle.x5_model_serve.specs.Claims.{Setting, IsAgent, AtHand, Keeps, NotedSoFar}
use Rattle.x5_model_replies.specs.Heard.{TakenRight, IsSpentReply}
use Rattle.x5_model_serve.specs.Claims.{LiesWithin, serving_of}

-- the name of the message at hand goes on by this reference
pub record GoesOn (p : Point) (s : Scene) (k : Hand) (r : Reference) (i : Journal) : Type 0 where
  pub setting : Setting p s
  pub at_hand : AtHand p s k i
  pub looked : IsLooked k.message
  pub found : find (holdings_at p k.receiver) k.message ≡ Onward r

-- the reply is right for the message, and what it leaves out lies within what the message looks into
abbrev pub IsRightFor : Point → Scene → ℕ → Hand → ℕ → Journal → Journal → Reply → Type 0
IsRightFor p s most k number i j reply =
    RightReply p s (serving_of i k number) j (is_spent most j) reply × LiesWithin p (serving_of i k number) reply

-- 1. What is heard by the reference is the reply; where nobody is heard, it is unavailable by the reference, tried. So
-- it is for whoever asks by it: the agent itself, or who follows its referral.
abbrev pub TakingIsRight : Type 0
TakingIsRight =
    (p : Point) (s : Scene) (most : ℕ) (from : Option ℕ) (k : Hand) (r : Reference) (i j : Journal) (heard : Heard)
    → (on : GoesOn p s k r i) → is_wide r.kind ≡ false
    → Does s most (Takes from k r heard) i j → Keeps p s most k i j
    → TakenRight p s most (serving_of i k on.at_hand.line.number) from k r j heard ⊎ IsSpentReply most j heard
    → IsRightFor p s most k on.at_hand.line.number i j (heard_or (is_unavailable (in_vain r)) heard)

-- 2. What an agent of an NSSR replies that could go on is the reply. It was asked when the journal was `before`.
abbrev pub CastingIsRight : Type 0
CastingIsRight =
    (p : Point) (s : Scene) (most : ℕ) (from : Option ℕ) (k : Hand) (r : Reference) (i before j : Journal) (a : ℕ)
    (reply : Reply)
    → (on : GoesOn p s k r i) → In a r.agents → is_service unable_to_proceed reply ≡ false
    → Does s most (Casts from k r reply) i j → Keeps p s most k i j
    → TakenRight p s most (serving_of before k on.at_hand.line.number) from k (record r { agents = a ∷ [] }) j
    (Hears reply)
    ⊎ IsSpentReply most j (Hears reply)
    → IsRightFor p s most k on.at_hand.line.number i j reply

-- 3. Where all of them were heard, and hold nothing that goes as far, the tree has no such entry.
abbrev pub NobodyIsRight : Type 0
NobodyIsRight =
    (p : Point) (s : Scene) (most : ℕ) (k : Hand) (r : Reference) (i j : Journal)
    → (on : GoesOn p s k r i) → IsAgent p k.receiver → is_wide r.kind ≡ true
    → Keeps p s most k i j → NotedSoFar s k r j r.agents []
    → IsRightFor p s most k on.at_hand.line.number i j (Failed (NoSuchObject (above_next r)))

-- 4. Where some weren't heard, it is unavailable by the reference with these.
abbrev pub SilenceIsRight : Type 0
SilenceIsRight =
    (p : Point) (s : Scene) (most : ℕ) (from : Option ℕ) (k : Hand) (r : Reference) (i j : Journal) (noted : List ℕ)
    → (on : GoesOn p s k r i) → is_wide r.kind ≡ true → Once r.agents
    → Does s most (Spreads from k r r.agents noted) i j → Keeps p s most k i j
    → is_empty noted ≡ false → NotedSoFar s k r j r.agents noted
    → IsRightFor p s most k on.at_hand.line.number i j (is_unavailable (of_these noted r))
