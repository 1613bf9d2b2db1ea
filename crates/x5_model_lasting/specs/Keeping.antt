-- What an induction over all that is done carries from one act to the next, each where something was done between
-- them (X.518, sections 17 to 21).
use Rattle.std.specs.Prelude.{◌≡◌, ℕ, ◌⊎◌, true, IsTrue, List, [], ◌∷◌, ◌++◌}
use Rattle.std.specs.List.{list_all}
use Rattle.std.specs.declared.option.Option.{Option}
use Rattle.std.specs.declared.option.Option.TheVariants.{Some}
use Rattle.x5_model.specs.Words.{first_of}
use Rattle.x5_model.specs.Members.{In}
use Rattle.x5_model.specs.References.{Reference}
use Rattle.x5_model.specs.Answers.{Reply}
use Rattle.x5_model_tree.specs.Ask.{is_update}
use Rattle.x5_model_run.specs.Network.{Lost}
use Rattle.x5_model_run.specs.Journal.{Line, Journal, settled, siblings}
use Rattle.x5_model_run.specs.Needs.{needs}
use Rattle.x5_model_run.specs.History.{Point}
use Rattle.x5_model_run.specs.Chain.{Scene, AllLicensed, IsCarried, is_passed}
use Rattle.x5_model_run.specs.Blocked.{Asked}
use Rattle.x5_model_run.specs.Thorough.{is_served}
use Rattle.x5_model_serve.specs.Serving.{Hand, hand, line_for, carried_for, next_line, with_line, with_accepted}
use Rattle.x5_model_serve.specs.Serving.{is_spent}
use Rattle.x5_model_serve.specs.Claims.{Grows, asked_line, is_settled_line, Accepted, depth_at, AtHand, Keeps, MayTake}
use Rattle.x5_model_serve.specs.Claims.{Apart, AskedSoFar, NotedSoFar, OnlyBy, AtMaster}
use Rattle.x5_model_replies.specs.Heard.{HeardRight}
use Rattle.x5_model_lasting.specs.Lasting.{Unaltered, SameLines, Lasts}

-- the line of the message at hand
abbrev pub IsLineOf : Hand → Journal → Line → Type 0
IsLineOf k i e = first_of (settled (depth_at k) i.lines) ≡ Some e

-- what stands above the message of an opener is the same
abbrev pub SameAbove : Hand → Journal → Journal → Type 0
SameAbove o i j = settled (depth_at o) j.lines ≡ settled (depth_at o) i.lines

-- ---- what was so before is so after
-- Whatever keeps what is kept leaves accepting lines.
abbrev pub KeepsLasts : Type 0
KeepsLasts = (p : Point) (s : Scene) (most : ℕ) (k : Hand) (i j : Journal) → Keeps p s most k i j → Lasts s i j

-- Messages that ran out are out.
abbrev pub SpentStays : Type 0
SpentStays = (most : ℕ) (i j : Journal) → Grows i j → is_spent most i ≡ true → is_spent most j ≡ true

-- The message at hand is at hand by the same line.
abbrev pub AtHandStays : Type 0
AtHandStays =
    (p : Point) (s : Scene) (most : ℕ) (o : Hand) (i j : Journal)
    → (at : AtHand p s o i) → Keeps p s most o i j → (later : AtHand p s o j) × (later.line ≡ at.line)

-- An update at hand is so, where nothing was accepted meanwhile: else its agent may have accepted it.
abbrev pub AtMasterStays : Type 0
AtMasterStays =
    (p : Point) (s : Scene) (most : ℕ) (k : Hand) (i j : Journal)
    → (at : AtMaster p s k i) → Keeps p s most k i j → j.accepted ≡ i.accepted
    → (later : AtMaster p s k j) × (later.at_hand.line ≡ at.at_hand.line)

-- Who may send by a reference may do so.
abbrev pub MayTakeStays : Type 0
MayTakeStays =
    (s : Scene) (from : Option ℕ) (o : Hand) (r : Reference) (i j : Journal)
    → SameAbove o i j → MayTake s from o r i → MayTake s from o r j

-- Agents of a reference that were passed are passed; that no others were asked stays so if each line that was sent
-- meanwhile for the opener went to one of these, or asked something else.
abbrev pub AskedStays : Type 0
AskedStays =
    (s : Scene) (o : Hand) (r : Reference) (agents : List ℕ) (i j : Journal)
    → Grows i j → SameAbove o i j
    → ((l : Line) → In l (siblings (depth_at o) j.lines)
    → In l (siblings (depth_at o) i.lines)
    ⊎ (In l.receiver r.agents → IsCarried l.sender (line_for o) r l.message → In l.receiver agents))
    → AskedSoFar s o r i agents → AskedSoFar s o r j agents

-- So it is where other needed references were asked, since these ask others, or ask something else.
abbrev pub AskedApart : Type 0
AskedApart =
    (s : Scene) (o : Hand) (r : Reference) (rs : List Reference) (agents : List ℕ) (i j : Journal)
    → Grows i j → SameAbove o i j → OnlyBy o rs i j → Apart (needs (s.holdings o.receiver) o.message)
    → In r (needs (s.holdings o.receiver) o.message)
    → ((q : Reference) → In q rs → In q (needs (s.holdings o.receiver) o.message)) → (In r rs → ⊥)
    → AskedSoFar s o r i agents → AskedSoFar s o r j agents

-- Of the agents of an NSSR those that are noted were asked in vain, and the others are cleared, whoever is asked next.
abbrev pub NotedStays : Type 0
NotedStays =
    (s : Scene) (o : Hand) (r : Reference) (agents noted : List ℕ) (i j : Journal)
    → Grows i j → SameAbove o i j → NotedSoFar s o r i agents noted → NotedSoFar s o r j agents noted

-- A reply that was heard is right and heard, if what it says of acceptance stays.
abbrev pub ReplyStays : Type 0
ReplyStays =
    (p : Point) (s : Scene) (most : ℕ) (q : Asked) (k : Line) (reply : Reply) (i j : Journal)
    → Grows i j → ((a : ℕ) → In a i.accepted → In a j.accepted) → (h : HeardRight p s most q i k reply)
    → Unaltered p (asked_line k h.stood) reply i j → HeardRight p s most q j k reply

-- Where each line was settled, each is: those since then are finished.
abbrev pub CalmStays : Type 0
CalmStays =
    (p : Point) (s : Scene) (most : ℕ) (k : Hand) (i j : Journal)
    → Keeps p s most k i j
    → is_spent most i ≡ true ⊎ IsTrue (list_all (is_settled_line p s i) i.lines)
    → is_spent most j ≡ true ⊎ IsTrue (list_all (is_settled_line p s j) j.lines)

-- ---- what is kept
-- Where nothing is done all is kept.
abbrev pub KeepsItself : Type 0
KeepsItself =
    (p : Point) (s : Scene) (most : ℕ) (k : Hand) (j : Journal)
    → AllLicensed s j.lines → Accepted p s j → Keeps p s most k j j

-- What is kept by two things that are done, one after the other, is kept by both together, for an update too: that
-- more is accepted meanwhile takes away nothing that was finished.
abbrev pub KeepsBoth : Type 0
KeepsBoth =
    (p : Point) (s : Scene) (most : ℕ) (k : Hand) (i j l : Journal)
    → Keeps p s most k i j → Keeps p s most k j l → Keeps p s most k i l

-- A message that is lost keeps all for its opener.
abbrev pub KeepsLost : Type 0
KeepsLost =
    (p : Point) (s : Scene) (most : ℕ) (from : Option ℕ) (o : Hand) (r : Reference) (a : ℕ) (i : Journal)
    → (next_line s i from o r a).fate ≡ Lost → AllLicensed s (next_line s i from o r a ∷ i.lines)
    → Accepted p s i → SameLines s i (with_line (next_line s i from o r a) i)
    → Keeps p s most o i (with_line (next_line s i from o r a) i)

-- So does one that arrives, with all that is done for it, if that keeps what is kept for its receiver, and its own line
-- is served and settled in the end.
abbrev pub KeepsSent : Type 0
KeepsSent =
    (p : Point) (s : Scene) (most : ℕ) (from : Option ℕ) (o : Hand) (r : Reference) (a : ℕ) (i j : Journal)
    → SameLines s i (with_line (next_line s i from o r a) i)
    → Keeps p s most (hand a (carried_for from o r)) (with_line (next_line s i from o r a) i) j
    → is_spent most j ≡ true
    ⊎ (IsTrue (is_served s j (next_line s i from o r a)) × IsTrue (is_settled_line p s j (next_line s i from o r a)))
    → Keeps p s most o i j

-- And so does an agent that accepts an update in the end, if that is right.
abbrev pub KeepsAccepting : Type 0
KeepsAccepting =
    (p : Point) (s : Scene) (most : ℕ) (k : Hand) (a : ℕ) (i j : Journal)
    → is_update k.message.request.body ≡ true → Accepted p s (with_accepted a j)
    → Keeps p s most k i j → Keeps p s most k i (with_accepted a j)

-- ---- what was sent
-- A message by a reference was sent to one more agent, which is passed in the end.
abbrev pub AskedSent : Type 0
AskedSent =
    (s : Scene) (from : Option ℕ) (o : Hand) (r : Reference) (a : ℕ) (before : List ℕ) (i j : Journal)
    → Grows (with_line (next_line s i from o r a) i) j
    → SameAbove (hand a (carried_for from o r)) (with_line (next_line s i from o r a) i) j
    → ((e : Line) → IsLineOf o j e → is_passed s j.lines e r a ≡ true)
    → AskedSoFar s o r i before → AskedSoFar s o r j (before ++ a ∷ [])

-- It is the one line that was sent for its opener.
abbrev pub OnlyOneSent : Type 0
OnlyOneSent =
    (s : Scene) (from : Option ℕ) (o : Hand) (r : Reference) (a : ℕ) (i j : Journal)
    → In a r.agents → SameAbove (hand a (carried_for from o r)) (with_line (next_line s i from o r a) i) j
    → OnlyBy o (r ∷ []) i j

-- What was sent by some references, and then by others, was sent by all of these.
abbrev pub OnlyByBoth : Type 0
OnlyByBoth =
    (o : Hand) (rs more all : List Reference) (i j l : Journal)
    → ((r : Reference) → In r rs ⊎ In r more → In r all) → OnlyBy o rs i j → OnlyBy o more j l → OnlyBy o all i l
