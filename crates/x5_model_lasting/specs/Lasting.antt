-- What is said of messages and replies stays said where lines are added to a journal (X.518, sections 10 and 17 to 20):
-- who was heard, asked in vain or passed; what is lost; which reply is right; which line is served and settled.
use Rattle.std.specs.Prelude.{◌≡◌, ℕ, ◌≤◌, ◌⊎◌, ◌||◌, Bool, true, false, IsTrue, List, [], ◌∷◌, length}
use Rattle.std.specs.List.{list_all}
use Rattle.std.specs.declared.option.Option.TheVariants.{Some}
use Rattle.x5_model.specs.Members.{In}
use Rattle.x5_model.specs.References.{Reference}
use Rattle.x5_model.specs.Answers.{Answer, Changed, DirError, Reply, Answered}
use Rattle.x5_model.specs.Problems.{unavailable, unable_to_proceed, administrative_limit_exceeded}
use Rattle.x5_model_tree.specs.Ask.{Refuses, is_update}
use Rattle.x5_model_run.specs.Journal.{Line, Journal, some_line}
use Rattle.x5_model_run.specs.History.{Point, tree_at}
use Rattle.x5_model_run.specs.Chain.{Scene, AllLicensed, is_in_vain, is_cleared, is_passed, is_probe_line}
use Rattle.x5_model_run.specs.Accepting.{lacks_probe, accepting, is_done_before}
use Rattle.x5_model_run.specs.Covers.{told}
use Rattle.x5_model_run.specs.Blocked.{Asked, hears_by, IsUntried, IsLost, Blocked}
use Rattle.x5_model_run.specs.Right.{IsResult, is_told, heard_whole}
use Rattle.x5_model_replies.specs.Replies.{RightReply}
use Rattle.x5_model_run.specs.Thorough.{is_served, is_taken, Thorough}
use Rattle.x5_model_serve.specs.Answering.{is_service}
use Rattle.x5_model_serve.specs.Serving.{with_line}
use Rattle.x5_model_serve.specs.Claims.{Grows, Accepted, last_number, is_settled_line, is_served_itself, is_finished}

-- ---- of lines alone, whichever are added
-- Who was heard is heard still, by whatever test: a line that came back has the same lines before it.
abbrev pub HeardStays : Type 0
HeardStays =
    (test : Line → Bool) (q : Asked) (i j : Journal)
    → Grows i j → hears_by test q i.lines ≡ true → hears_by test q j.lines ≡ true

-- So is a line of whose kind there was one, as who was asked by a reference, or sent for a line.
abbrev pub SomeLineStays : Type 0
SomeLineStays =
    (test : Line → List Line → Bool) (i j : Journal)
    → Grows i j → some_line test i.lines ≡ true → some_line test j.lines ≡ true

-- Who was asked in vain, heard and cleared, or passed stays so, for the same opener: a probe that was broken is broken
-- by more lines too.
abbrev pub InVainStays : Type 0
InVainStays =
    (s : Scene) (o : Line) (r : Reference) (a : ℕ) (i j : Journal)
    → Grows i j → is_in_vain s i.lines o r a ≡ true → is_in_vain s j.lines o r a ≡ true

abbrev pub ClearedStays : Type 0
ClearedStays =
    (s : Scene) (number : ℕ) (r : Reference) (a : ℕ) (i j : Journal)
    → Grows i j → is_cleared s i.lines number r a ≡ true → is_cleared s j.lines number r a ≡ true

abbrev pub PassedStays : Type 0
PassedStays =
    (s : Scene) (o : Line) (r : Reference) (a : ℕ) (i j : Journal)
    → Grows i j → is_passed s i.lines o r a ≡ true → is_passed s j.lines o r a ≡ true

-- A needed reference that was taken for a line is taken still.
abbrev pub TakenStays : Type 0
TakenStays =
    (s : Scene) (l : Line) (r : Reference) (i j : Journal)
    → Grows i j → is_taken s i.lines l r ≡ true → is_taken s j.lines l r ≡ true

-- What blocks a reference blocks it still.
abbrev pub UntriedStays : Type 0
UntriedStays =
    (s : Scene) (q : Asked) (r : Reference) (i j : Journal)
    → Grows i j → IsUntried s q i.lines r → IsUntried s q j.lines r

abbrev pub LostStays : Type 0
LostStays =
    (s : Scene) (q : Asked) (r : Reference) (i j : Journal) → Grows i j → IsLost s q i.lines r → IsLost s q j.lines r

abbrev pub BlockedStays : Type 0
BlockedStays =
    (s : Scene) (q : Asked) (r : Reference) (i j : Journal) → Grows i j → Blocked s q i.lines r → Blocked s q j.lines r

-- A result stays one, and so does who tells of an error.
abbrev pub ResultStays : Type 0
ResultStays =
    (p : Point) (s : Scene) (q : Asked) (a : Answer) (i j : Journal)
    → Grows i j → IsResult p s q i.lines a → IsResult p s q j.lines a

abbrev pub TellerStays : Type 0
TellerStays =
    (p : Point) (s : Scene) (q : Asked) (x : DirError) (i j : Journal)
    → Grows i j → is_told p s q i.lines x ≡ true → is_told p s q j.lines x ≡ true

-- ---- replies
-- Replies that say nothing of acceptance once a reply was lost, as `unavailable` or a limit; or never, as that the
-- receiver is unable to proceed.
abbrev pub IsSilent : Reply → Journal → Type 0
IsSilent reply j =
    (((is_service unavailable reply || is_service administrative_limit_exceeded reply) ≡ true)
    × (heard_whole j.lines ≡ false))
    ⊎ (is_service unable_to_proceed reply ≡ true)

-- What a right reply says of acceptance stays: as many accepted; or an update is answered `changed`, which says that
-- somebody did; or the reply says nothing of it, and the tree has no error for the message, as once an update was
-- accepted. A result, an error or a referral that was right is right no longer where one more accepts.
abbrev pub Unaltered : Point → Asked → Reply → Journal → Journal → Type 0
Unaltered p q reply i j =
    (length j.accepted ≡ length i.accepted)
    ⊎ (((reply ≡ Answered Changed) × (is_update q.message.request.body ≡ true))
    ⊎ (IsSilent reply j × ((x : DirError) → told (λ key. false) (tree_at p) q.message ≡ Refuses x → ⊥)))

-- What is right stays right where a line is added.
abbrev pub RightStays : Type 0
RightStays =
    (p : Point) (s : Scene) (q : Asked) (j : Journal) (l : Line) (spent : Bool) (reply : Reply)
    → RightReply p s q j spent reply → RightReply p s q (record j { lines = l ∷ j.lines }) spent reply

-- A right reply stays right where lines are added, and accepting agents, if what it says of these stays. With the same
-- accepting agents no more is asked (`RightStays` is this for one line): that a reply was lost meanwhile excuses
-- `unavailable` and a limit, and that messages ran out excuses more.
abbrev pub RightLasts : Type 0
RightLasts =
    (p : Point) (s : Scene) (q : Asked) (reply : Reply) (spent later : Bool) (i j : Journal)
    → Grows i j → ((a : ℕ) → In a i.accepted → In a j.accepted) → (spent ≡ true → later ≡ true)
    → Unaltered p q reply i j → RightReply p s q i spent reply → RightReply p s q j later reply

-- ---- who accepts
-- An agent's accepting line is the first that may accept. It stays where no line that is added is an unheard probe
-- below it: more lines can only hinder the lines before it.
abbrev pub AcceptingStays : Type 0
AcceptingStays =
    (s : Scene) (a : ℕ) (e : Line) (i j : Journal)
    → Grows i j → accepting s i.lines a ≡ Some e → some_line (lacks_probe s e.number) j.lines ≡ false
    → accepting s j.lines a ≡ Some e

-- what is accepted is accepted by the same lines
abbrev pub SameLines : Scene → Journal → Journal → Type 0
SameLines s i j = (a : ℕ) → In a i.accepted → accepting s j.lines a ≡ accepting s i.lines a

-- So one line more leaves them, if it is no probe's or nothing is accepted. Of a probe's line the scene must tell that
-- nothing is: no licence says that what is sent below a probe comes before its update is accepted.
abbrev pub LineLeavesThem : Type 0
LineLeavesThem =
    (p : Point) (s : Scene) (l : Line) (i : Journal)
    → Accepted p s i → is_probe_line s l ≡ false ⊎ (i.accepted ≡ []) → SameLines s i (with_line l i)

-- Lines are in front, nothing that was accepted is gone, and it was accepted by the same lines.
pub record Lasts (s : Scene) (i j : Journal) : Type 0 where
  pub grows : Grows i j
  pub only_more : (a : ℕ) → In a i.accepted → In a j.accepted
  pub same_line : SameLines s i j

-- What was accepted stays right where nobody else accepts.
abbrev pub AcceptedStays : Type 0
AcceptedStays =
    (p : Point) (s : Scene) (i j : Journal)
    → Grows i j → j.accepted ≡ i.accepted → SameLines s i j → Accepted p s i → Accepted p s j

-- ---- what is finished
-- Whose update was done before, and what is served, is so still, if accepting lines stay.
abbrev pub DoneStays : Type 0
DoneStays =
    (s : Scene) (l : Line) (i j : Journal) → Lasts s i j → is_done_before s i l ≡ true → is_done_before s j l ≡ true

abbrev pub ServedStays : Type 0
ServedStays = (s : Scene) (l : Line) (i j : Journal) → Lasts s i j → is_served s i l ≡ true → is_served s j l ≡ true

abbrev pub ServedItselfStays : Type 0
ServedItselfStays =
    (s : Scene) (l : Line) (i j : Journal) → Lasts s i j → is_served_itself s i l ≡ true → is_served_itself s j l ≡ true

-- Whose update wasn't done before is so still, if who accepts meanwhile does it by a line that is no earlier.
abbrev pub NotDoneStays : Type 0
NotDoneStays =
    (s : Scene) (l : Line) (i j : Journal)
    → SameLines s i j
    → ((a : ℕ) → In a j.accepted
    → In a i.accepted ⊎ ((e : Line) × (accepting s j.lines a ≡ Some e) × (l.number ≤ e.number)))
    → is_done_before s i l ≡ false → is_done_before s j l ≡ false

-- A settled line is settled still: more lines only hinder it to accept. Which lines accept is nothing to it.
abbrev pub SettledStays : Type 0
SettledStays =
    (p : Point) (s : Scene) (l : Line) (i j : Journal)
    → Grows i j → ((a : ℕ) → In a i.accepted → In a j.accepted)
    → is_settled_line p s i l ≡ true → is_settled_line p s j l ≡ true

-- Lines with a number above n that were finished are so still: with those finished that were added, all are. Those have
-- higher numbers, since they are licensed.
abbrev pub FinishedStays : Type 0
FinishedStays =
    (p : Point) (s : Scene) (n : ℕ) (i j : Journal)
    → Lasts s i j → AllLicensed s j.lines → IsTrue (is_finished p s i n) → IsTrue (is_finished p s j (last_number s i))
    → IsTrue (is_finished p s j n)

-- So a journal that is thorough is so still, if each line that is added is served.
abbrev pub ThoroughStays : Type 0
ThoroughStays =
    (s : Scene) (i j : Journal)
    → Lasts s i j → ((l : Line) → In l j.lines → In l i.lines ⊎ (is_served s j l ≡ true)) → Thorough s i → Thorough s j

-- Where all lines since the request began are finished, the journal is thorough, and each line is settled.
abbrev pub FinishedIsThorough : Type 0
FinishedIsThorough =
    (p : Point) (s : Scene) (j : Journal)
    → AllLicensed s j.lines → IsTrue (is_finished p s j s.sent)
    → Thorough s j × IsTrue (list_all (is_settled_line p s j) j.lines)
