-- What the judge of an update answers is right: refused by its own ground, accepted without probes or after them, and
-- where probes weren't heard or found the new name (X.511, section 11; X.518, section 19.1).
use Rattle.std.specs.Prelude.{◌≡◌, ℕ, ◌<◌, Bool, false, IsTrue, List, [], ◌∷◌}
use Rattle.std.specs.List.{list_all}
use Rattle.std.specs.declared.option.Option.TheVariants.{Some}
use Rattle.std.specs.declared.result.Result.TheVariants.{Ok, Err}
use Rattle.x5_model.specs.Words.{is_empty}
use Rattle.x5_model.specs.Members.{In, Once}
use Rattle.x5_model.specs.Entries.{Named}
use Rattle.x5_model.specs.References.{Reference}
use Rattle.x5_model.specs.Answers.{Answer, Changed, DirError, UpdateProblem, Answered, Failed}
use Rattle.x5_model.specs.Problems.{entry_already_exists, unavailable, unable_to_proceed}
use Rattle.x5_model_run.specs.Journal.{Line, Journal, depth}
use Rattle.x5_model_run.specs.Needs.{due_probes}
use Rattle.x5_model_run.specs.History.{Point}
use Rattle.x5_model_run.specs.Chain.{Scene}
use Rattle.x5_model_replies.specs.Replies.{RightReply}
use Rattle.x5_model_serve.specs.Answering.{is_service, of_these, is_unavailable}
use Rattle.x5_model_serve.specs.Serving.{Hand, Heard, Sends, Hears, Does, Probes, with_accepted, holds_now, judged}
use Rattle.x5_model_serve.specs.Serving.{is_spent}
use Rattle.x5_model_serve.specs.Claims.{Setting, Accepted, Keeps, NotedSoFar, AtMaster, is_settled_line}
use Rattle.x5_model_replies.specs.Heard.{TakenRight}
use Rattle.x5_model_serve.specs.Claims.{serving_of}

-- Nothing was accepted before.
abbrev pub NoneAccepted : Type 0
NoneAccepted = (p : Point) (s : Scene) (k : Hand) (i : Journal) → Setting p s → AtMaster p s k i → i.accepted ≡ []

-- 1. What its own ground refuses is the tree's error.
abbrev pub RefusalIsRight : Type 0
RefusalIsRight =
    (p : Point) (s : Scene) (k : Hand) (i : Journal) (x : DirError) (spent : Bool)
    → Setting p s → (at : AtMaster p s k i) → judged s i k ≡ Err x
    → RightReply p s (serving_of i k at.at_hand.line.number) i spent (Failed x)

-- The line has just come: it is the newest, and each line before it is settled: it may not accept the update, or what
-- it brought was refused, or something was accepted. So it is the accepting line, the first that may accept, if the
-- tree doesn't refuse the update and nothing was accepted before.
pub record JustCame (p : Point) (s : Scene) (l : Line) (i : Journal) : Type 0 where
  pub before : List Line
  pub newest : i.lines ≡ l ∷ before
  pub all_settled : IsTrue (list_all (is_settled_line p s i) before)

-- 2. It accepts where no probe is due,
abbrev pub AloneIsRight : Type 0
AloneIsRight =
    (p : Point) (s : Scene) (k : Hand) (i : Journal) (mine : List Named) (spent : Bool)
    → Setting p s → (at : AtMaster p s k i) → JustCame p s at.at_hand.line i
    → judged s i k ≡ Ok mine → due_probes (holds_now s i k) k.message ≡ []
    → RightReply p s (serving_of i k at.at_hand.line.number) (with_accepted k.receiver i) spent (Answered Changed)
    × Accepted p s (with_accepted k.receiver i)

-- 3. and where each agent that a probe goes to was heard, and goes no further.
abbrev pub ProbedIsRight : Type 0
ProbedIsRight =
    (p : Point) (s : Scene) (most : ℕ) (k : Hand) (i j : Journal) (mine : List Named) (r : Reference) (spent : Bool)
    → Setting p s → (at : AtMaster p s k i) → JustCame p s at.at_hand.line i
    → judged s i k ≡ Ok mine → due_probes (holds_now s i k) k.message ≡ r ∷ []
    → Keeps p s most k i j → j.accepted ≡ i.accepted → NotedSoFar s k r j r.agents []
    → RightReply p s (serving_of i k at.at_hand.line.number) (with_accepted k.receiver j) spent (Answered Changed)
    × Accepted p s (with_accepted k.receiver j)

-- 4. Where some weren't heard, the update is unavailable by the reference to these.
abbrev pub MissedIsRight : Type 0
MissedIsRight =
    (p : Point) (s : Scene) (most : ℕ) (k : Hand) (i j : Journal) (r : Reference) (noted : List ℕ) (spent : Bool)
    → Setting p s → (at : AtMaster p s k i) → due_probes (holds_now s i k) k.message ≡ r ∷ [] → Once r.agents
    → Does s most (Probes k r r.agents noted) i j → Keeps p s most k i j → j.accepted ≡ i.accepted
    → is_empty noted ≡ false → NotedSoFar s k r j r.agents noted
    → RightReply p s (serving_of i k at.at_hand.line.number) j spent (is_unavailable (of_these noted r))

-- 5. Where a probe's answer has the new name, it is an entry already.
abbrev pub TakenIsRight : Type 0
TakenIsRight =
    (p : Point) (s : Scene) (most : ℕ) (k : Hand) (i j : Journal) (mine : List Named) (r : Reference) (a : ℕ)
    (found : Answer) (spent : Bool)
    → Setting p s → (at : AtMaster p s k i) → judged s i k ≡ Ok mine
    → due_probes (holds_now s i k) k.message ≡ r ∷ [] → Keeps p s most k i j → j.accepted ≡ i.accepted
    → TakenRight p s most (serving_of i k at.at_hand.line.number) (Some k.receiver) k (record r { agents = a ∷ [] }) j
    (Hears (Answered found))
    → RightReply p s (serving_of i k at.at_hand.line.number) j spent (Failed (UpdateProblem entry_already_exists))

-- 6. Any other error that a probe brings is a limit, where no trace is long: messages ran out, and nothing is accepted.
abbrev pub BreakIsRight : Type 0
BreakIsRight =
    (p : Point) (s : Scene) (most : ℕ) (k : Hand) (i j : Journal) (r : Reference) (a : ℕ) (x : DirError)
    → Setting p s → (at : AtMaster p s k i) → due_probes (holds_now s i k) k.message ≡ r ∷ []
    → is_service unable_to_proceed (Failed x) ≡ false → is_service unavailable (Failed x) ≡ false
    → ((e : Line) → In e j.lines → depth e < 128) → Keeps p s most k i j → j.accepted ≡ i.accepted
    → TakenRight p s most (serving_of i k at.at_hand.line.number) (Some k.receiver) k (record r { agents = a ∷ [] }) j
    (Hears (Failed x))
    → RightReply p s (serving_of i k at.at_hand.line.number) j (is_spent most j) (Failed x)

-- While probes are sent nothing is accepted.
abbrev pub ProbesAcceptNone : Type 0
ProbesAcceptNone =
    (p : Point) (s : Scene) (most : ℕ) (k : Hand) (i j l : Journal) (r : Reference)
    → Setting p s → AtMaster p s k i → due_probes (holds_now s i k) k.message ≡ r ∷ []
    → ((agents noted : List ℕ) → Does s most (Probes k r agents noted) j l → l.accepted ≡ j.accepted)
    × ((a : ℕ) (heard : Heard) → Does s most (Sends (Some k.receiver) k r a heard) j l → l.accepted ≡ j.accepted)
