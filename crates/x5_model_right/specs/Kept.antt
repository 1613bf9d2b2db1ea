-- What holds of journals while a request is served over consistent knowledge, beside what x5_model_serve says of them:
-- which update was accepted for which line, and that nothing is sent for a line that brings it to its agent again.
-- X.518, sections 17 to 21. A journal has the newest line first.
use Rattle.std.specs.Prelude.{◌≡◌, ℕ, ◌<◌, ◌≤◌, ◌⊎◌, Bool, true, false, not, ◌&&◌, IsTrue, List, [], ◌∷◌, length}
use Rattle.std.specs.List.{list_all}
use Rattle.std.specs.declared.option.Option.{Option}
use Rattle.std.specs.declared.option.Option.TheVariants.{Some}
use Rattle.x5_model.specs.Members.{In}
use Rattle.x5_model.specs.References.{Reference}
use Rattle.x5_model.specs.Answers.{Changed, Answered}
use Rattle.x5_model.specs.Problems.{unable_to_proceed}
use Rattle.x5_model_tree.specs.Ask.{is_update}
use Rattle.x5_model_run.specs.Journal.{Line, Journal, depth, same_sender, siblings, some_line, opened_by}
use Rattle.x5_model_run.specs.History.{Point}
use Rattle.x5_model_run.specs.Chain.{Scene, AllLicensed, asks_by}
use Rattle.x5_model_run.specs.Accepting.{carries_update, accepting, is_done_before}
use Rattle.x5_model_run.specs.Right.{is_sent_later, heard_whole}
use Rattle.x5_model_serve.specs.Answering.{is_service}
use Rattle.x5_model_serve.specs.Serving.{Hand, Heard, Unheard, Hears, carried_for, is_spent}
use Rattle.x5_model_serve.specs.Claims.{Setting, depth_at, is_settled_line, last_number, Keeps}
use Rattle.x5_model_verdicts.specs.Verdicts.{JustCame}

-- what all claims rest on: consistent knowledge, and no trace of 128 items, since names have 16 RDNs at most
pub record Ground (p : Point) (s : Scene) : Type 0 where
  pub setting : Setting p s
  pub short : (lines : List Line) (l : Line) → AllLicensed s lines → In l lines → depth l < 128

-- what the reference asks for the opener is an update; that of a probe isn't
abbrev pub asks_update : Option ℕ → Hand → Reference → Bool
asks_update from o r = is_update (carried_for from o r).request.body

-- nothing was sent for a line that brought an update to the agent that had accepted it
abbrev pub AtOnce : Scene → Journal → Type 0
AtOnce s j = IsTrue (not (some_line (is_sent_later s j) j.lines))

-- nothing was accepted meanwhile, and no line since then carries the update
pub record ReadsOnly (s : Scene) (i j : Journal) : Type 0 where
  pub accepted_same : j.accepted ≡ i.accepted
  pub lines : (e : Line) → In e j.lines → In e i.lines ⊎ (carries_update s e ≡ false)

-- What was accepted since then was accepted for a line that is no earlier.
abbrev pub AcceptedSince : Scene → Journal → Journal → Type 0
AcceptedSince s i j =
    (a : ℕ) → In a j.accepted
    → In a i.accepted ⊎ ((e : Line) × (accepting s j.lines a ≡ Some e) × (last_number s i ≤ e.number))

-- What is kept by what is done for a message, where that is an update or isn't.
pub record KeepsAll (p : Point) (s : Scene) (most : ℕ) (k : Hand) (update : Bool) (i j : Journal) : Type 0 where
  pub keeps : Keeps p s most k i j
  pub since : AcceptedSince s i j
  pub at_once : AtOnce s j
  pub reads : update ≡ false → ReadsOnly s i j

-- Before anything is done for the line at hand by a reference. Each line is settled, where an update is sent; nothing
-- is accepted, where none is: then it is a query, or a probe, which goes out before the update is accepted. The line
-- itself doesn't bring its agent an update that it has accepted.
pub record Rests (p : Point) (s : Scene) (most : ℕ) (e : Line) (update : Bool) (i : Journal) : Type 0 where
  pub calm : update ≡ true → is_spent most i ≡ true ⊎ IsTrue (list_all (is_settled_line p s i) i.lines)
  pub none : update ≡ false → i.accepted ≡ []
  pub fresh : is_done_before s i e ≡ false
  pub at_once : AtOnce s i

-- A line has just come, and nothing was done for it yet. What was accepted was accepted for earlier lines.
pub record Comes (p : Point) (s : Scene) (k : Hand) (e : Line) (i : Journal) : Type 0 where
  pub newest : (before : List Line) × (i.lines ≡ e ∷ before)
  pub alone : siblings (depth_at k) i.lines ≡ []
  pub came : is_update k.message.request.body ≡ true → JustCame p s e i
  pub none : is_update k.message.request.body ≡ false → i.accepted ≡ []
  pub earlier : (a : ℕ) → In a i.accepted → (x : Line) × (accepting s i.lines a ≡ Some x) × (x.number < e.number)
  pub at_once : AtOnce s i

-- this agent was asked by the reference for the message of the line of that number, by this sender
abbrev pub is_sent_to : List Line → ℕ → Option ℕ → Reference → ℕ → Bool
is_sent_to lines number from r a =
    some_line (λ x before. asks_by r a x && (same_sender x.sender from && opened_by number before x)) lines

-- a reply of which nothing is said where an update was accepted meanwhile
abbrev pub IsUnsaid : Heard → Type 0
IsUnsaid Unheard = ⊥
IsUnsaid (Hears reply) = is_service unable_to_proceed reply ≡ true

-- where an update was accepted meanwhile, that is what is heard, or some reply was lost
abbrev pub Meanwhile : Journal → Journal → Heard → Type 0
Meanwhile i j h =
    (length j.accepted ≡ length i.accepted)
    ⊎ ((h ≡ Hears (Answered Changed)) ⊎ ((heard_whole j.lines ≡ false) ⊎ IsUnsaid h))
