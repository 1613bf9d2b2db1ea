-- What is right for a message that was passed on is right for the message for which it was sent (X.518, sections 18 and
-- 20: name resolution and continuation references).
use Rattle.std.specs.Prelude.{◌≡◌, ℕ, ◌==◌, ◌⊎◌, ◌||◌, Bool, true, false, List, [], length}
use Rattle.std.specs.declared.option.Option.{Option}
use Rattle.x5_model.specs.Members.{In}
use Rattle.x5_model.specs.Keys.{Key}
use Rattle.x5_model.specs.Values.{key_of}
use Rattle.x5_model.specs.References.{Reference}
use Rattle.x5_model.specs.Answers.{Answer, DirError, Reply, Answered}
use Rattle.x5_model.specs.Problems.{unavailable, unable_to_proceed, administrative_limit_exceeded}
use Rattle.x5_model_tree.specs.Tree.{Tree}
use Rattle.x5_model_tree.specs.Ask.{is_update}
use Rattle.x5_model_run.specs.Journal.{Line, Journal, is_done, is_wide}
use Rattle.x5_model_run.specs.Needs.{is_unable}
use Rattle.x5_model_run.specs.History.{Point, knowledge_at, tree_at, holdings_at}
use Rattle.x5_model_run.specs.Chain.{Scene, AllLicensed, IsCarried}
use Rattle.x5_model_run.specs.Covers.{touched, told}
use Rattle.x5_model_run.specs.Blocked.{hears_by, IsLost}
use Rattle.x5_model_run.specs.Right.{IsResult, heard_whole, is_told}
use Rattle.x5_model_replies.specs.Replies.{RightReply}
use Rattle.x5_model_serve.specs.Finding.{Onward, IsLooked, find}
use Rattle.x5_model_serve.specs.Answering.{is_service}
use Rattle.x5_model_serve.specs.Serving.{hand_of, line_for, is_final, is_spent}
use Rattle.x5_model_serve.specs.Claims.{Setting, Accepted, LiesWithin, asked_line}
use Rattle.x5_model_replies.specs.Heard.{HeardRight}

-- The receiver of the line l finds that the name goes on by this reference, and k carried it on to one of the
-- reference's agents. The lines are licensed, so no two have one number.
pub record PassedOn (p : Point) (s : Scene) (l k : Line) (from : Option ℕ) (r : Reference)
    (lines : List Line) : Type 0 where
  pub setting : Setting p s
  pub licensed : AllLicensed s lines
  pub stands : In l lines
  pub looked : IsLooked l.message
  pub found : find (holdings_at p l.receiver) l.message ≡ Onward r
  pub agent : In k.receiver r.agents
  pub carried : IsCarried from (line_for (hand_of l)) r k.message

-- both lines ask the same: the request, the name by its key, the contexts that are looked into, what a tree tells; and
-- a name that is completed for one is so for the other, and didn't come by a nonSpecific reference
pub record IsSame (p : Point) (l k : Line) : Type 0 where
  pub request : k.message.request ≡ l.message.request
  pub target : key_of k.message.target ≡ key_of l.message.target
  pub phase : is_done k.message.progress ≡ is_done l.message.progress
  pub narrow : is_done l.message.progress ≡ true → is_wide l.message.kind ≡ false
  pub looks :
      touched (knowledge_at p) (tree_at p) k.receiver k.message
      ≡ touched (knowledge_at p) (tree_at p) l.receiver l.message
  pub tells : (copies : Key → Bool) (t : Tree) → told copies t k.message ≡ told copies t l.message

-- What was passed on asks the same; and who passed it on could proceed.
abbrev pub SameIsAsked : Type 0
SameIsAsked =
    (p : Point) (s : Scene) (l k : Line) (from : Option ℕ) (r : Reference) (lines : List Line)
    → PassedOn p s l k from r lines → IsSame p l k × (is_unable (s.holdings l.receiver) l.message ≡ false)

-- the line k came back to the line l
abbrev pub IsBack : Line → Line → ℕ → List Line → Type 0
IsBack l k stood lines = hears_by (λ x. x.number == k.number) (asked_line l stood) lines ≡ true

-- 1. A result with nothing left to be followed.
abbrev pub ResultPassesBack : Type 0
ResultPassesBack =
    (p : Point) (s : Scene) (l k : Line) (from : Option ℕ) (r : Reference) (lines : List Line) (stood at : ℕ)
    (a : Answer)
    → PassedOn p s l k from r lines → IsBack l k stood lines → is_final (Answered a) ≡ true
    → IsResult p s (asked_line k at) lines a → IsResult p s (asked_line l stood) lines a

-- 2. Who knows of an error was heard.
abbrev pub ErrorPassesBack : Type 0
ErrorPassesBack =
    (p : Point) (s : Scene) (l k : Line) (from : Option ℕ) (r : Reference) (lines : List Line) (stood at : ℕ)
    (x : DirError)
    → PassedOn p s l k from r lines → IsBack l k stood lines
    → is_told p s (asked_line k at) lines x ≡ true → is_told p s (asked_line l stood) lines x ≡ true

-- 3. What was lost.
abbrev pub LossPassesBack : Type 0
LossPassesBack =
    (p : Point) (s : Scene) (l k : Line) (from : Option ℕ) (r : Reference) (lines : List Line) (stood at : ℕ)
    (u : Reference)
    → PassedOn p s l k from r lines → IsBack l k stood lines
    → IsLost s (asked_line k at) lines u → IsLost s (asked_line l stood) lines u

-- What is left out of the reply lies within what the message looks into.
abbrev pub WithinPassesBack : Type 0
WithinPassesBack =
    (p : Point) (s : Scene) (l k : Line) (from : Option ℕ) (r : Reference) (lines : List Line) (stood at : ℕ)
    (reply : Reply)
    → PassedOn p s l k from r lines → LiesWithin p (asked_line k at) reply → LiesWithin p (asked_line l stood) reply

-- What was accepted since the serving of l began, when so many things stood: by a query nothing; and who says that
-- somebody wasn't heard, or that a limit ended it, accepted nothing, or a reply was lost. What is accepted is right,
-- and only grows.
pub record Meanwhile (p : Point) (s : Scene) (l : Line) (stood : ℕ) (j : Journal) (reply : Reply) : Type 0 where
  pub accepted : Accepted p s j
  pub only_more : j.accepted ≡ [] → stood ≡ 0
  pub reads : is_update l.message.request.body ≡ false → length j.accepted ≡ stood
  pub silent :
      (is_service unavailable reply || is_service administrative_limit_exceeded reply) ≡ true
      → (length j.accepted ≡ stood) ⊎ (heard_whole j.lines ≡ false)

-- 4. So a right reply is passed back. Beside that it is right and came back, three things are needed. The lines are
-- licensed: of two lines with one number, what came back to one need not have come back to the other. No nonSpecific
-- reference brings `unableToProceed`: whoever passed the message on could proceed, so that is no reply of its own. And
-- what is known of acceptances, as the reply is judged by those since k was sent, and l was sent before k: were an
-- update accepted between them by an agent whose reply was lost, a result or an error would be right for k, and not for
-- l.
abbrev pub PassesBack : Type 0
PassesBack =
    (p : Point) (s : Scene) (most : ℕ) (l k : Line) (from : Option ℕ) (r : Reference) (j : Journal) (stood : ℕ)
    (reply : Reply)
    → PassedOn p s l k from r j.lines → Meanwhile p s l stood j reply
    → (is_wide r.kind ≡ true → is_service unable_to_proceed reply ≡ false)
    → HeardRight p s most (asked_line l stood) j k reply
    → RightReply p s (asked_line l stood) j (is_spent most j) reply
