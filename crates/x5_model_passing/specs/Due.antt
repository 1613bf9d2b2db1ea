-- Which line an update is due for: one that finds its target (X.518, section 19.1). Of any other, nothing is left to be
-- accepted.
use Rattle.std.specs.Prelude.{◌≡◌, ℕ, true, false}
use Rattle.std.specs.declared.option.Option.{Option}
use Rattle.x5_model.specs.Members.{In}
use Rattle.x5_model.specs.References.{Reference}
use Rattle.x5_model_run.specs.Journal.{Line, Journal}
use Rattle.x5_model_run.specs.Holdings.{Held}
use Rattle.x5_model_run.specs.History.{Point, holdings_at}
use Rattle.x5_model_run.specs.Chain.{Scene, AllLicensed}
use Rattle.x5_model_run.specs.Placed.{Placed}
use Rattle.x5_model_serve.specs.Finding.{Here, IsLooked, find}
use Rattle.x5_model_serve.specs.Serving.{Hand, hand_of, carried_for, is_too_long}
use Rattle.x5_model_serve.specs.Claims.{Setting, is_due_line, is_settled_line}
use Rattle.x5_model_passing.specs.Taking.{GoesOn}

-- a line of a licensed journal whose message is looked at where it was brought
pub record IsLookedAt (p : Point) (s : Scene) (l : Line) (j : Journal) : Type 0 where
  pub setting : Setting p s
  pub licensed : AllLicensed s j.lines
  pub stands : In l j.lines
  pub placed : Placed p l.message l.receiver
  pub short : is_too_long (hand_of l) ≡ false
  pub looked : IsLooked l.message

-- Where the update is due, its target is found in a context of the agent's own.
abbrev pub DueIsHere : Type 0
DueIsHere =
    (p : Point) (s : Scene) (l : Line) (j : Journal)
    → IsLookedAt p s l j → is_due_line p s j l ≡ true
    → (c : Held) × (find (holdings_at p l.receiver) l.message ≡ Here c)

-- So where anything else is found, the line is settled.
abbrev pub OthersAreSettled : Type 0
OthersAreSettled =
    (p : Point) (s : Scene) (l : Line) (j : Journal)
    → IsLookedAt p s l j → ((c : Held) → find (holdings_at p l.receiver) l.message ≡ Here c → ⊥)
    → is_settled_line p s j l ≡ true

-- What is carried on by the reference of name resolution is the same request: an update where that is one.
abbrev pub CarriedIsSame : Type 0
CarriedIsSame =
    (p : Point) (s : Scene) (from : Option ℕ) (k : Hand) (r : Reference) (i : Journal) (a : ℕ)
    → GoesOn p s k r i → In a r.agents → (carried_for from k r).request ≡ k.message.request
