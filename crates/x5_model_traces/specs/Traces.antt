-- How many messages a request takes, and what their traces say, over any knowledge (X.518, section 10: trace
-- information). A journal has the newest line first.
use Rattle.std.specs.Prelude.{◌≡◌, ℕ, ◌+◌, ◌≤◌, true, List, [], ◌∷◌, ◌++◌, length}
use Rattle.x5_model.specs.Words.{distinct}
use Rattle.x5_model.specs.Members.{In}
use Rattle.x5_model.specs.References.{Chained}
use Rattle.x5_model.specs.Answers.{Reply}
use Rattle.x5_model_run.specs.Network.{arrives}
use Rattle.x5_model_run.specs.Journal.{Line, Journal, depth, item_of, same_item}
use Rattle.x5_model_run.specs.Chain.{Scene}
use Rattle.x5_model_serve.specs.Serving.{IsRequest}

-- a trace of 128 items at most
abbrev pub IsShort : Chained → Type 0
IsShort m = length m.trace ≤ 128

-- no item of the trace is the same as a later one
abbrev pub HasOnce : Chained → Type 0
HasOnce m = distinct same_item m.trace ≡ true

-- The line is sent for the message that an earlier line brought to its receiver, the owner: its trace is that one's with
-- the owner's item behind it, so t is one more.
pub record IsBehind (before : List Line) (l : Line) : Type 0 where
  pub opener : Line
  pub stands : In opener before
  pub arrived : arrives opener.fate ≡ true
  pub trace_is : l.message.trace ≡ opener.message.trace ++ item_of opener.receiver opener.message ∷ []
  pub deeper : depth l ≡ depth opener + 1

-- so it is of each line but the first, which carries this message
abbrev pub AllBehind : Chained → List Line → Type 0
AllBehind m [] = Unit {0}
AllBehind m (l ∷ []) = l.message ≡ m
AllBehind m (l ∷ k ∷ before) = IsBehind (k ∷ before) l × AllBehind m (k ∷ before)

-- What bounds the journal of a request that begins with this message and may take so many. A raw message's agents that
-- the world lacks all stand for one number, so only of a message without an item twice it's said that no line has one.
pub record IsBoundedBy (most : ℕ) (m : Chained) (j : Journal) : Type 0 where
  pub few : length j.lines ≤ most
  pub short : IsShort m → (l : Line) → In l j.lines → IsShort l.message
  pub once : HasOnce m → (l : Line) → In l j.lines → HasOnce l.message
  pub behind : AllBehind m j.lines

-- So it is of each request, whatever agents hold and however its messages fare.
abbrev pub RequestsAreBounded : Type 0
RequestsAreBounded =
    (s : Scene) (most : ℕ) (j : Journal) (reply : Reply)
    → IsRequest s most j reply → 1 ≤ most → IsBoundedBy most s.message j
