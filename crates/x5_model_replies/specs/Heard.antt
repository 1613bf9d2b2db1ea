-- What holds of replies that were heard while a request is served over consistent knowledge: the words in which the
-- lemmas on following references speak.
use Rattle.std.specs.Prelude.{◌≡◌, ℕ, ◌+◌, ◌⊎◌, true, ◌==◌, IsTrue}
use Rattle.std.specs.Prelude.{List, [], ◌∷◌, ◌++◌}
use Rattle.std.specs.declared.option.Option.{Option}
use Rattle.x5_model.specs.Members.{In, Once}
use Rattle.x5_model.specs.References.{Reference}
use Rattle.x5_model.specs.Answers.{Answer, Reply}
use Rattle.x5_model_run.specs.Network.{is_sent}
use Rattle.x5_model_run.specs.Journal.{Line, Journal}
use Rattle.x5_model_run.specs.Needs.{needs}
use Rattle.x5_model_run.specs.History.{Point}
use Rattle.x5_model_run.specs.Chain.{Scene, IsCarried}
use Rattle.x5_model_run.specs.Blocked.{Asked, hears_by, IsLost}
use Rattle.x5_model_parts.specs.Parts.{BeginsHere, rest_needs}
use Rattle.x5_model_serve.specs.Answering.{in_vain}
use Rattle.x5_model_serve.specs.Serving.{Hand, line_for, Heard, Unheard, Hears, Gathered, Whole, Broken}
use Rattle.x5_model_serve.specs.Serving.{is_final, is_spent, limit_reply}
use Rattle.x5_model_serve.specs.Claims.{asked_line, serving_of, SoFar, LiesWithin, AtHand, Keeps, MayTake, Apart}
use Rattle.x5_model_serve.specs.Claims.{AskedSoFar, OnlyBy}
use Rattle.x5_model_replies.specs.Replies.{RightReply}

-- A reply that was heard and followed by whoever is spoken of: its line came back to that one's, it is right for its
-- message, and nothing in it is left to be followed.
pub record HeardRight (p : Point) (s : Scene) (most : ℕ) (q : Asked) (j : Journal) (k : Line)
    (reply : Reply) : Type 0 where
  pub stands : In k j.lines
  pub heard : is_sent k.fate ≡ true
  pub back : IsTrue (hears_by (λ l. l.number == k.number) q j.lines)
  pub stood : ℕ
  pub right : RightReply p s (asked_line k stood) j (is_spent most j) reply
  pub followed : is_final reply ≡ true
  pub within : LiesWithin p (asked_line k stood) reply

-- by the reference: somebody was heard, whose reply is right for its message; or all in vain
abbrev pub TakenRight : Point → Scene → ℕ → Asked → Option ℕ → Hand → Reference → Journal → Heard → Type 0
TakenRight p s most q from o r j Unheard = IsLost s q j.lines (in_vain r)
TakenRight p s most q from o r j (Hears reply) =
    (k : Line) × In k.receiver r.agents × IsCarried from (line_for o) r k.message × HeardRight p s most q j k reply

-- messages ran out before anything was sent, and that is the reply
abbrev pub IsSpentReply : ℕ → Journal → Heard → Type 0
IsSpentReply most j h = (h ≡ Hears limit_reply) × (is_spent most j ≡ true)

-- ---- the claims of one reference, and of the loop over references
-- what is kept, and what was sent; somebody was heard or all were asked in vain; where messages ran out, no line
-- tells of it
abbrev pub TakesRight : Point → Scene → ℕ → Option ℕ → Hand → Reference → Heard → Journal → Journal → Type 0
TakesRight p s most from o r h i j =
    (at : AtHand p s o i) → MayTake s from o r i → AskedSoFar s o r i []
    → Keeps p s most o i j × OnlyBy o (r ∷ []) i j
    × (TakenRight p s most (serving_of i o at.line.number) from o r j h ⊎ IsSpentReply most j h)

-- Somebody may gather what these references ask for: they are needed for parts of what the opener's receiver begins,
-- each may be taken, and nobody was asked by it.
pub record MayGather (p : Point) (s : Scene) (from : Option ℕ) (o : Hand) (rs : List Reference)
    (i : Journal) : Type 0 where
  pub begins : BeginsHere p (line_for o)
  pub needed : (r : Reference) → In r rs → In r (rest_needs p (line_for o))
  pub takes : (r : Reference) → In r rs → MayTake s from o r i
  pub fresh : (r : Reference) → In r rs → AskedSoFar s o r i []
  pub once : Once rs
  pub apart : Apart (needs (s.holdings o.receiver) o.message)

-- the references of a loop are gathered one after the other, with others behind them that are still to be asked
abbrev pub GatheredRight : Point → Scene → ℕ → Hand → ℕ → Journal → List Reference → Gathered → Type 0
GatheredRight p s most o number j rest (Whole a) = SoFar p s (serving_of j o number) j.lines a rest
GatheredRight p s most o number j rest (Broken x) = (x ≡ limit_reply) × (is_spent most j ≡ true)

abbrev pub GathersRight :
    Point → Scene → ℕ → Option ℕ → Hand → List Reference → Answer → Gathered → Journal → Journal → Type 0
GathersRight p s most from o rs a whole i j =
    (rest : List Reference)
    → (at : AtHand p s o i) → MayGather p s from o rs i
    → SoFar p s (serving_of i o at.line.number) i.lines a (rs ++ rest)
    → Keeps p s most o i j × OnlyBy o rs i j × GatheredRight p s most o at.line.number j rest whole
