-- The cases of the agents of an NSSR, in turn: what is claimed of each, from what is claimed of what it does (X.518,
-- section 20: multi-chaining).
use Rattle.std.specs.Prelude.{◌≡◌, ℕ, true, false, List, [], ◌∷◌, ◌++◌}
use Rattle.std.specs.declared.option.Option.{Option}
use Rattle.x5_model.specs.Words.{is_empty}
use Rattle.x5_model.specs.References.{Reference}
use Rattle.x5_model_run.specs.Journal.{Journal}
use Rattle.x5_model_run.specs.History.{Point}
use Rattle.x5_model_run.specs.Chain.{Scene}
use Rattle.x5_model_right.specs.Kept.{Ground}
use Rattle.x5_model.specs.Answers.{NoSuchObject, Reply, Failed}
use Rattle.x5_model.specs.Problems.{unable_to_proceed}
use Rattle.x5_model_serve.specs.Answering.{above_next, is_service, of_these, is_unavailable}
use Rattle.x5_model_serve.specs.Serving.{Hand, Unheard, Hears, Sends, Spreads, Does}
use Rattle.x5_model_right.specs.Claim.{SendsRight, SpreadsRight, CastsRight}

-- none was asked yet
abbrev pub NoneAsked : Type 0
NoneAsked =
    (p : Point) (s : Scene) (most : ℕ) (from : Option ℕ) (o : Hand) (r : Reference) (j : Journal)
    → Ground p s → SpreadsRight p s most from o r [] [] j j

-- one more is unable to proceed
abbrev pub UnableToo : Type 0
UnableToo =
    (p : Point) (s : Scene) (most : ℕ) (from : Option ℕ) (o : Hand) (r : Reference) (i j l : Journal)
    (before noted : List ℕ) (a : ℕ) (reply : Reply)
    → Ground p s → is_service unable_to_proceed reply ≡ true
    → Does s most (Spreads from o r before noted) i j → SpreadsRight p s most from o r before noted i j
    → Does s most (Sends from o r a (Hears reply)) j l → SendsRight p s most from o r a (Hears reply) j l
    → SpreadsRight p s most from o r (before ++ a ∷ []) noted i l

-- one more was not heard, and is noted
abbrev pub SilentToo : Type 0
SilentToo =
    (p : Point) (s : Scene) (most : ℕ) (from : Option ℕ) (o : Hand) (r : Reference) (i j l : Journal)
    (before noted : List ℕ) (a : ℕ)
    → Ground p s
    → Does s most (Spreads from o r before noted) i j → SpreadsRight p s most from o r before noted i j
    → Does s most (Sends from o r a Unheard) j l → SendsRight p s most from o r a Unheard j l
    → SpreadsRight p s most from o r (before ++ a ∷ []) (noted ++ a ∷ []) i l

-- the next one replies anything else, and that is the reply
abbrev pub IsAnswered : Type 0
IsAnswered =
    (p : Point) (s : Scene) (most : ℕ) (from : Option ℕ) (o : Hand) (r : Reference) (i j l : Journal)
    (before after noted : List ℕ) (a : ℕ) (reply : Reply)
    → Ground p s → r.agents ≡ before ++ a ∷ after → is_service unable_to_proceed reply ≡ false
    → Does s most (Spreads from o r before noted) i j → SpreadsRight p s most from o r before noted i j
    → Does s most (Sends from o r a (Hears reply)) j l → SendsRight p s most from o r a (Hears reply) j l
    → CastsRight p s most from o r reply i l

-- all of them are unable, so there is no such entry
abbrev pub NobodyHas : Type 0
NobodyHas =
    (p : Point) (s : Scene) (most : ℕ) (from : Option ℕ) (o : Hand) (r : Reference) (i j : Journal)
    → Ground p s
    → Does s most (Spreads from o r r.agents []) i j → SpreadsRight p s most from o r r.agents [] i j
    → CastsRight p s most from o r (Failed (NoSuchObject (above_next r))) i j

-- or some were not heard
abbrev pub SomeSilent : Type 0
SomeSilent =
    (p : Point) (s : Scene) (most : ℕ) (from : Option ℕ) (o : Hand) (r : Reference) (i j : Journal)
    (noted : List ℕ)
    → Ground p s → is_empty noted ≡ false
    → Does s most (Spreads from o r r.agents noted) i j → SpreadsRight p s most from o r r.agents noted i j
    → CastsRight p s most from o r (is_unavailable (of_these noted r)) i j

pub record CastingCases : Type 0 where
  pub none_asked : NoneAsked
  pub unable_too : UnableToo
  pub silent_too : SilentToo
  pub is_answered : IsAnswered
  pub nobody_has : NobodyHas
  pub some_silent : SomeSilent
