-- The cases of the agents of one reference, in turn: what is claimed of each, from what is claimed of what it does
-- (X.518, section 20).
use Rattle.std.specs.Prelude.{◌≡◌, ℕ, List, [], ◌∷◌, ◌++◌}
use Rattle.std.specs.declared.option.Option.{Option}
use Rattle.x5_model.specs.References.{Reference}
use Rattle.x5_model_run.specs.Journal.{Journal}
use Rattle.x5_model_run.specs.History.{Point}
use Rattle.x5_model_run.specs.Chain.{Scene}
use Rattle.x5_model_right.specs.Kept.{Ground}
use Rattle.x5_model.specs.Answers.{Reply}
use Rattle.x5_model_serve.specs.Serving.{Hand, Unheard, Hears, Sends, Tries, Does}
use Rattle.x5_model_right.specs.Claim.{SendsRight, TriesRight, TakesRight}

-- none was asked yet
abbrev pub NoneYet : Type 0
NoneYet =
    (p : Point) (s : Scene) (most : ℕ) (from : Option ℕ) (o : Hand) (r : Reference) (j : Journal)
    → Ground p s → TriesRight p s most from o r [] j j

-- one more was not heard
abbrev pub InVainToo : Type 0
InVainToo =
    (p : Point) (s : Scene) (most : ℕ) (from : Option ℕ) (o : Hand) (r : Reference) (i j l : Journal)
    (before : List ℕ) (a : ℕ)
    → Ground p s
    → Does s most (Tries from o r before) i j → TriesRight p s most from o r before i j
    → Does s most (Sends from o r a Unheard) j l → SendsRight p s most from o r a Unheard j l
    → TriesRight p s most from o r (before ++ a ∷ []) i l

-- the next one is heard
abbrev pub NextIsHeard : Type 0
NextIsHeard =
    (p : Point) (s : Scene) (most : ℕ) (from : Option ℕ) (o : Hand) (r : Reference) (i j l : Journal)
    (before after : List ℕ) (a : ℕ) (reply : Reply)
    → Ground p s → r.agents ≡ before ++ a ∷ after
    → Does s most (Tries from o r before) i j → TriesRight p s most from o r before i j
    → Does s most (Sends from o r a (Hears reply)) j l → SendsRight p s most from o r a (Hears reply) j l
    → TakesRight p s most from o r (Hears reply) i l

-- or none of them is
abbrev pub NoneIsHeard : Type 0
NoneIsHeard =
    (p : Point) (s : Scene) (most : ℕ) (from : Option ℕ) (o : Hand) (r : Reference) (i j : Journal)
    → Ground p s
    → Does s most (Tries from o r r.agents) i j → TriesRight p s most from o r r.agents i j
    → TakesRight p s most from o r Unheard i j

pub record TakingCases : Type 0 where
  pub none_yet : NoneYet
  pub in_vain_too : InVainToo
  pub next_is_heard : NextIsHeard
  pub none_is_heard : NoneIsHeard
