-- The cases of the references of a list or search, in turn: what is claimed of each, from what is claimed of what it
-- does (X.518, sections 19.3 and 21).
use Rattle.std.specs.Prelude.{◌≡◌, ℕ, false, List, [], ◌∷◌, ◌++◌}
use Rattle.std.specs.declared.option.Option.{Option}
use Rattle.x5_model.specs.References.{Reference}
use Rattle.x5_model_run.specs.Journal.{Journal}
use Rattle.x5_model_run.specs.History.{Point}
use Rattle.x5_model_run.specs.Chain.{Scene}
use Rattle.x5_model_right.specs.Kept.{Ground}
use Rattle.x5_model.specs.Answers.{Answer, DirError, Answered, Failed}
use Rattle.x5_model.specs.Problems.{unavailable}
use Rattle.x5_model_serve.specs.Answering.{merged, with_unexplored, in_vain, is_service, is_unavailable}
use Rattle.x5_model_serve.specs.Serving.{Hand, Unheard, Hears, Whole, Broken, Takes, Gathers, Does}
use Rattle.x5_model_right.specs.Claim.{TakesRight, GathersRight}

-- none is left
abbrev pub NoPart : Type 0
NoPart =
    (p : Point) (s : Scene) (most : ℕ) (from : Option ℕ) (o : Hand) (a : Answer) (j : Journal)
    → Ground p s → GathersRight p s most from o [] a (Whole a) j j

-- nobody is heard by one more
abbrev pub PartUnheard : Type 0
PartUnheard =
    (p : Point) (s : Scene) (most : ℕ) (from : Option ℕ) (o : Hand) (i j l : Journal) (rs : List Reference)
    (a b : Answer)
    (r : Reference)
    → Ground p s
    → Does s most (Gathers from o rs a (Whole b)) i j → GathersRight p s most from o rs a (Whole b) i j
    → Does s most (Takes from o r Unheard) j l → TakesRight p s most from o r Unheard j l
    → GathersRight p s most from o (rs ++ r ∷ []) a (Whole (with_unexplored (in_vain r ∷ []) b)) i l

-- who was heard could not hear somebody
abbrev pub PartUnavailable : Type 0
PartUnavailable =
    (p : Point) (s : Scene) (most : ℕ) (from : Option ℕ) (o : Hand) (i j l : Journal) (rs : List Reference)
    (a b : Answer)
    (r u : Reference)
    → Ground p s
    → Does s most (Gathers from o rs a (Whole b)) i j → GathersRight p s most from o rs a (Whole b) i j
    → Does s most (Takes from o r (Hears (is_unavailable u))) j l
    → TakesRight p s most from o r (Hears (is_unavailable u)) j l
    → GathersRight p s most from o (rs ++ r ∷ []) a (Whole (with_unexplored (in_vain u ∷ []) b)) i l

-- its answer is merged into the whole
abbrev pub PartAnswered : Type 0
PartAnswered =
    (p : Point) (s : Scene) (most : ℕ) (from : Option ℕ) (o : Hand) (i j l : Journal) (rs : List Reference)
    (a b : Answer)
    (r : Reference) (c : Answer)
    → Ground p s
    → Does s most (Gathers from o rs a (Whole b)) i j → GathersRight p s most from o rs a (Whole b) i j
    → Does s most (Takes from o r (Hears (Answered c))) j l → TakesRight p s most from o r (Hears (Answered c)) j l
    → GathersRight p s most from o (rs ++ r ∷ []) a (Whole (merged b c)) i l

-- or any other error is the answer of the whole
abbrev pub PartBreaks : Type 0
PartBreaks =
    (p : Point) (s : Scene) (most : ℕ) (from : Option ℕ) (o : Hand) (i j l : Journal) (before after : List Reference)
    (a b : Answer) (r : Reference) (x : DirError)
    → Ground p s → is_service unavailable (Failed x) ≡ false
    → Does s most (Gathers from o before a (Whole b)) i j → GathersRight p s most from o before a (Whole b) i j
    → Does s most (Takes from o r (Hears (Failed x))) j l → TakesRight p s most from o r (Hears (Failed x)) j l
    → GathersRight p s most from o (before ++ r ∷ after) a (Broken (Failed x)) i l

pub record GatheringCases : Type 0 where
  pub no_part : NoPart
  pub part_unheard : PartUnheard
  pub part_unavailable : PartUnavailable
  pub part_answered : PartAnswered
  pub part_breaks : PartBreaks
