-- The loop over the references of a list or search, case by case: what is claimed of it follows from what is claimed
-- of each reference (X.518, section 19.3).
use Rattle.std.specs.Prelude.{◌≡◌, ℕ, ◌<◌, false, Option, List, [], ◌∷◌, ◌++◌}
use Rattle.x5_model.specs.Members.{In}
use Rattle.x5_model.specs.References.{Reference}
use Rattle.x5_model.specs.Answers.{Answer, DirError, Answered, Failed}
use Rattle.x5_model.specs.Problems.{unavailable}
use Rattle.x5_model_tree.specs.Ask.{is_update}
use Rattle.x5_model_run.specs.Journal.{Line, Journal, depth}
use Rattle.x5_model_run.specs.History.{Point}
use Rattle.x5_model_run.specs.Chain.{Scene}
use Rattle.x5_model_serve.specs.Answering.{merged, with_unexplored, in_vain, is_unavailable, is_service}
use Rattle.x5_model_serve.specs.Serving.{Hand, Unheard, Hears, Whole, Broken}
use Rattle.x5_model_serve.specs.Claims.{Keeps}
use Rattle.x5_model_replies.specs.Heard.{TakesRight, GathersRight}

-- What is kept by two things that are done for a query, one after the other, is kept by both together.
abbrev pub QueriesKeep : Type 0
QueriesKeep =
    (p : Point) (s : Scene) (most : ℕ) (o : Hand) (i j l : Journal)
    → is_update o.message.request.body ≡ false → Keeps p s most o i j → Keeps p s most o j l → Keeps p s most o i l

-- With no reference nothing is done.
abbrev pub NoPart : Type 0
NoPart =
    (p : Point) (s : Scene) (most : ℕ) (from : Option ℕ) (o : Hand) (a : Answer) (j : Journal)
    → GathersRight p s most from o [] a (Whole a) j j

-- One more reference: nobody was heard by it;
abbrev pub PartUnheard : Type 0
PartUnheard =
    (p : Point) (s : Scene) (most : ℕ) (from : Option ℕ) (o : Hand) (rs : List Reference) (a b : Answer) (r : Reference)
    (i j l : Journal)
    → GathersRight p s most from o rs a (Whole b) i j → TakesRight p s most from o r Unheard j l
    → GathersRight p s most from o (rs ++ r ∷ []) a (Whole (with_unexplored (in_vain r ∷ []) b)) i l

-- who was heard couldn't hear somebody;
abbrev pub PartUnavailable : Type 0
PartUnavailable =
    (p : Point) (s : Scene) (most : ℕ) (from : Option ℕ) (o : Hand) (rs : List Reference) (a b : Answer)
    (r u : Reference) (i j l : Journal)
    → GathersRight p s most from o rs a (Whole b) i j → TakesRight p s most from o r (Hears (is_unavailable u)) j l
    → GathersRight p s most from o (rs ++ r ∷ []) a (Whole (with_unexplored (in_vain u ∷ []) b)) i l

-- or it brought an answer.
abbrev pub PartAnswered : Type 0
PartAnswered =
    (p : Point) (s : Scene) (most : ℕ) (from : Option ℕ) (o : Hand) (rs : List Reference) (a b c : Answer)
    (r : Reference) (i j l : Journal)
    → GathersRight p s most from o rs a (Whole b) i j → TakesRight p s most from o r (Hears (Answered c)) j l
    → GathersRight p s most from o (rs ++ r ∷ []) a (Whole (merged b c)) i l

-- Another error of a part ends it: over consistent knowledge that is where messages ran out, as no journal is long.
abbrev pub PartBreaks : Type 0
PartBreaks =
    (p : Point) (s : Scene) (most : ℕ) (from : Option ℕ) (o : Hand) (before after : List Reference) (a b : Answer)
    (r : Reference) (x : DirError) (i j l : Journal)
    → is_service unavailable (Failed x) ≡ false → ((e : Line) → In e l.lines → depth e < 128)
    → GathersRight p s most from o before a (Whole b) i j → TakesRight p s most from o r (Hears (Failed x)) j l
    → GathersRight p s most from o (before ++ r ∷ after) a (Broken (Failed x)) i l
