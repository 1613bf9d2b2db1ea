-- The cases of carrying out an update, and of its probes: what is claimed of each, from what is claimed of what it does
-- (X.511, section 11; X.518, section 19.1).
use Rattle.std.specs.Prelude.{◌≡◌, ℕ, true, false, List, [], ◌∷◌, ◌++◌}
use Rattle.std.specs.declared.option.Option.TheVariants.{Some}
use Rattle.std.specs.declared.result.Result.TheVariants.{Ok, Err}
use Rattle.x5_model.specs.References.{Reference}
use Rattle.x5_model_run.specs.Journal.{Journal}
use Rattle.x5_model_run.specs.History.{Point}
use Rattle.x5_model_run.specs.Chain.{Scene}
use Rattle.x5_model_right.specs.Kept.{Ground}
use Rattle.x5_model.specs.Entries.{Named}
use Rattle.x5_model.specs.Answers.{Answer, Changed, DirError, UpdateProblem, Reply, Answered, Failed}
use Rattle.x5_model.specs.Problems.{entry_already_exists, unavailable, unable_to_proceed}
use Rattle.x5_model_run.specs.Needs.{due_probes}
use Rattle.x5_model_serve.specs.Answering.{is_service, of_these, is_unavailable}
use Rattle.x5_model_serve.specs.Serving.{Hand, Unheard, Hears, Sends, Probes, Does, holds_now, judged, with_accepted}
use Rattle.x5_model_right.specs.Claim.{UpdatesRight, ProbesRight, SendsRight}

-- what its own ground refuses is refused
abbrev pub NotDone : Type 0
NotDone =
    (p : Point) (s : Scene) (most : ℕ) (k : Hand) (j : Journal) (x : DirError)
    → Ground p s → judged s j k ≡ Err x
    → UpdatesRight p s most k (Failed x) j j

-- where no probe is due it is done
abbrev pub DoesAlone : Type 0
DoesAlone =
    (p : Point) (s : Scene) (most : ℕ) (k : Hand) (j : Journal) (mine : List Named)
    → Ground p s → judged s j k ≡ Ok mine → due_probes (holds_now s j k) k.message ≡ []
    → UpdatesRight p s most k (Answered Changed) j (with_accepted k.receiver j)

-- it is done where each agent that a probe goes to was heard
abbrev pub ProbesAll : Type 0
ProbesAll =
    (p : Point) (s : Scene) (most : ℕ) (k : Hand) (i j : Journal) (mine : List Named) (r : Reference)
    → Ground p s → judged s i k ≡ Ok mine → due_probes (holds_now s i k) k.message ≡ r ∷ []
    → Does s most (Probes k r r.agents []) i j → ProbesRight p s most k r r.agents [] i j
    → UpdatesRight p s most k (Answered Changed) i (with_accepted k.receiver j)

-- some were not heard
abbrev pub Misses : Type 0
Misses =
    (p : Point) (s : Scene) (most : ℕ) (k : Hand) (i j : Journal) (mine : List Named) (r : Reference) (a : ℕ)
    (noted : List ℕ)
    → Ground p s → judged s i k ≡ Ok mine → due_probes (holds_now s i k) k.message ≡ r ∷ []
    → Does s most (Probes k r r.agents (noted ++ a ∷ [])) i j → ProbesRight p s most k r r.agents (noted ++ a ∷ []) i j
    → UpdatesRight p s most k (is_unavailable (of_these (noted ++ a ∷ []) r)) i j

-- a probe is answered by an entry
abbrev pub IsTaken : Type 0
IsTaken =
    (p : Point) (s : Scene) (most : ℕ) (k : Hand) (i j l : Journal) (mine : List Named) (r : Reference) (a : ℕ)
    (before after noted : List ℕ) (found : Answer)
    → Ground p s → judged s i k ≡ Ok mine → due_probes (holds_now s i k) k.message ≡ r ∷ []
    → r.agents ≡ before ++ a ∷ after
    → Does s most (Probes k r before noted) i j → ProbesRight p s most k r before noted i j
    → Does s most (Sends (Some k.receiver) k r a (Hears (Answered found))) j l
    → SendsRight p s most (Some k.receiver) k r a (Hears (Answered found)) j l
    → UpdatesRight p s most k (Failed (UpdateProblem entry_already_exists)) i l

-- or by another error
abbrev pub Breaks : Type 0
Breaks =
    (p : Point) (s : Scene) (most : ℕ) (k : Hand) (i j l : Journal) (mine : List Named) (r : Reference) (a : ℕ)
    (before after noted : List ℕ) (x : DirError)
    → Ground p s → judged s i k ≡ Ok mine → due_probes (holds_now s i k) k.message ≡ r ∷ []
    → r.agents ≡ before ++ a ∷ after
    → is_service unable_to_proceed (Failed x) ≡ false → is_service unavailable (Failed x) ≡ false
    → Does s most (Probes k r before noted) i j → ProbesRight p s most k r before noted i j
    → Does s most (Sends (Some k.receiver) k r a (Hears (Failed x))) j l
    → SendsRight p s most (Some k.receiver) k r a (Hears (Failed x)) j l
    → UpdatesRight p s most k (Failed x) i l

-- no probe was sent yet
abbrev pub NoProbe : Type 0
NoProbe =
    (p : Point) (s : Scene) (most : ℕ) (k : Hand) (r : Reference) (j : Journal)
    → Ground p s → ProbesRight p s most k r [] [] j j

-- the next one is unable to proceed
abbrev pub Clear : Type 0
Clear =
    (p : Point) (s : Scene) (most : ℕ) (k : Hand) (r : Reference) (i j l : Journal) (before noted : List ℕ) (a : ℕ)
    (reply : Reply)
    → Ground p s → is_service unable_to_proceed reply ≡ true
    → Does s most (Probes k r before noted) i j → ProbesRight p s most k r before noted i j
    → Does s most (Sends (Some k.receiver) k r a (Hears reply)) j l
    → SendsRight p s most (Some k.receiver) k r a (Hears reply) j l
    → ProbesRight p s most k r (before ++ a ∷ []) noted i l

-- it could not hear its own supplier
abbrev pub Unsure : Type 0
Unsure =
    (p : Point) (s : Scene) (most : ℕ) (k : Hand) (r : Reference) (i j l : Journal) (before noted : List ℕ) (a : ℕ)
    (reply : Reply)
    → Ground p s → is_service unavailable reply ≡ true
    → Does s most (Probes k r before noted) i j → ProbesRight p s most k r before noted i j
    → Does s most (Sends (Some k.receiver) k r a (Hears reply)) j l
    → SendsRight p s most (Some k.receiver) k r a (Hears reply) j l
    → ProbesRight p s most k r (before ++ a ∷ []) (noted ++ a ∷ []) i l

-- it was not heard
abbrev pub Silent : Type 0
Silent =
    (p : Point) (s : Scene) (most : ℕ) (k : Hand) (r : Reference) (i j l : Journal) (before noted : List ℕ) (a : ℕ)
    → Ground p s
    → Does s most (Probes k r before noted) i j → ProbesRight p s most k r before noted i j
    → Does s most (Sends (Some k.receiver) k r a Unheard) j l
    → SendsRight p s most (Some k.receiver) k r a Unheard j l
    → ProbesRight p s most k r (before ++ a ∷ []) (noted ++ a ∷ []) i l

pub record UpdatingCases : Type 0 where
  pub not_done : NotDone
  pub does_alone : DoesAlone
  pub probes_all : ProbesAll
  pub misses : Misses
  pub is_taken : IsTaken
  pub breaks : Breaks
  pub no_probe : NoProbe
  pub clear : Clear
  pub unsure : Unsure
  pub silent : Silent
