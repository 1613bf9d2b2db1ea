-- What one induction over all that is done shows (X.518, sections 17 to 21), from its cases, each a lemma of its own:
-- the claim of whatever is done; and of a request, that it is licensed, right and thorough.
use Rattle.std.specs.Prelude.{ℕ, ◌≤◌, ◌≡◌, length}
use Rattle.std.specs.declared.option.Option.TheVariants.{Some}
use Rattle.x5_model.specs.Requests.{Request}
use Rattle.x5_model.specs.Answers.{Reply}
use Rattle.x5_model.specs.Values.{Name}
use Rattle.x5_model_run.specs.Journal.{Journal}
use Rattle.x5_model_run.specs.Needs.{target_of, new_name}
use Rattle.x5_model_run.specs.History.{Point}
use Rattle.x5_model_run.specs.Stage.{budget}
use Rattle.x5_model_run.specs.Chain.{Scene, scene_at}
use Rattle.x5_model_run.specs.Right.{AnswersRight}
use Rattle.x5_model_run.specs.Thorough.{Thorough}
use Rattle.x5_model_serve.specs.Serving.{Act, Does, IsRequest}
use Rattle.x5_model_serve.specs.Claims.{Setting}
use Rattle.x5_model_right.specs.Kept.{Ground}
use Rattle.x5_model_right.specs.Claim.{Claim}
use Rattle.x5_model_right.specs.Served.{ServingCases}
use Rattle.x5_model_right.specs.Updated.{UpdatingCases}
use Rattle.x5_model_right.specs.Sent.{SendingCases}
use Rattle.x5_model_right.specs.Taken.{TakingCases}
use Rattle.x5_model_right.specs.Cast.{CastingCases}
use Rattle.x5_model_right.specs.Gathered.{GatheringCases}

-- the cases that are lemmas of their own
pub record Constructors : Type 0 where
  pub serving : ServingCases
  pub updating : UpdatingCases
  pub sending : SendingCases
  pub taking : TakingCases
  pub casting : CastingCases
  pub gathering : GatheringCases

-- From its cases: whatever is done, its claim holds.
abbrev pub ServingIsRight : Type 0
ServingIsRight =
    Constructors → (p : Point) (s : Scene) (most : ℕ) (x : Act) (i j : Journal)
    → Ground p s → Does s most x i j → Claim p s most x i j

-- And what it gives a request whose names have 16 RDNs at most, as all names in a directory have.
abbrev pub RequestIsRight : Type 0
RequestIsRight =
    Constructors → (p : Point) (first : ℕ) (r : Request) (j : Journal) (reply : Reply)
    → Setting p (scene_at p first r) → length (target_of r.body) ≤ 16
    → ((name : Name) → new_name r.body ≡ Some name → length name ≤ 16)
    → IsRequest (scene_at p first r) (budget p) j reply
    → AnswersRight p first r j reply × Thorough (scene_at p first r) j

-- All cases are proved, so this holds without them: whatever is done, its claim holds.
abbrev pub AllIsRight : Type 0
AllIsRight =
    (p : Point) (s : Scene) (most : ℕ) (x : Act) (i j : Journal) → Ground p s → Does s most x i j → Claim p s most x i j

-- And so does what it gives a request: whatever a user is told over consistent knowledge is right and thorough.
abbrev pub RequestsAreRight : Type 0
RequestsAreRight =
    (p : Point) (first : ℕ) (r : Request) (j : Journal) (reply : Reply)
    → Setting p (scene_at p first r) → length (target_of r.body) ≤ 16
    → ((name : Name) → new_name r.body ≡ Some name → length name ≤ 16)
    → IsRequest (scene_at p first r) (budget p) j reply
    → AnswersRight p first r j reply × Thorough (scene_at p first r) j
