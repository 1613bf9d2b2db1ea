-- What a reply may be relied on to tell (X.518, section 20): it names agents of the world, and where it says that
-- somebody is unavailable it has a reference to them.
use Rattle.std.specs.Prelude.{◌≡◌, ℕ, ◌⊎◌, nat_lt, Bool, true, false, List, ⊤}
use Rattle.std.specs.List.{list_all}
use Rattle.std.specs.declared.option.Option.{Option}
use Rattle.std.specs.declared.option.Option.TheVariants.{None, Some}
use Rattle.x5_model.specs.References.{Reference}
use Rattle.x5_model.specs.Answers.{DirError, NoSuchObject, AttributeProblem, UpdateProblem, ServiceProblem, Reply}
use Rattle.x5_model.specs.Answers.{Answered, Failed, Referred}
use Rattle.x5_model.specs.Problems.{unavailable}
use Rattle.x5_model_tree.specs.Ask.{unexplored_of}
use Rattle.x5_model_run.specs.Journal.{Journal}
use Rattle.x5_model_run.specs.Needs.{due_probes}
use Rattle.x5_model_run.specs.Chain.{Scene}
use Rattle.x5_model_serve.specs.Finding.{Onward}
use Rattle.x5_model_serve.specs.Answering.{is_service, is_unavailable}
use Rattle.x5_model_serve.specs.Serving.{Hand, Heard, Unheard, Hears, Gathered, Whole, Broken, Act, Serves, Follows}
use Rattle.x5_model_serve.specs.Serving.{Sends, Tries, Takes, Spreads, Casts, Gathers, Probes, Updates, Does, holds_now}
use Rattle.x5_model_serve.specs.Serving.{found_at, parts_refs}

-- agents of a world that has so many
abbrev pub are_agents : ℕ → List ℕ → Bool
are_agents n agents = list_all (λ a. nat_lt a n) agents

-- references that name such agents alone
abbrev pub name_agents : ℕ → List Reference → Bool
name_agents n rs = list_all (λ r. are_agents n r.agents) rs

abbrev pub option_names : ℕ → Option Reference → Bool
option_names n None = true
option_names n (Some r) = are_agents n r.agents

abbrev pub error_names : ℕ → DirError → Bool
error_names n (NoSuchObject name) = true
error_names n (AttributeProblem k t) = true
error_names n (UpdateProblem k) = true
error_names n (ServiceProblem k r i) = option_names n r

abbrev pub reply_names : ℕ → Reply → Bool
reply_names n (Answered a) = name_agents n (unexplored_of a)
reply_names n (Failed x) = error_names n x
reply_names n (Referred r) = are_agents n r.agents

-- what agents of the world know, whatever was accepted, are agents of the world
pub record KnowsAgents (n : ℕ) (s : Scene) : Type 0 where
  pub onward : (j : Journal) (k : Hand) (r : Reference) → nat_lt k.receiver n ≡ true → found_at s j k ≡ Onward r
      → are_agents n r.agents ≡ true
  pub parts : (j : Journal) (k : Hand) → nat_lt k.receiver n ≡ true → name_agents n (parts_refs s j k) ≡ true
  pub probes : (j : Journal) (k : Hand) → nat_lt k.receiver n ≡ true
      → name_agents n (due_probes (holds_now s j k) k.message) ≡ true

-- where it says that somebody is unavailable it has a reference
abbrev pub HasReference : Reply → Type 0
HasReference y = (is_service unavailable y ≡ false) ⊎ ((u : Reference) × (y ≡ is_unavailable u))

pub record IsTold (n : ℕ) (y : Reply) : Type 0 where
  pub agents : reply_names n y ≡ true
  pub reference : HasReference y

abbrev pub IsToldHeard : ℕ → Heard → Type 0
IsToldHeard n Unheard = ⊤
IsToldHeard n (Hears y) = IsTold n y

abbrev pub IsToldWhole : ℕ → Gathered → Type 0
IsToldWhole n (Whole a) = name_agents n (unexplored_of a) ≡ true
IsToldWhole n (Broken y) = IsTold n y

-- of each thing that is done
abbrev pub Tells : ℕ → Act → Type 0
Tells n (Serves k y) = nat_lt k.receiver n ≡ true → IsTold n y
Tells n (Follows from k y last) = IsTold n y → IsTold n last
Tells n (Sends from o r a h) = nat_lt a n ≡ true → IsToldHeard n h
Tells n (Tries from o r agents) = ⊤
Tells n (Takes from o r h) = are_agents n r.agents ≡ true → IsToldHeard n h
Tells n (Spreads from o r agents noted) = are_agents n agents ≡ true → are_agents n noted ≡ true
Tells n (Casts from o r y) = are_agents n r.agents ≡ true → IsTold n y
Tells n (Gathers from o rs a whole) =
    name_agents n rs ≡ true → name_agents n (unexplored_of a) ≡ true → IsToldWhole n whole
Tells n (Probes k r agents noted) = are_agents n agents ≡ true → are_agents n noted ≡ true
Tells n (Updates k y) = nat_lt k.receiver n ≡ true → IsTold n y

abbrev pub RepliesAreTold : Type 0
RepliesAreTold =
    (n : ℕ) (s : Scene) (most : ℕ) (x : Act) (i j : Journal)
    → KnowsAgents n s → Does s most x i j → Tells n x
