-- What a request takes is less than its budget, so that no message is missing (X.518, section 19): what each thing
-- that is done costs, and what of the theory that rests on.
use Rattle.std.specs.Prelude.{◌≡◌, ℕ, ◌+◌, ◌*◌, ◌<◌, ◌≤◌, ◌⊎◌, Bool, true, false, List, [], ◌∷◌, length}
use Rattle.std.specs.declared.option.Option.{Option}
use Rattle.std.specs.declared.option.Option.TheVariants.{Some}
use Rattle.x5_model.specs.Members.{In}
use Rattle.x5_model.specs.Values.{key_of}
use Rattle.x5_model.specs.Requests.{Request}
use Rattle.x5_model.specs.References.{Reference, Chained}
use Rattle.x5_model.specs.Answers.{Reply, Answered, Failed, Referred}
use Rattle.x5_model_tree.specs.Ask.{is_update}
use Rattle.x5_model_run.specs.Journal.{Journal}
use Rattle.x5_model_run.specs.Holdings.{Held}
use Rattle.x5_model_run.specs.Needs.{due_probes}
use Rattle.x5_model_run.specs.History.{Point}
use Rattle.x5_model_run.specs.Stage.{budget}
use Rattle.x5_model_run.specs.Chain.{Scene, scene_at, IsCarried}
use Rattle.x5_model_run.specs.Right.{master_at}
use Rattle.x5_model_run.specs.Placed.{Placed}
use Rattle.x5_model_serve.specs.Finding.{Here, Onward, find, IsLooked}
use Rattle.x5_model_serve.specs.Answering.{rest_of_parts, to_follow}
use Rattle.x5_model_serve.specs.Serving.{Hand, hand, line_for, Heard, Unheard, Hears, IsRequest, Act, Serves, Follows}
use Rattle.x5_model_serve.specs.Serving.{Sends, Tries, Takes, Spreads, Casts, Gathers, Probes, Updates, Does}
use Rattle.x5_model_serve.specs.Serving.{begins_parts, is_final}
use Rattle.x5_model_serve.specs.Claims.{Setting}
use Rattle.x5_model_bounds.specs.Costs.{total, serving_cost, whole_cost, Costs}

-- ---- what holds of a message at hand, and of the journal meanwhile
-- it is placed, and an update asks for the target of the user's request
pub record Ready (p : Point) (s : Scene) (k : Hand) : Type 0 where
  pub placed : Placed p k.message k.receiver
  pub updates : is_update k.message.request.body ≡ true → key_of k.message.target ≡ key_of s.message.target

-- whoever accepted is the master; and nobody did, but where an update is asked
pub record Stays (p : Point) (s : Scene) (asks : Bool) (j : Journal) : Type 0 where
  pub masters : (a : ℕ) → In a j.accepted → master_at p (key_of s.message.target) ≡ Some a
  pub quiet : (asks ≡ true) ⊎ (j.accepted ≡ [])

-- what is carried for the opener by the reference to these agents costs each at most so much
pub record Carries (p : Point) (s : Scene) (from : Option ℕ) (o : Hand) (r : Reference) (agents : List ℕ) (n : ℕ)
    (asks : Bool) : Type 0 where
  pub ready : (a : ℕ) → In a agents → (m : Chained) → IsCarried from (line_for o) r m → Ready p s (hand a m)
  pub within : (a : ℕ) → In a agents → (m : Chained) → IsCarried from (line_for o) r m → serving_cost p a m ≤ n
  pub asking :
      (a : ℕ) → In a agents → (m : Chained) → IsCarried from (line_for o) r m → is_update m.request.body ≡ asks

-- so taking the reference costs so much: a message to each agent, and what one of them costs
pub record Payable (p : Point) (s : Scene) (from : Option ℕ) (o : Hand) (r : Reference) (n : ℕ)
    (asks : Bool) : Type 0 where
  pub each : ℕ
  pub few : length r.agents + each ≤ n
  pub small : each ≤ whole_cost p
  pub carries : Carries p s from o r r.agents each asks

-- what an idle agent leaves to its sender: the reference that it needs, or those of its parts
abbrev pub IsLeft : Scene → Hand → Reply → Type 0
IsLeft s k (Answered a) =
    (begins_parts k (find (s.holdings k.receiver) k.message) ≡ true)
    × (to_follow a ≡ rest_of_parts (s.holdings k.receiver) k.message) × IsLooked k.message
IsLeft s k (Failed x) = ⊥
IsLeft s k (Referred r) = (find (s.holdings k.receiver) k.message ≡ Onward r) × IsLooked k.message

-- ---- what each thing that is done costs
abbrev pub heard_cost : ℕ → Heard → ℕ
heard_cost n Unheard = 1
heard_cost n (Hears reply) = 1 + n

pub record After (p : Point) (s : Scene) (asks : Bool) (i j : Journal) (n : ℕ) : Type 0 where
  pub stays : Stays p s asks j
  pub costs : Costs s (whole_cost p) i j n

abbrev pub asks_of : Hand → Bool
asks_of k = is_update k.message.request.body

abbrev pub cost_of : Point → Hand → ℕ
cost_of p k = serving_cost p k.receiver k.message

abbrev pub Pays : Point → Scene → Act → Journal → Journal → Type 0
Pays p s (Serves k reply) i j =
    Ready p s k → Stays p s (asks_of k) i
    → ((is_final reply ≡ true) × After p s (asks_of k) i j (cost_of p k)) ⊎ (IsLeft s k reply × (j ≡ i))
Pays p s (Follows from k reply last) i j =
    Ready p s k → Stays p s (asks_of k) i
    → (is_final reply ≡ true → j ≡ i) × (IsLeft s k reply → After p s (asks_of k) i j (cost_of p k))
Pays p s (Sends from o r a heard) i j =
    (n : ℕ) (asks : Bool) → Carries p s from o r (a ∷ []) n asks → n ≤ whole_cost p → Stays p s asks i
    → After p s asks i j (heard_cost n heard)
Pays p s (Tries from o r agents) i j =
    (n : ℕ) (asks : Bool) → Carries p s from o r agents n asks → n ≤ whole_cost p → Stays p s asks i
    → After p s asks i j (length agents)
Pays p s (Takes from o r heard) i j =
    (n : ℕ) (asks : Bool) → Payable p s from o r n asks → Stays p s asks i → After p s asks i j n
Pays p s (Spreads from o r agents noted) i j =
    (n : ℕ) (asks : Bool) → Carries p s from o r agents n asks → n ≤ whole_cost p → Stays p s asks i
    → After p s asks i j (length agents)
Pays p s (Casts from o r reply) i j =
    (n : ℕ) (asks : Bool) → Payable p s from o r n asks → Stays p s asks i → After p s asks i j n
Pays p s (Gathers from o rs a whole) i j =
    (cost : Reference → ℕ) (asks : Bool) → ((r : Reference) → In r rs → Payable p s from o r (cost r) asks)
    → Stays p s asks i → After p s asks i j (total cost rs)
Pays p s (Probes k r agents noted) i j =
    Carries p s (Some k.receiver) k r agents 4 false → 4 ≤ whole_cost p → Stays p s false i
    → After p s false i j (length agents * 5)
Pays p s (Updates k reply) i j =
    Ready p s k → Stays p s true i → i.accepted ≡ [] → asks_of k ≡ true
    → master_at p (key_of s.message.target) ≡ Some k.receiver → After p s true i j (cost_of p k)

-- ---- what that rests on
-- The reference of name resolution, or to the supplier of a copy that can't be used: the rest of the way costs so
-- much less.
abbrev pub ResolutionPays : Type 0
ResolutionPays =
    (p : Point) (s : Scene) (from : Option ℕ) (k : Hand) (r : Reference)
    → Setting p s → Ready p s k → IsLooked k.message → find (s.holdings k.receiver) k.message ≡ Onward r
    → Payable p s from k r (cost_of p k) (asks_of k)

-- The references of the parts: each costs its scope, and all together no more than what is looked into.
abbrev pub PartsPay : Type 0
PartsPay =
    (p : Point) (s : Scene) (from : Option ℕ) (k : Hand)
    → Setting p s → Ready p s k → IsLooked k.message
    → begins_parts k (find (s.holdings k.receiver) k.message) ≡ true
    → (cost : Reference → ℕ)
    × (total cost (rest_of_parts (s.holdings k.receiver) k.message) ≤ cost_of p k)
    × ((r : Reference) → In r (rest_of_parts (s.holdings k.receiver) k.message)
    → Payable p s from k r (cost r) (asks_of k))

-- The probes of an update: each goes no further than four suppliers.
abbrev pub ProbesPay : Type 0
ProbesPay =
    (p : Point) (s : Scene) (k : Hand) (r : Reference)
    → Setting p s → Ready p s k → due_probes (s.holdings k.receiver) k.message ≡ r ∷ []
    → (length r.agents * 5 ≤ cost_of p k) × Carries p s (Some k.receiver) k r r.agents 4 false

-- An update is judged by the master alone.
abbrev pub JudgeIsMaster : Type 0
JudgeIsMaster =
    (p : Point) (s : Scene) (k : Hand) (c : Held)
    → Setting p s → Ready p s k → IsLooked k.message → asks_of k ≡ true
    → find (s.holdings k.receiver) k.message ≡ Here c → master_at p (key_of k.message.target) ≡ Some k.receiver

-- ---- the theorems
-- Whatever is done costs no more than this.
abbrev pub ServingPays : Type 0
ServingPays =
    (p : Point) (s : Scene) (most : ℕ) (x : Act) (i j : Journal) → Setting p s → Does s most x i j → Pays p s x i j

-- So a request takes fewer messages than its budget, and none is ever missing.
abbrev pub NeverSpent : Type 0
NeverSpent =
    (p : Point) (first : ℕ) (r : Request) (j : Journal) (reply : Reply)
    → Setting p (scene_at p first r) → IsRequest (scene_at p first r) (budget p) j reply → length j.lines < budget p
