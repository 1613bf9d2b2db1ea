-- What agents tell each other beside a request (X.518, section 10). An agent is its place among the world's agents.
use Rattle.std.specs.Prelude.{ℕ, Bool, List}
use Rattle.x5_model.specs.Values.{Rdn, Name}
use Rattle.x5_model.specs.Requests.{Request}

-- how far a name is resolved: not at all, all RDNs before the k-th, or whole (X.518, section 10.5)
pub data Progress : Type 0 where
  Start : Progress
  Next : ℕ → Progress
  Done : Progress

-- kinds of knowledge references (X.501: knowledge; X.518, section 10: reference type); `Own` is the one by which a user
-- asks an agent
pub data RefType : Type 0 where
  Superior : RefType
  Subordinate : RefType
  Cross : RefType
  NonSpecific : RefType
  Supplier : RefType
  Own : RefType

-- a continuation reference (X.518, section 10.9): `tried` says that its agents were asked in vain
pub record Reference : Type 0 where
  pub target : Name
  pub progress : Progress
  pub kind : RefType
  pub agents : List ℕ
  pub exclusions : List Rdn
  pub tried : Bool

-- an item of trace information (X.518, section 10.6): `wide`, which is this project's own, marks a message that was
-- asked by a nonSpecific reference
pub record TraceItem : Type 0 where
  pub agent : ℕ
  pub target : Name
  pub progress : Progress
  pub wide : Bool

-- a message between agents (X.518, section 10.3); the newest item of the trace is its last
pub record Chained : Type 0 where
  pub target : Name
  pub progress : Progress
  pub kind : RefType
  pub exclusions : List Rdn
  pub trace : List TraceItem
  pub request : Request
