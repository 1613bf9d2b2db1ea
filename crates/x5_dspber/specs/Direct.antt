-- What octets in their usual spelling hold of a message between agents.
use Rattle.std.specs.Prelude.{◌≡◌, ℕ, Bool, true, false, List, [], ◌∷◌, map}
use Rattle.x5_model.specs.References.{Progress, RefType}
use Rattle.x5_model.specs.Requests.{Request}
use Rattle.x5_model.specs.Values.{Name, Rdn}
use Rattle.x5_model_messages.specs.Chained.{chaining_in}
use Rattle.x5_model_messages.specs.Replies.{TraceItem, item_in}
use Rattle.x5_model_typed.specs.Forms.{Component, Set, at}
use Rattle.x5_model_typed.specs.Layouts.{or_nothing}
use Rattle.x5_model_typed.specs.Named as named
use Rattle.x5_model_typed.specs.Nodes.{Node, parts}
use Rattle.x5_direct.specs.Spelled.{Opens, SpelledIn}
use Rattle.x5_dapber.specs.Direct.{SpelledInSet}
use Rattle.x5_dapreply.specs.Said.{rdns_in}

-- ---- what the members of nodes say

abbrev pub items_of : Node → List TraceItem
items_of n = map item_in (parts n)

-- ---- short contents

-- The mark of an item that a message of the type nonSpecific was received: it's true, or it's missing and so false
-- (X.518, section 10.6).
abbrev pub IsWide : Bool → List ℕ → Type 0
IsWide true octets = octets ≡ 1 ∷ 1 ∷ 255 ∷ []
IsWide false octets = octets ≡ []

-- ---- chaining arguments (X.518, section 10.3)

-- Behind the context tags 0 to 3 stand these contents; the others are the rest.
pub record AreFour (target progress trace kind octets rest : List ℕ) : Type 0 where
  pub first : List ℕ
  pub second : List ℕ
  pub third : List ℕ
  pub opens_target : Opens 160 target octets first
  pub opens_progress : Opens 161 progress first second
  pub opens_trace : Opens 162 trace second third
  pub opens_kind : Opens 163 kind third rest

abbrev pub last_part : List Component
last_part = or_nothing (at 4 named.Rdns) ∷ []

abbrev pub chaining_parts : List Component
chaining_parts = at 0 named.Name ∷ at 1 named.Progress ∷ at 2 named.Trace ∷ at 3 named.RefType ∷ last_part

-- The RDNs that are left out, which may be missing where there are none.
pub record ReadLast (rdns : List Rdn) (octets : List ℕ) : Type 0 where
  pub node : Node
  pub spelled : SpelledInSet 6 4 last_part (node ∷ []) octets
  pub says : rdns ≡ rdns_in node

-- What chaining arguments say, whatever the request beside them.
abbrev pub ReadsChaining : Name → Progress → RefType → List Rdn → List TraceItem → List ℕ → Type 0
ReadsChaining target progress kind exclusions trace octets =
    (n : Node) × SpelledIn 6 (Set chaining_parts) n octets
    × ((r : Request) → record {
      target = target;
      progress = progress;
      kind = kind;
      exclusions = exclusions;
      trace = trace;
      request = r;
    } ≡ chaining_in r n)
