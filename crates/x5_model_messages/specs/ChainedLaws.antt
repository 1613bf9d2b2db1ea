-- What is written of a message between agents whose parts are as they are spelled says it.
use Rattle.std.specs.Prelude.{◌≡◌, ℕ, List, [], ◌∷◌}
use Rattle.x5_model.specs.Values.{Rdn}
use Rattle.x5_model_messages.specs.Laws.{IsName, IsRdn, IsBody}
use Rattle.x5_model_messages.specs.Replies.{TraceItem}
use Rattle.x5_model_messages.specs.Chained.{Chained, chained_node, chained_in}

abbrev pub AreRdns : List Rdn → Type 0
AreRdns [] = Unit {0}
AreRdns (r ∷ rdns) = IsRdn r × AreRdns rdns

abbrev pub AreItems : List TraceItem → Type 0
AreItems [] = Unit {0}
AreItems (i ∷ items) = IsName i.target × AreItems items

abbrev pub IsChained : Chained → Type 0
IsChained m = IsName m.target × AreRdns m.exclusions × AreItems m.trace × IsBody m.request.body

-- Such a message is read back.
abbrev pub ChainedReadBack : Type 0
ChainedReadBack = (id : ℕ) (m : Chained) → IsChained m → chained_in (chained_node id m) ≡ (id, m)
