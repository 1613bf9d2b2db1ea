-- What x5_eval asks of a read or compare, and what is found of it in x5_find's words.
use Rattle.std.proofs.Common.{◌≡◌, ℕ, true, refl}
use Rattle.x5_model.specs.Requests.{Body, Read, Compare, ListBelow, Search, AddEntry, RemoveEntry, ModifyEntry, ModifyDn}
use Rattle.x5_model.specs.References.{Chained}
use Rattle.x5_model_heard.specs.Kept.{looks_at_one}
use Rattle.x5_dse.specs.declared.node.NodeId.{NodeId}
use Rattle.x5_holdings.specs.State.{State}
use Rattle.x5_find.specs.Finds.{IsHere}
use Rattle.x5_eval.specs.Asked.{IsTarget}
use Rattle.x5_model_tree.specs.Ask.{is_read}

pub reads : (b : Body) → looks_at_one b ≡ true → is_read b ≡ true
reads (Read name s) e = refl
reads (Compare name a) e = refl
reads (ListBelow name) e = cc
reads (Search name s f l) e = cc
reads (AddEntry name a) e = cc
reads (RemoveEntry name) e = cc
reads (ModifyEntry name c) e = cc
reads (ModifyDn name r d) e = cc

pub own_target : (s : State) (m : Chained) (own : ℕ) (node : NodeId) → IsHere s m own node → IsTarget s m own node
own_target s m own node e = record { kept = e.kept; held = e.held; at = e.at }
