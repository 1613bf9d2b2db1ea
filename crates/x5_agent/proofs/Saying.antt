-- What an agent says of a read or compare is what name resolution finds by what it holds: each way that its code ends
-- is told in the words of the definition.
use Rattle.std.proofs.Common.{◌≡◌, ℕ, Bool, true, false, ◌&&◌, List, inl, sym, ap, ◌∙◌, Option, Some}
use Rattle.std.specs.Borrow.{Bor}
use Rattle.std.specs.List.{slice_get}
use Rattle.x5_model.specs.Values.{Name}
use Rattle.x5_model.specs.Answers as model
use Rattle.x5_model.specs.References.{Chained}
use Rattle.x5_model_run.specs.Journal.{is_done, is_wide}
use Rattle.x5_model_run.specs.Needs as needs
use Rattle.x5_model_run.specs.Placed.{fits}
use Rattle.x5_model_heard.specs.Kept.{looks_at_one}
use Rattle.x5_model_heard.specs.Told.{are_agents}
use Rattle.x5_model_serve.specs.Answering.{reply_in_own}
use Rattle.x5_model_serve.specs.Finding as finding
use Rattle.x5_dse.specs.declared.node.NodeId.{NodeId}
use Rattle.x5_holdings.specs.State.{Kept, State, held_view, holdings_view}
use Rattle.x5_find.specs.Finds.{IsHere, IsLowest, IsNowhere, agents_via, target_by, reference_by}
use Rattle.x5_find.specs.declared.found.Via.{Via}
use Rattle.x5_ops.specs.declared.references.Progress.{Progress}
use Rattle.x5_ops.specs.declared.references.RefType.{RefType}
use Rattle.x5_ops.specs.ReferenceViews.{progress_view, kind_view}
use Rattle.x5_model.specs.Entries.{Named}
use Rattle.x5_model.specs.References as ref
use Rattle.x5_agent.specs.Answers.{KnowsThem, IsReplied}
use Rattle.x5_agent.proofs.Alone.{unfinished}

-- a read or compare is never one that is passed below its entry
pub unpassed : (m : Chained) → looks_at_one m.request.body ≡ true → fits m ≡ true
    → (is_done m.progress && is_wide m.kind) ≡ false
unpassed m one fit = ap (λ (b : Bool). b && is_wide m.kind) (unfinished m one fit)

module _ (s : State) (m : Chained) where
  -- the reply in a context of its own
  pub replied_here : (own : ℕ) (node : NodeId) (y : model.Reply) → IsHere s m own node
      → ((c : Kept) → slice_get s.own own ≡ Some c → y ≡ reply_in_own s.me m (held_view c))
      → IsReplied (holdings_view s) m y
  replied_here own node y e told = inl (held_view e.kept, e.found, told e.kept e.held)

  module _ (kind : RefType) (progress : Progress) (known : Option (Bor Name)) (to : Via)
      (e : finding.find (holdings_view s) m ≡ finding.Onward (reference_by m kind progress known to)) where
    -- whom it asks are agents of the world
    pub asked_known : (n : ℕ) → KnowsThem n (holdings_view s) m → are_agents n (agents_via m.request to) ≡ true
    asked_known n knows = knows (reference_by m kind progress known to) e

    -- the reference of the code is this one
    pub goes_by : (agents : List ℕ) (r : ref.Reference) → agents ≡ agents_via m.request to
        → r ≡ needs.reference (target_by (progress_view progress) known m.target) (progress_view progress)
        (kind_view kind) agents
        → finding.find (holdings_view s) m ≡ finding.Onward r
    goes_by agents r a p =
        e ∙ ap finding.Onward (ap (needs.reference (target_by (progress_view progress) known m.target) (progress_view
        progress) (kind_view kind)) (sym a) ∙ sym p)

  -- the lowest entry on the way is told
  pub nowhere_by : (own : ℕ) (node : NodeId) (name : Name) → IsNowhere s m own node
      → ((named : Named) → IsLowest s own node named → name ≡ named.name)
      → finding.find (holdings_view s) m ≡ finding.Nowhere name
  nowhere_by own node name e is = e.found ∙ ap finding.Nowhere (sym (is e.named e.lowest))
