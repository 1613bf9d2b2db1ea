-- What is found at a place is the change that is due there.
use Rattle.std.proofs.Common.{◌≡◌, ℕ, sym, ap, subst, ◌∙◌}
use Rattle.x5_model.specs.Values.{key_of}
use Rattle.x5_dse.specs.Linked.{IsLinked, Nodes, entries_of}
use Rattle.x5_holdings.specs.declared.changing.EntryChange.{EntryChange}
use Rattle.x5_holdings.specs.State.{CopyKept, IsKept, Kept, State}
use Rattle.x5_consume.specs.declared.ready.Ready.{Ready}
use Rattle.x5_consume.specs.Ready.{IsChangeFor, IsDue, IsFindable, CopyStands}
use Rattle.x5_consume.proofs.Placing.{one_kept}

abbrev pub Brought : Kept → CopyKept → Kept → Type 0
Brought h copy kept = (h ≡ kept) × (key_of kept.prefix ≡ key_of copy.prefix)

module _ (s : State) (place : ℕ) (given : Ready) (h : Kept) (t : Nodes)
    (b : CopyStands s place (λ copy kept. (h ≡ kept) × (key_of kept.prefix ≡ key_of copy.prefix))) (nodes : t ≡ h.nodes) where
  same : t ≡ b.kept.nodes
  same = nodes ∙ ap (λ (k : Kept). k.nodes) b.is.0

  pub find_at : CopyStands s place (λ copy kept. IsFindable (entries_of kept.nodes.nodes) given) → IsFindable (entries_of t.nodes) given
  find_at v =
      subst (λ (ns : Nodes). IsFindable (entries_of ns.nodes) given)
      (sym (same ∙ ap (λ (k : Kept). k.nodes)
      (one_kept s place (Brought h) (λ copy kept. IsFindable (entries_of kept.nodes.nodes) given) b v))) v.is

  pub due_at : (change : EntryChange) → IsChangeFor t.nodes given change → IsLinked t.nodes → IsKept h
      → CopyStands s place (IsDue given change)
  due_at change x linked kept = record {
    copy = b.copy;
    kept = b.kept;
    stamp = b.stamp;
    there = b.there;
    refreshed = b.refreshed;
    is = record {
      change_is = subst (λ (ns : Nodes). IsChangeFor ns.nodes given change) same x;
      linked = subst (λ (ns : Nodes). IsLinked ns.nodes) same linked;
      whole = subst IsKept b.is.0 kept;
      brought = b.is.1;
    };
  }
