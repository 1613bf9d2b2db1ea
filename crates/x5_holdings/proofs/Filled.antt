-- The index of a context's entries may have its postings in any order: with the same postings it is of the same entries.
use Rattle.std.proofs.Common.{◌≡◌, true, false, ◌==◌, inl, inr, List, Option, Some, None}
use Rattle.x5_model.specs.Members.{In}
use Rattle.x5_model.proofs.Lists.{true_or_false, any_in, of_any}
use Rattle.x5_dse.specs.declared.node.NodeId.{NodeId}
use Rattle.x5_dse.specs.Linked.{Node, node_with}
use Rattle.x5_index.specs.Index.{Posting, is_there}
use Rattle.x5_index.specs.Places.{HaveSame}
use Rattle.x5_holdings.specs.State.{IsPosted, ArePosted}

module _ (old new : List Posting) (same : HaveSame old new) where
  posted_too : (id : NodeId) (o : Option Node) → IsPosted old id o → IsPosted new id o
  posted_too id None h =
      elim (true_or_false (is_there new id.0)) [
        | inl e ↦ absurd (none (of_any (λ p. p.node == id.0) new e))
        | inr e ↦ e
      ]
    where
      none : (p : Posting) × In p new × ((p.node == id.0) ≡ true) → ⊥
      none w =
          let e : is_there old id.0 ≡ true = any_in (λ p. p.node == id.0) w.0 old ((same w.0).0 w.1) w.2 in
          cc
  posted_too id (Some n) at = record {
    exact = λ kind normal. (
      (λ i. (at.exact kind normal).0 ((same (record { term = (kind, normal); node = id.0 })).0 i)),
      λ h. (same (record { term = (kind, normal); node = id.0 })).1 ((at.exact kind normal).1 h),
    );
  }

  pub posted_same : (nodes : List Node) → ArePosted old nodes → ArePosted new nodes
  posted_same nodes are id = posted_too id (node_with nodes id) (are id)
