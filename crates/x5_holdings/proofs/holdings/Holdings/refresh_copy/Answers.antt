-- The copy at the place has what was brought, and the table of the copies' references is that of the copies with it.
use Rattle.std.proofs.Common.{◌≡◌, ◌<◌, List, Some, length, map, ap, subst, sym, slice_set}
use Rattle.x5_ops.specs.declared.knowledge.Specific.{Specific}
use Rattle.x5_holdings.specs.Inside.{state_of}
use Rattle.x5_holdings.specs.Placed.{IsCopyChanged}
use Rattle.x5_holdings.specs.Spots.{AreBelow}
use Rattle.x5_holdings.specs.State.{CopyKept, State, brought_references}
use Rattle.x5_holdings.proofs.Replacing.{copy_changed, refreshed_tables, still_once}
use Rattle.x5_holdings.proofs.holdings.Holdings.refresh_copy.Goals as goal

pub invariant_of-self : goal.invariant_of-self
invariant_of-self c =
    let f : CopyKept → List Specific = λ x. brought_references x.refreshed in
    let below : AreBelow c.in-Ok.below (slice_set (map f c.self.inside.copies.items) c.args.copy c.args.held.subordinate) =
    subst (λ (cs : List CopyKept). AreBelow c.in-Ok.below (slice_set (map f cs) c.args.copy c.args.held.subordinate))
    c.deref.ensures.value
    (subst (λ (ks : List Specific). AreBelow c.in-Ok.below (slice_set (map f c.deref.result.now) c.args.copy ks))
    c.subordinate.ensures c.in-Ok.ensures) in
    record {
      apart = c.self.invariant.apart;
      once = still_once (state_of c.self.inside).copies c.args.copy c.index_mut.result.now c.take.new.self
          c.index_mut.ensures.value (ap (λ (k : CopyKept). k.prefix) c.take.ensures) c.self.invariant.once;
      tables = refreshed_tables (state_of c.self.inside) c.self.inside.tables c.args.copy c.index_mut.result.now
          c.take.new.self c.in-Ok.below c.args.held.subordinate c.index_mut.ensures.value
          (ap (λ (k : CopyKept). k.prefix) c.take.ensures)
          (ap (λ (k : CopyKept). brought_references k.refreshed) c.take.ensures) below c.self.invariant.tables;
    }

pub returns-in-Ok-clause-ok : goal.returns-in-Ok-clause-ok
returns-in-Ok-clause-ok c =
    let there : c.args.copy < length c.self.inside.copies.items = subst (λ (s : State). c.args.copy < length s.copies)
    (sym c.self.view_is) c.requires.there in
    subst (λ (s : State). IsCopyChanged s c.args.copy
    (λ before after. after ≡ record before { refreshed = Some (c.args.held, c.args.stamp) })
    (record (state_of c.self.inside) { copies = slice_set c.self.inside.copies.items c.args.copy c.take.new.self }))
    c.self.view_is (copy_changed (state_of c.self.inside) c.args.copy c.index_mut.result.now c.take.new.self
    (λ before after. after ≡ record before { refreshed = Some (c.args.held, c.args.stamp) })
    there c.index_mut.ensures.value c.take.ensures)
