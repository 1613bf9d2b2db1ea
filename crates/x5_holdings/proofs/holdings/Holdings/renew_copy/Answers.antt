-- The copy at the place has the references that come, and the table of the copies' references is that of the copies with them.
use Rattle.std.proofs.Common.{◌≡◌, ◌<◌, List, Some, length, map, ap, subst, sym, ◌∙◌, slice_get, slice_set}
use Rattle.x5_ops.specs.declared.knowledge.Specific.{Specific}
use Rattle.x5_holdings.specs.Inside.{state_of}
use Rattle.x5_holdings.specs.Placed.{IsCopyChanged, IsRenewed}
use Rattle.x5_holdings.specs.Spots.{AreBelow}
use Rattle.x5_holdings.specs.State.{CopyKept, State, brought_references}
use Rattle.x5_holdings.proofs.Holding.{got}
use Rattle.x5_holdings.proofs.Unchanged.{on_err, put_back}
use Rattle.x5_holdings.proofs.Replacing.{copy_changed, refreshed_tables, same_tables, still_once}
use Rattle.x5_holdings.proofs.holdings.Holdings.renew_copy.Goals as goal

pub renew-requires : goal.renew-requires
renew-requires c =
    let there : c.args.copy < length c.self.inside.copies.items = subst (λ (s : State). c.args.copy < length s.copies)
    (sym c.self.view_is) c.requires.there in
    c.requires.refreshed c.index_mut.result.now
    (subst (λ (s : State). slice_get s.copies c.args.copy ≡ Some c.index_mut.result.now) c.self.view_is
    (got c.self.inside.copies.items c.args.copy c.index_mut.result.now there c.index_mut.ensures.value))

pub invariant_of-self : goal.invariant_of-self
invariant_of-self c = record {
  apart = c.self.invariant.apart;
  once = still_once (state_of c.self.inside).copies c.args.copy c.index_mut.result.now c.renew.new.self
      c.index_mut.ensures.value (ap (λ (k : CopyKept). k.prefix) c.in_err-renew.ensures.err) c.self.invariant.once;
  tables = same_tables (state_of c.self.inside) c.self.inside.tables c.args.copy c.index_mut.result.now
      c.renew.new.self c.index_mut.ensures.value (ap (λ (k : CopyKept). k.prefix) c.in_err-renew.ensures.err)
      (ap (λ (k : CopyKept). brought_references k.refreshed) c.in_err-renew.ensures.err) c.self.invariant.tables;
}

pub returns-in_err-renew-clause-err : goal.returns-in_err-renew-clause-err
returns-in_err-renew-clause-err c =
    on_err c.from_residual-in_err-renew.result
    (ap (λ (l : List CopyKept). record (state_of c.self.inside) { copies = l })
    (put_back c.self.inside.copies.items c.args.copy c.index_mut.result.now c.renew.new.self c.index_mut.ensures.value
    c.in_err-renew.ensures.err)
    ∙ c.self.view_is)

pub invariant_of-self-2 : goal.invariant_of-self-2
invariant_of-self-2 c =
    let f : CopyKept → List Specific = λ x. brought_references x.refreshed in
    let renewed = c.in_ok-renew.ensures.ok in
    let below : AreBelow c.in_ok-references.references (slice_set (map f c.self.inside.copies.items) c.args.copy c.args.subordinate) =
    subst (λ (cs : List CopyKept). AreBelow c.in_ok-references.references (slice_set (map f cs) c.args.copy c.args.subordinate))
    c.deref.ensures.value
    (subst (λ (ks : List Specific). AreBelow c.in_ok-references.references (slice_set (map f c.deref.result.now) c.args.copy ks))
    c.as_slice.ensures c.in_ok-references.ensures) in
    record {
      apart = c.self.invariant.apart;
      once = still_once (state_of c.self.inside).copies c.args.copy c.index_mut.result.now c.renew.new.self
          c.index_mut.ensures.value (ap (λ (k : CopyKept). k.prefix) renewed.after_is) c.self.invariant.once;
      tables = refreshed_tables (state_of c.self.inside) c.self.inside.tables c.args.copy c.index_mut.result.now
          c.renew.new.self c.in_ok-references.references c.args.subordinate c.index_mut.ensures.value
          (ap (λ (k : CopyKept). k.prefix) renewed.after_is)
          (ap (λ (k : CopyKept). brought_references k.refreshed) renewed.after_is) below c.self.invariant.tables;
    }

pub returns-clause-ok : goal.returns-clause-ok
returns-clause-ok c =
    let there : c.args.copy < length c.self.inside.copies.items = subst (λ (s : State). c.args.copy < length s.copies)
    (sym c.self.view_is) c.requires.there in
    subst (λ (s : State). IsCopyChanged s c.args.copy
    (IsRenewed c.args.log c.args.subordinate c.args.nssrs c.args.stamp)
    (record (state_of c.self.inside) { copies = slice_set c.self.inside.copies.items c.args.copy c.renew.new.self }))
    c.self.view_is (copy_changed (state_of c.self.inside) c.args.copy c.index_mut.result.now c.renew.new.self
    (IsRenewed c.args.log c.args.subordinate c.args.nssrs c.args.stamp)
    there c.index_mut.ensures.value c.in_ok-renew.ensures.ok)
