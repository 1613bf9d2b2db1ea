-- The copy at the place is changed, and the tables stay.
use Rattle.std.proofs.Common.{◌<◌, length, ap, subst, sym, slice_set}
use Rattle.x5_holdings.specs.Inside.{state_of}
use Rattle.x5_holdings.specs.Making.{IsChanged, IsLeft}
use Rattle.x5_holdings.specs.Placed.{IsBroughtChanged, IsCopyChanged}
use Rattle.x5_holdings.specs.State.{CopyKept, State}
use Rattle.x5_holdings.proofs.Replacing.{brought_same, copy_changed, same_tables, still_once}
use Rattle.x5_holdings.proofs.holdings.Holdings.change_copy.Goals as goal

pub invariant_of-self : goal.invariant_of-self
invariant_of-self c = record {
  apart = c.self.invariant.apart;
  once = still_once (state_of c.self.inside).copies c.args.copy c.index_mut.result.now c.change.new.self
      c.index_mut.ensures.value (ap (λ (k : CopyKept). k.prefix) c.change.ensures.after_is) c.self.invariant.once;
  tables = same_tables (state_of c.self.inside) c.self.inside.tables c.args.copy c.index_mut.result.now
      c.change.new.self c.index_mut.ensures.value (ap (λ (k : CopyKept). k.prefix) c.change.ensures.after_is)
      (brought_same (λ before after. IsChanged before c.args.change c.args.logged after × IsLeft before c.args.change after)
      c.index_mut.result.now c.change.new.self c.change.ensures (λ a b h. h.0.subordinate)) c.self.invariant.tables;
}

pub returns : goal.returns
returns c =
    let there : c.args.copy < length c.self.inside.copies.items = subst (λ (s : State). c.args.copy < length s.copies)
    (sym c.self.view_is) c.requires.there in
    subst (λ (s : State). IsCopyChanged s c.args.copy
    (IsBroughtChanged (λ before after. IsChanged before c.args.change c.args.logged after × IsLeft before c.args.change after))
    (record (state_of c.self.inside) { copies = slice_set c.self.inside.copies.items c.args.copy c.change.new.self }))
    c.self.view_is (copy_changed (state_of c.self.inside) c.args.copy c.index_mut.result.now c.change.new.self
    (IsBroughtChanged (λ before after. IsChanged before c.args.change c.args.logged after × IsLeft before c.args.change after))
    there c.index_mut.ensures.value c.change.ensures)
