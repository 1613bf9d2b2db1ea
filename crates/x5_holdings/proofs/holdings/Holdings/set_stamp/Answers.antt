-- The copy at the place has another stamp, and the tables stay.
use Rattle.std.proofs.Common.{◌≡◌, ◌<◌, ℕ, length, ap, subst, sym, ◌∙◌, slice_set}
use Rattle.std.specs.Option.{option_map}
use Rattle.x5_holdings.specs.Inside.{state_of}
use Rattle.x5_holdings.specs.Placed.{IsCopyChanged}
use Rattle.x5_holdings.specs.State.{Kept, CopyKept, State, brought_references}
use Rattle.x5_holdings.proofs.Replacing.{copy_changed, same_tables, stamped_same, still_once}
use Rattle.x5_holdings.proofs.holdings.Holdings.set_stamp.Goals as goal

pub invariant_of-self : goal.invariant_of-self
invariant_of-self c = record {
  apart = c.self.invariant.apart;
  once = still_once (state_of c.self.inside).copies c.args.copy c.index_mut.result.now c.set_stamp.new.self
      c.index_mut.ensures.value (ap (λ (k : CopyKept). k.prefix) c.set_stamp.ensures) c.self.invariant.once;
  tables = same_tables (state_of c.self.inside) c.self.inside.tables c.args.copy c.index_mut.result.now
      c.set_stamp.new.self c.index_mut.ensures.value (ap (λ (k : CopyKept). k.prefix) c.set_stamp.ensures)
      (ap (λ (k : CopyKept). brought_references k.refreshed) c.set_stamp.ensures
      ∙ stamped_same c.index_mut.result.now.refreshed c.args.stamp) c.self.invariant.tables;
}

pub returns : goal.returns
returns c =
    let there : c.args.copy < length c.self.inside.copies.items = subst (λ (s : State). c.args.copy < length s.copies)
    (sym c.self.view_is) c.requires in
    subst (λ (s : State). IsCopyChanged s c.args.copy
    (λ before after. after ≡ record before { refreshed = option_map (λ (s : Kept × ℕ). (s.0, c.args.stamp)) before.refreshed })
    (record (state_of c.self.inside) { copies = slice_set c.self.inside.copies.items c.args.copy c.set_stamp.new.self }))
    c.self.view_is (copy_changed (state_of c.self.inside) c.args.copy c.index_mut.result.now c.set_stamp.new.self
    (λ before after. after ≡ record before { refreshed = option_map (λ (s : Kept × ℕ). (s.0, c.args.stamp)) before.refreshed })
    there c.index_mut.ensures.value c.set_stamp.ensures)
