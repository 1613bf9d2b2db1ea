-- The copy at the place has more room, and the tables stay.
use Rattle.std.proofs.Common.{◌<◌, length, ap, subst, sym, slice_set}
use Rattle.x5_holdings.specs.Inside.{state_of}
use Rattle.x5_holdings.specs.Making.{HasRoomFor, IsSame}
use Rattle.x5_holdings.specs.Placed.{IsBroughtChanged, IsCopyChanged}
use Rattle.x5_holdings.specs.State.{CopyKept, State}
use Rattle.x5_holdings.proofs.Placing.{then_ok}
use Rattle.x5_holdings.proofs.Replacing.{brought_same, copy_changed, same_tables, still_once}
use Rattle.x5_holdings.proofs.holdings.Holdings.make_room_at_copy.Goals as goal

pub invariant_of-self : goal.invariant_of-self
invariant_of-self c = record {
  apart = c.self.invariant.apart;
  once = still_once (state_of c.self.inside).copies c.args.copy c.index_mut.result.now c.make_room.new.self
      c.index_mut.ensures.value (ap (λ (k : CopyKept). k.prefix) c.make_room.ensures.same.after_is) c.self.invariant.once;
  tables = same_tables (state_of c.self.inside) c.self.inside.tables c.args.copy c.index_mut.result.now
      c.make_room.new.self c.index_mut.ensures.value (ap (λ (k : CopyKept). k.prefix) c.make_room.ensures.same.after_is)
      (brought_same IsSame c.index_mut.result.now c.make_room.new.self c.make_room.ensures.same (λ a b h. h.subordinate))
      c.self.invariant.tables;
}

pub returns-clause-same : goal.returns-clause-same
returns-clause-same c =
    let there : c.args.copy < length c.self.inside.copies.items = subst (λ (s : State). c.args.copy < length s.copies)
    (sym c.self.view_is) c.requires.there in
    subst (λ (s : State). IsCopyChanged s c.args.copy (IsBroughtChanged IsSame)
    (record (state_of c.self.inside) { copies = slice_set c.self.inside.copies.items c.args.copy c.make_room.new.self }))
    c.self.view_is (copy_changed (state_of c.self.inside) c.args.copy c.index_mut.result.now c.make_room.new.self
    (IsBroughtChanged IsSame) there c.index_mut.ensures.value c.make_room.ensures.same)

pub returns-clause-ok : goal.returns-clause-ok
returns-clause-ok c =
    let there : c.args.copy < length c.self.inside.copies.items = subst (λ (s : State). c.args.copy < length s.copies)
    (sym c.self.view_is) c.requires.there in
    let how : CopyKept → CopyKept → Type 0 =
    IsBroughtChanged (λ before after. IsSame before after × HasRoomFor after c.args.entries c.args.values c.args.changes) in
    then_ok c.make_room.result (λ (made : how c.index_mut.result.now c.make_room.new.self).
    subst (λ (s : State). IsCopyChanged s c.args.copy how
    (record (state_of c.self.inside) { copies = slice_set c.self.inside.copies.items c.args.copy c.make_room.new.self }))
    c.self.view_is (copy_changed (state_of c.self.inside) c.args.copy c.index_mut.result.now c.make_room.new.self
    how there c.index_mut.ensures.value made)) c.make_room.ensures.ok
