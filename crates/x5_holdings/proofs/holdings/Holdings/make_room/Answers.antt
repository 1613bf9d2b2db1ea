-- The context at the place has more room, and the tables stay.
use Rattle.std.proofs.Common.{◌<◌, length, sym, subst, refl, slice_set}
use Rattle.x5_holdings.specs.Inside.{state_of}
use Rattle.x5_holdings.specs.Making.{HasRoom, IsSame}
use Rattle.x5_holdings.specs.Placed.{IsOwnChanged}
use Rattle.x5_holdings.specs.State.{Kept, State}
use Rattle.x5_holdings.proofs.Holding.{got}
use Rattle.x5_holdings.proofs.Placing.{still_apart, same_tables, then_ok}
use Rattle.x5_holdings.proofs.holdings.Holdings.make_room.Goals as goal

pub invariant_of-self : goal.invariant_of-self
invariant_of-self c = record {
  apart = still_apart (state_of c.self.inside).own c.args.own c.index_mut.result.now c.make_room.new.self c.index_mut.ensures.value
      c.make_room.ensures.same.prefix c.self.invariant.apart;
  once = c.self.invariant.once;
  tables = same_tables (state_of c.self.inside) c.self.inside.tables c.args.own c.index_mut.result.now
      c.make_room.new.self c.index_mut.ensures.value c.make_room.ensures.same.prefix
      c.make_room.ensures.same.subordinate c.self.invariant.tables;
}

pub returns-clause-same : goal.returns-clause-same
returns-clause-same c =
    let there : c.args.own < length c.self.inside.own.items = subst (λ (s : State). c.args.own < length s.own)
    (sym c.self.view_is) c.requires in
    subst (λ (s : State). IsOwnChanged s c.args.own IsSame
    (record (state_of c.self.inside) { own = slice_set c.self.inside.own.items c.args.own c.make_room.new.self }))
    c.self.view_is (record {
      before = c.index_mut.result.now;
      after = c.make_room.new.self;
      was = got c.self.inside.own.items c.args.own c.index_mut.result.now there c.index_mut.ensures.value;
      changed = c.make_room.ensures.same;
      new_is = refl;
    })

pub returns-clause-ok : goal.returns-clause-ok
returns-clause-ok c =
    let there : c.args.own < length c.self.inside.own.items = subst (λ (s : State). c.args.own < length s.own)
    (sym c.self.view_is) c.requires in
    then_ok c.make_room.result (λ (room : HasRoom c.make_room.new.self c.args.entries c.args.values).
    subst (λ (s : State). IsOwnChanged s c.args.own (λ (b a : Kept). HasRoom a c.args.entries c.args.values)
    (record (state_of c.self.inside) { own = slice_set c.self.inside.own.items c.args.own c.make_room.new.self }))
    c.self.view_is (record {
      before = c.index_mut.result.now;
      after = c.make_room.new.self;
      was = got c.self.inside.own.items c.args.own c.index_mut.result.now there c.index_mut.ensures.value;
      changed = room;
      new_is = refl;
    })) c.make_room.ensures.ok
