-- The context at the place is changed, and the tables stay.
use Rattle.std.proofs.Common.{◌<◌, length, sym, subst, refl, slice_set}
use Rattle.x5_holdings.specs.Inside.{state_of}
use Rattle.x5_holdings.specs.Making.{IsChanged}
use Rattle.x5_holdings.specs.Placed.{IsOwnChanged}
use Rattle.x5_holdings.specs.State.{State}
use Rattle.x5_holdings.proofs.Holding.{got}
use Rattle.x5_holdings.proofs.Placing.{still_apart, same_tables}
use Rattle.x5_holdings.proofs.holdings.Holdings.change.Goals as goal

pub invariant_of-self : goal.invariant_of-self
invariant_of-self c = record {
  apart = still_apart (state_of c.self.inside).own c.args.own c.index_mut.result.now c.change.new.self c.index_mut.ensures.value
      c.change.ensures.changed.prefix c.self.invariant.apart;
  once = c.self.invariant.once;
  tables = same_tables (state_of c.self.inside) c.self.inside.tables c.args.own c.index_mut.result.now c.change.new.self
      c.index_mut.ensures.value c.change.ensures.changed.prefix c.change.ensures.changed.subordinate c.self.invariant.tables;
}

pub returns : goal.returns
returns c =
    let there : c.args.own < length c.self.inside.own.items = subst (λ (s : State). c.args.own < length s.own)
    (sym c.self.view_is) c.requires.there in
    subst (λ (s : State). IsOwnChanged s c.args.own (λ before after. IsChanged before c.args.change c.args.logged after)
    (record (state_of c.self.inside) { own = slice_set c.self.inside.own.items c.args.own c.change.new.self }))
    c.self.view_is (record {
      before = c.index_mut.result.now;
      after = c.change.new.self;
      was = got c.self.inside.own.items c.args.own c.index_mut.result.now there c.index_mut.ensures.value;
      changed = c.change.ensures.changed;
      new_is = refl;
    })
