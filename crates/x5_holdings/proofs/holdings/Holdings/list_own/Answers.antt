-- The context at the place is what it was, and so is all that the agent holds.
use Rattle.std.proofs.Common.{◌≡◌, ◌<◌, List, Some, length, slice_get, sym, subst, ap, ◌∙◌}
use Rattle.x5_holdings.specs.Inside.{state_of}
use Rattle.x5_holdings.specs.State.{Kept, State}
use Rattle.x5_holdings.proofs.Holding.{got}
use Rattle.x5_holdings.proofs.Placing.{still_apart, same_tables}
use Rattle.x5_holdings.proofs.Unchanged.{put_back}
use Rattle.x5_holdings.proofs.holdings.Holdings.list_own.Goals as goal

pub list-requires : goal.list-requires
list-requires c =
    let there : c.args.own < length c.self.inside.own.items = subst (λ (s : State). c.args.own < length s.own)
    (sym c.self.view_is) c.requires.there in
    c.requires.listed c.index_mut.result.now
    (subst (λ (s : State). slice_get s.own c.args.own ≡ Some c.index_mut.result.now) c.self.view_is
    (got c.self.inside.own.items c.args.own c.index_mut.result.now there c.index_mut.ensures.value))

pub invariant_of-self : goal.invariant_of-self
invariant_of-self c = record {
  apart = still_apart (state_of c.self.inside).own c.args.own c.index_mut.result.now c.list.new.self c.index_mut.ensures.value
      (ap (λ (k : Kept). k.prefix) c.list.ensures) c.self.invariant.apart;
  once = c.self.invariant.once;
  tables = same_tables (state_of c.self.inside) c.self.inside.tables c.args.own c.index_mut.result.now c.list.new.self
      c.index_mut.ensures.value (ap (λ (k : Kept). k.prefix) c.list.ensures)
      (ap (λ (k : Kept). k.subordinate) c.list.ensures) c.self.invariant.tables;
}

pub returns : goal.returns
returns c =
    ap (λ (l : List Kept). record (state_of c.self.inside) { own = l })
    (put_back c.self.inside.own.items c.args.own c.index_mut.result.now c.list.new.self c.index_mut.ensures.value
    c.list.ensures)
    ∙ c.self.view_is
