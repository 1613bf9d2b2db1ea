-- What is kept of a context, and of all that an agent holds.
use Rattle.std.specs.Prelude.{◌≡◌, true, map, IfSome}
use Rattle.x5_dse.specs.Linked.{entries_of}
use Rattle.x5_model.specs.Values.{key_of}
use Rattle.x5_holdings.specs.Rows.{AreRowsOf}
use Rattle.x5_holdings.specs.State.{Kept, CopyKept, State, IsKept, IsBrought, are_once, are_apart}
use Rattle.x5_holdings.specs.Tables.{AreTables}
use Rattle.x5_holdings.specs.declared.held.Held.TheInside as held
use Rattle.x5_holdings.specs.declared.held.Copied.TheInside as copied
use Rattle.x5_holdings.specs.declared.filling.Filling.TheInside as filling
use Rattle.x5_holdings.specs.declared.holdings.Holdings.TheInside as holdings

abbrev pub kept_view : held.Inside → Kept
kept_view h = record {
  prefix = h.prefix;
  nodes = h.tree;
  postings = h.postings;
  log = h.log;
  subordinate = h.subordinate;
  nssrs = h.nssrs;
}

pub record IsHeld (h : held.Inside) : Type 0 where
  pub kept : IsKept (kept_view h)
  pub below : AreRowsOf h.below (map (λ k. key_of k.pin) h.subordinate)
  pub wide : AreRowsOf h.wide (map (λ n. key_of n.at) h.nssrs)
  pub listed : IfSome h.listing (λ l. l ≡ entries_of h.tree.nodes)

-- a context that is being filled, its postings as they came
abbrev pub filling_view : filling.Inside → Kept
filling_view f = record {
  prefix = f.prefix;
  nodes = f.tree;
  postings = f.postings;
  log = f.log;
  subordinate = f.subordinate;
  nssrs = f.nssrs;
}

pub record IsFilling (f : filling.Inside) : Type 0 where
  pub kept : IsKept (filling_view f)
  pub below : AreRowsOf f.below (map (λ k. key_of k.pin) f.subordinate)
  pub wide : AreRowsOf f.wide (map (λ n. key_of n.at) f.nssrs)

abbrev pub copy_kept : copied.Inside → CopyKept
copy_kept c = record { prefix = c.prefix; supplier = c.supplier; refreshed = c.refreshed }

abbrev pub IsCopied : copied.Inside → Type 0
IsCopied c = IsBrought c.prefix c.refreshed

abbrev pub state_of : holdings.Inside → State
state_of a = record {
  me = a.me;
  moment = a.moment;
  superior = a.superior;
  own = a.own.items;
  copies = a.copies.items;
  root = a.root;
  cross = a.cross;
}

pub record AreHoldings (a : holdings.Inside) : Type 0 where
  pub apart : are_apart (state_of a).own ≡ true
  pub once : are_once (state_of a).copies ≡ true
  pub tables : AreTables (state_of a) a.tables
