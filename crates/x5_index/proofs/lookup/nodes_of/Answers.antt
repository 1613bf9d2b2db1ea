-- The postings from the place on are those of the value, and others behind them.
use Rattle.x5_index.proofs.Finding.{if_found}
use Rattle.x5_index.proofs.lookup.nodes_of.Goals as goal

pub returns : goal.returns
returns c =
    if_found c.args.postings.now (c.args.kind, c.args.normal.now) c.first_place-first.result c.nodes_from.result c.requires c.first_place-first.ensures.place c.nodes_from.ensures
