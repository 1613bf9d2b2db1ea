-- None of those below the first row's first RDNs has just so many.
use Rattle.std.proofs.Common.{[], ap, ◌∙◌}
use Rattle.x5_model.specs.Values.{key_of}
use Rattle.x5_holdings.specs.Rows.{KeyRow}
use Rattle.x5_holdings.proofs.Under.{behind_name, some_under, none_missed}
use Rattle.x5_holdings.proofs.runs.count_longer.Goals as goal

pub bounds-rows-0 : goal.bounds-rows-0
bounds-rows-0 c = (c.requires.longer ([], 0)).0

pub count_under-requires-clause-behind : goal.count_under-requires-clause-behind
count_under-requires-clause-behind c =
    let w = c.requires.longer c.index-rows-0.result in
    behind_name c.args.rows.now c.requires.ordered c.args.count c.index-rows-0.result w.0 w.1 c.rdns-rdns.result.now
    (ap key_of c.rdns-rdns.ensures ∙ c.name.ensures ∙ ap (λ (r : KeyRow). r.0) c.index-rows-0.is)

pub returns-clause-some : goal.returns-clause-some
returns-clause-some c =
    let w = c.requires.longer c.index-rows-0.result in
    some_under c.args.rows.now c.requires.ordered c.args.count c.index-rows-0.result w.0 w.1 c.rdns-rdns.result.now
    (ap key_of c.rdns-rdns.ensures ∙ c.name.ensures ∙ ap (λ (r : KeyRow). r.0) c.index-rows-0.is)
    c.count_under.result c.count_under.ensures.parts

pub returns-clause-rest : goal.returns-clause-rest
returns-clause-rest c =
    let w = c.requires.longer c.index-rows-0.result in
    none_missed c.args.rows.now c.requires.ordered c.args.count c.index-rows-0.result w.0 w.1 c.rdns-rdns.result.now
    (ap key_of c.rdns-rdns.ensures ∙ c.name.ensures ∙ ap (λ (r : KeyRow). r.0) c.index-rows-0.is)
    c.count_under.result c.count_under.ensures.parts c.count_under.ensures.within
